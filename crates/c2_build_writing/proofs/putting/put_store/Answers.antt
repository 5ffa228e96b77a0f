use Rattle.std.proofs.Common.{subst, sym}
use Rattle.c2_copying.specs.Writing.{IsStep}
use Rattle.c2_build_writing.specs.Puts.{put_of}
use Rattle.c2_build_refusals.specs.declared.types.Put.{Put}
use Rattle.c2_build_writing.proofs.putting.put_store.Goals as goal

-- the box is put in
pub returns-in-Box-clause-step : goal.returns-in-Box-clause-step
returns-in-Box-clause-step g c =
    subst (λ (p : Put). IsStep g.K.Sink.written g.K.Sink.spare g.K.Sink.finished (put_of p c.args.store.now) c.args.out.now c.write_boxed.new.out c.write_boxed.result) (sym c.in-Box.is) c.write_boxed.ensures.step

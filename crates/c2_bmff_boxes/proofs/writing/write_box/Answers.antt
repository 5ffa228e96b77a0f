use Rattle.std.proofs.Common.{arith, subst}
use Rattle.std.specs.Prelude.{OnOk}
use Rattle.c2_base.specs.Sink.{Spends}
use Rattle.c2_bmff_boxes.proofs.writing.write_box.Goals as goal
use Rattle.c2_spec.proofs.BmffShared.{c2pa_box_length}

-- the spare falls by the length of the box
pub returns-clause-spare : goal.returns-clause-spare
returns-clause-spare g c =
    subst (λ n. OnOk c.put_box.result (Spends (g.K.Sink.spare c.args.sink.now) (g.K.Sink.spare c.put_box.new.sink) n))
    (c2pa_box_length c.args.store.now) c.put_box.ensures.less

-- within the spare the box is taken
pub returns-clause-within : goal.returns-clause-within
returns-clause-within g c s is fits =
    c.put_box.ensures.within s is (omega (arith, c2pa_box_length c.args.store.now, fits))

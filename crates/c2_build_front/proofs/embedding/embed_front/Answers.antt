use Rattle.c2_new_front_spec.proofs.TheLaws.{a_front_comes_to_one_thing_made, a_made_front_meets_the_rules}
use Rattle.std.proofs.Common.{List, refl, subst, sym, ℕ, ◌∙◌}
use Rattle.std.specs.Prelude.{Ok}
use Rattle.c2_copying.specs.Writing.{Breaks, Delivers, IsOverSpare, ending_of}
use Rattle.c2_bmff_binding_front.specs.Putting.{with_store}
use Rattle.c2_new_front_spec.specs.Outcomes.{IsFrontMade}
use Rattle.c2_build_front.proofs.Causes.{prepares}
use Rattle.c2_build_in_place.proofs.Endings.{all_written, unwritten}
use Rattle.c2_build_in_place.proofs.Leaving.{room_broken, room_unwritten, signed_broken, signed_copied, signed_failed, sink_broken, sink_copied, sink_unwritten}
use Rattle.c2_build_front.specs.Answers.{Writes, embed_effects, prepare_effects}
use Rattle.c2_build_front.proofs.Ended.{broken_off, front_most, opened_once, range_is, told_of_file}
use Rattle.c2_build_front.specs.Steps.{front_file_len}
use Rattle.c2_build_front.proofs.embedding.embed_front.Goals as goal

-- ---- nothing is ready to be written

pub returns-in-Err-clause-embedded : goal.returns-in-Err-clause-embedded
returns-in-Err-clause-embedded g c = λ file known bytes due message due'. record {
  answered = c.in-Err.ensures.prepared.ready file known bytes due message due';
  wrote =
      unwritten prepare_effects (λ h. h) _ g.K.Sink.written g.K.Sink.spare g.K.Sink.finished _ c.args.out.now _ _ _
      c.in-Err.ensures.sources.media.cause;
  meets = tt;
}

pub returns-in-Err-clause-sources : goal.returns-in-Err-clause-sources
returns-in-Err-clause-sources g c =
    signed_failed prepare_effects embed_effects prepares _ _ _ c.in-Err.error c.in-Err.ensures.sources

pub returns-in-Err-clause-spare : goal.returns-in-Err-clause-spare
returns-in-Err-clause-spare g c =
    room_unwritten prepare_effects (λ h. h) _ _ _ _ c.in-Err.ensures.sources.media.cause _ _

pub returns-in-Err-clause-sink : goal.returns-in-Err-clause-sink
returns-in-Err-clause-sink g c =
    sink_unwritten prepare_effects (λ h. h) _ _ _ c.args.out.now c.in-Err.error c.in-Err.ensures.sources.media.cause

-- ---- the file is written, and meets the rules

pub returns-in-Ok-write_front-clause-embedded : goal.returns-in-Ok-write_front-clause-embedded
returns-in-Ok-write_front-clause-embedded g c = λ file known bytes due message due'.
    let hash = g.H.Hashing.digest_of in
    let h = c.in-Ok.ensures.prepared.ready file known bytes due message due' in
    let whole =
    subst
    (λ (store : List ℕ). Delivers g.K.Sink.written g.K.Sink.finished (with_store c.in-Ok.ready.front store file) c.args.out.now c.write_front.new.out)
    c.as_slice-store.ensures.value
    (c.in-Ok-write_front.ensures.written.whole file (c.in-Ok.ensures.sources.media.stays.same_bytes ∙ known)) in
    let told = told_of_file hash file bytes message h.0 _ h.1 due in
    record {
      answered = (h.0, h.1, range_is c.in-Ok.ready h.0 _ h.2 refl refl);
      wrote = all_written g.K.Sink.written g.K.Sink.spare g.K.Sink.finished (Writes (IsFrontMade hash file bytes message))
          (with_store c.in-Ok.ready.front c.in-Ok.ready.store file) c.args.out.now c.write_front.new.out
          (Ok h.0, h.1, sym h.2.file) whole;
      meets =
          λ b is. a_made_front_meets_the_rules hash file bytes message b g.met.H.Hashing.is_digest (c.in-Ok.ensures.prepared.texts bytes told) (g.met.A.Source.known_bytes c.args.media.now file known) is;
    }

pub returns-in-Ok-write_front-clause-sources : goal.returns-in-Ok-write_front-clause-sources
returns-in-Ok-write_front-clause-sources g c =
    signed_copied _ _ _ c.write_front.new.media c.in-Ok.ready _ _ c.in-Ok.ensures.sources c.in-Ok-write_front.ensures.reads

pub returns-in-Ok-write_front-clause-sink : goal.returns-in-Ok-write_front-clause-sink
returns-in-Ok-write_front-clause-sink g c =
    sink_copied _ _ c.in-Ok-write_front.ensures.writes c.in-Ok-write_front.ensures.written.finish

-- ---- it is begun, and then the media or the sink fails

pub returns-clause-embedded : goal.returns-clause-embedded
returns-clause-embedded g c = λ file known bytes due message due'.
    let hash = g.H.Hashing.digest_of in
    let h = c.in-Ok.ensures.prepared.ready file known bytes due message due' in
    let one = a_front_comes_to_one_thing_made hash file bytes message in
    let once = opened_once file in
    let whole =
    subst
    (λ (store : List ℕ). Breaks g.K.Sink.written g.K.Sink.spare g.K.Sink.finished (with_store c.in-Ok.ready.front store file) c.args.out.now c.write_front.new.out (ending_of c.in-Err-write_front.error))
    c.as_slice-store.ensures.value
    (c.in-Err-write_front.ensures.written.whole file (c.in-Ok.ensures.sources.media.stays.same_bytes ∙ known)) in
    broken_off g.K.Sink.written g.K.Sink.spare g.K.Sink.finished hash file bytes message (λ x y. one x y once) c.in-Ok.ready h.0 c.args.out.now c.write_front.new.out c.in-Err-write_front.error c.copy_fault.result c.copy_fault.ensures h.1 h.2 whole

pub returns-clause-sources : goal.returns-clause-sources
returns-clause-sources g c =
    signed_broken embed_effects tt _ _ _ c.write_front.new.media c.in-Ok.ready c.in-Err-write_front.error c.copy_fault.result
    c.copy_fault.ensures c.in-Ok.ensures.sources c.in-Err-write_front.ensures.reads

pub returns-clause-spare : goal.returns-clause-spare
returns-clause-spare g c =
    let over =
    subst
    (λ (store : List ℕ). IsOverSpare (ending_of c.in-Err-write_front.error) (g.K.Sink.spare c.args.out.now) (front_file_len c.in-Ok.ready.front store))
    c.as_slice-store.ensures.value c.in-Err-write_front.ensures.written.over in
    room_broken c.in-Err-write_front.error c.copy_fault.result c.copy_fault.ensures _ _ _ over
    (front_most _ c.in-Ok.ready c.in-Ok.ensures.prepared.can_write)

pub returns-clause-sink : goal.returns-clause-sink
returns-clause-sink g c =
    sink_broken c.in-Err-write_front.error c.copy_fault.result c.copy_fault.ensures c.in-Err-write_front.ensures.writes
    c.in-Err-write_front.ensures.written.finish

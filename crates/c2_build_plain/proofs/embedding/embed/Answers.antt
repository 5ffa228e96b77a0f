use Rattle.c2_build_plain.proofs.TheLaws.{a_new_file_meets_the_rules}
use Rattle.std.proofs.Common.{map, refl, sym, ◌∙◌}
use Rattle.std.specs.Prelude.{Err, Ok}
use Rattle.c2_spec.specs.Judges.Panel.{panel_says}
use Rattle.c2_build_refusals.proofs.Judged.{hears_behind, hears_failed}
use Rattle.c2_build_plain.specs.Building.{IsEmbedded}
use Rattle.c2_build_plain.proofs.Causes.{prepares}
use Rattle.c2_build_plain.specs.Answers.{Writes, embed_effects, prepare_effects}
use Rattle.c2_build_in_place.specs.Writings.{ready_file}
use Rattle.c2_build_in_place.proofs.Endings.{all_written, copy_unjudged, unwritten}
use Rattle.c2_build_in_place.proofs.Leaving.{ready_most, room_broken, room_unwritten, signed_broken, signed_copied, signed_failed, sink_broken, sink_copied, sink_unwritten}
use Rattle.c2_build_plain.proofs.Ended.{broken_off, range_is, told_of_file}
use Rattle.c2_build_plain.proofs.embedding.embed.Goals as goal

-- ---- nothing is ready to be written

pub returns-in-Err-clause-embedded : goal.returns-in-Err-clause-embedded
returns-in-Err-clause-embedded g c = λ file known bytes due message due'. record {
  answered = c.in-Err.ensures.prepared.ready file known bytes due message due';
  wrote =
      unwritten prepare_effects (λ h. h) _ g.K.Sink.written g.K.Sink.spare g.K.Sink.finished _ c.args.out.now _ _ _
      c.in-Err.ensures.sources.media.cause;
  meets = tt;
}

pub returns-in-Err-clause-sources : goal.returns-in-Err-clause-sources
returns-in-Err-clause-sources g c =
    signed_failed prepare_effects embed_effects prepares _ _ _ c.in-Err.error c.in-Err.ensures.sources

pub returns-in-Err-clause-spare : goal.returns-in-Err-clause-spare
returns-in-Err-clause-spare g c =
    room_unwritten prepare_effects (λ h. h) _ _ _ _ c.in-Err.ensures.sources.media.cause _ _

pub returns-in-Err-clause-sink : goal.returns-in-Err-clause-sink
returns-in-Err-clause-sink g c =
    sink_unwritten prepare_effects (λ h. h) _ _ _ c.args.out.now c.in-Err.error c.in-Err.ensures.sources.media.cause

pub returns-in-Err-clause-panel : goal.returns-in-Err-clause-panel
returns-in-Err-clause-panel g c =
    hears_failed c.args.judges.now c.prepare.new.judges c.in-Err.error (λ qs asks. asks) c.in-Err.ensures.panel

-- ---- the file is written, and meets the rules

pub returns-in-Ok-write_file-clause-embedded : goal.returns-in-Ok-write_file-clause-embedded
returns-in-Ok-write_file-clause-embedded g c = λ file known bytes due message due'.
    let said = panel_says (map (λ j. (goal.Judge-dyn g (j.vtable, j.value)).says j.value) c.args.judges.now.items) in
    let hash = g.H.Hashing.digest_of in
    let h = c.in-Ok.ensures.prepared.ready file known bytes due message due' in
    let whole =
    c.in-Ok-write_file.ensures.written.whole file (c.in-Ok.ensures.sources.media.stays.same_bytes ∙ known) in
    let told = told_of_file hash said file bytes message h.0 h.1 due in
    record {
      answered = (h.0, h.1, range_is c.in-Ok.ready h.0 _ h.2 refl refl);
      wrote =
          all_written g.K.Sink.written g.K.Sink.spare g.K.Sink.finished
          (Writes (IsEmbedded hash said file bytes message)) (ready_file c.in-Ok.ready file) c.args.out.now
          c.write_file.new.out (Ok h.0, h.1, sym h.2.file) whole;
      meets =
          λ b is. a_new_file_meets_the_rules hash said file bytes message b g.met.H.Hashing.is_digest (c.in-Ok.ensures.prepared.texts bytes told) is;
    }

pub returns-in-Ok-write_file-clause-sources : goal.returns-in-Ok-write_file-clause-sources
returns-in-Ok-write_file-clause-sources g c =
    signed_copied _ _ _ c.write_file.new.media c.in-Ok.ready _ _ c.in-Ok.ensures.sources c.in-Ok-write_file.ensures.reads

pub returns-in-Ok-write_file-clause-sink : goal.returns-in-Ok-write_file-clause-sink
returns-in-Ok-write_file-clause-sink g c =
    sink_copied _ _ c.in-Ok-write_file.ensures.writes c.in-Ok-write_file.ensures.written.finish

pub returns-in-Ok-write_file-clause-panel : goal.returns-in-Ok-write_file-clause-panel
returns-in-Ok-write_file-clause-panel g c =
    hears_behind c.args.judges.now c.prepare.new.judges c.in-Ok.ready _ tt (λ qs asks. asks) c.in-Ok.ensures.panel

-- ---- it is begun, and then the media or the sink fails

pub returns-in-Err-write_file-clause-embedded : goal.returns-in-Err-write_file-clause-embedded
returns-in-Err-write_file-clause-embedded g c = λ file known bytes due message due'.
    let said = panel_says (map (λ j. (goal.Judge-dyn g (j.vtable, j.value)).says j.value) c.args.judges.now.items) in
    let hash = g.H.Hashing.digest_of in
    let h = c.in-Ok.ensures.prepared.ready file known bytes due message due' in
    let whole =
    c.in-Err-write_file.ensures.written.whole file (c.in-Ok.ensures.sources.media.stays.same_bytes ∙ known) in
    broken_off g.K.Sink.written g.K.Sink.spare g.K.Sink.finished hash said file bytes message c.in-Ok.ready h.0 c.args.out.now c.write_file.new.out c.in-Err-write_file.error c.copy_fault.result c.copy_fault.ensures h.1 h.2 whole

pub returns-in-Err-write_file-clause-sources : goal.returns-in-Err-write_file-clause-sources
returns-in-Err-write_file-clause-sources g c =
    signed_broken embed_effects tt _ _ _ c.write_file.new.media c.in-Ok.ready c.in-Err-write_file.error c.copy_fault.result
    c.copy_fault.ensures c.in-Ok.ensures.sources c.in-Err-write_file.ensures.reads

pub returns-in-Err-write_file-clause-spare : goal.returns-in-Err-write_file-clause-spare
returns-in-Err-write_file-clause-spare g c =
    room_broken c.in-Err-write_file.error c.copy_fault.result c.copy_fault.ensures _ _ _ c.in-Err-write_file.ensures.written.over
    (ready_most _ c.in-Ok.ready c.in-Ok.ensures.prepared.can_write)

pub returns-in-Err-write_file-clause-sink : goal.returns-in-Err-write_file-clause-sink
returns-in-Err-write_file-clause-sink g c =
    sink_broken c.in-Err-write_file.error c.copy_fault.result c.copy_fault.ensures c.in-Err-write_file.ensures.writes
    c.in-Err-write_file.ensures.written.finish

pub returns-in-Err-write_file-clause-panel : goal.returns-in-Err-write_file-clause-panel
returns-in-Err-write_file-clause-panel g c =
    hears_behind c.args.judges.now c.prepare.new.judges c.in-Ok.ready (Err c.copy_fault.result) (copy_unjudged c.in-Err-write_file.error c.copy_fault.result c.copy_fault.ensures) (λ qs asks. asks) c.in-Ok.ensures.panel

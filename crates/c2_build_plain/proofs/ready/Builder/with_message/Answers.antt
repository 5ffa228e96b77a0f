use Rattle.std.proofs.Common.{map}
use Rattle.std.specs.Prelude.{Err}
use Rattle.c2_spec.specs.C2pa.Sign1.{parts_of}
use Rattle.c2_spec.specs.Judges.Panel.{panel_says}
use Rattle.c2_calls_spec.proofs.SourceLemmas.{reads_then}
use Rattle.c2_build_plain.proofs.Drawn.{refused_embedding}
use Rattle.c2_build_refusals.proofs.Judged.{hears_behind, hears_failed, read_result}
use Rattle.c2_build_plain.proofs.NewStores.{draft_makes, reserve_outside}
use Rattle.c2_build_plain.proofs.Causes.{asks_prepare, message_stays}
use Rattle.c2_build_refusals.proofs.Outside.{outside_map}
use Rattle.c2_build_refusals.specs.Kinds.{message_effects}
use Rattle.c2_build_plain.specs.declared.ready.MessageDraft.{MessageDraft}
use Rattle.c2_build_plain.proofs.ready.Builder.with_message.Goals as goal

-- the place is refused
pub returns-in-Err-clause-build : goal.returns-in-Err-clause-build
returns-in-Err-clause-build g c = λ bytes known kind is of_file.
    let said = panel_says (map (λ j. (goal.Judge-dyn g (j.vtable, j.value)).says j.value) c.args.judges.now.items) in
    let hash = g.H.Hashing.digest_of in
    outside_map c.in-Err.error (refused_embedding hash said bytes kind c.args.definition.now (parts_of c.args.sign.now) c.in-Err.error) (c.in-Err.ensures.refused bytes known kind is of_file)

-- the message doesn't fit
pub returns-in-Err-padded-clause-build : goal.returns-in-Err-padded-clause-build
returns-in-Err-padded-clause-build g c = λ bytes known kind is of_file.
    let said = panel_says (map (λ j. (goal.Judge-dyn g (j.vtable, j.value)).says j.value) c.args.judges.now.items) in
    let hash = g.H.Hashing.digest_of in
    let at = c.in-Ok.ensures.passed bytes known kind is in
    outside_map c.in-Err-padded.error (reserve_outside hash said bytes kind c.args.definition.now (parts_of c.args.sign.now) at.ground at.place c.in-Err-padded.error at.passed at.over.ground.content.definition) c.in-Err-padded.ensures.refused

-- what was drafted makes the new file
pub returns-in-Ok-padded-clause-build : goal.returns-in-Ok-padded-clause-build
returns-in-Ok-padded-clause-build g c = λ bytes known kind is of_file.
    let said = panel_says (map (λ j. (goal.Judge-dyn g (j.vtable, j.value)).says j.value) c.args.judges.now.items) in
    draft_makes g.H.Hashing.digest_of said bytes kind c.args.definition.now (parts_of c.args.sign.now) c.in-Ok.drafted c.in-Ok-padded.message (c.in-Ok.ensures.passed bytes known kind is) c.in-Ok-padded.ensures.signed

pub returns-in-Ok-padded-clause-fits : goal.returns-in-Ok-padded-clause-fits
returns-in-Ok-padded-clause-fits g c =
    record { formed = c.requires.formed; small = c.in-Ok.ensures.small; filled = c.in-Ok-padded.ensures.signed.filled }

-- ---- what is left of the media, and what judges hear

pub returns-in-Err-clause-reads : goal.returns-in-Err-clause-reads
returns-in-Err-clause-reads g c =
    record
    { stays = c.in-Err.ensures.reads.stays; quiet = tt; cause = asks_prepare _ _ _ _ c.in-Err.ensures.reads.cause }

pub returns-in-Err-clause-panel : goal.returns-in-Err-clause-panel
returns-in-Err-clause-panel g c =
    hears_failed c.args.judges.now c.draft_over.new.judges c.in-Err.error (λ qs asks. asks) c.in-Err.ensures.panel

pub returns-in-Err-padded-clause-reads : goal.returns-in-Err-padded-clause-reads
returns-in-Err-padded-clause-reads g c =
    reads_then _ _ _ _ _ c.args.media.now c.draft_over.new.media c.in-Ok.drafted (Err c.in-Err-padded.error)
    (message_stays _ _ _ c.in-Ok.ensures.reads.quiet (c.in-Err-padded.ensures.cause _)) c.in-Ok.ensures.reads

pub returns-in-Err-padded-clause-panel : goal.returns-in-Err-padded-clause-panel
returns-in-Err-padded-clause-panel g c =
    hears_behind c.args.judges.now c.draft_over.new.judges c.in-Ok.drafted (Err c.in-Err-padded.error) (read_result {T = MessageDraft} message_effects 0 0 (Err c.in-Err-padded.error) (c.in-Err-padded.ensures.cause 0)) (λ qs asks. asks) c.in-Ok.ensures.panel

pub returns-in-Ok-padded-clause-reads : goal.returns-in-Ok-padded-clause-reads
returns-in-Ok-padded-clause-reads g c =
    reads_then _ _ _ _ _ c.args.media.now c.draft_over.new.media c.in-Ok.drafted _ tt c.in-Ok.ensures.reads

pub returns-in-Ok-padded-clause-panel : goal.returns-in-Ok-padded-clause-panel
returns-in-Ok-padded-clause-panel g c =
    hears_behind c.args.judges.now c.draft_over.new.judges c.in-Ok.drafted _ tt (λ qs asks. asks) c.in-Ok.ensures.panel

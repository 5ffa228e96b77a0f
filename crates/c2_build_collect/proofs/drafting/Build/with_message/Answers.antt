use Rattle.std.proofs.Common.{map}
use Rattle.c2_spec.specs.C2pa.Sign1.{parts_of}
use Rattle.c2_spec.specs.Judges.Panel.{panel_says}
use Rattle.c2_calls_spec.proofs.SourceLemmas.{reads_then}
use Rattle.c2_build_collect_base.specs.Grounds.{opening_of}
use Rattle.c2_build_refusals.specs.Kinds.{message_effects}
use Rattle.c2_build_refusals.proofs.Judged.{hears_behind, hears_failed, read_result}
use Rattle.c2_build_refusals.proofs.Outside.{outside_map}
use Rattle.c2_build_collect.proofs.Causes.{ground_prepares, messages_stay}
use Rattle.c2_build_collect.proofs.Filled.{draft_filled, filled_fits}
use Rattle.c2_build_collect.proofs.Planned.{made_refused}
use Rattle.c2_build_collect.proofs.drafting.Build.with_message.Goals as goal

-- ---- something is refused before the message is looked at

pub returns-in-Err-clause-build : goal.returns-in-Err-clause-build
returns-in-Err-clause-build g c = λ of_file bytes known kind is others told.
    let said = panel_says (map (λ j. (goal.Judge-dyn g (j.vtable, j.value)).says j.value) c.args.judges.now.items) in
    outside_map c.in-Err.error (made_refused g.H.Hashing.digest_of said bytes others (opening_of kind) c.args.self.now.definition.now (parts_of c.args.sign.now) c.in-Err.error) (c.in-Err.ensures.drafted bytes known kind is others told of_file)

pub returns-in-Err-clause-media : goal.returns-in-Err-clause-media
returns-in-Err-clause-media g c =
    record
    { stays = c.in-Err.ensures.media.stays; quiet = tt; cause = ground_prepares _ _ _ _ c.in-Err.ensures.media.cause }

pub returns-in-Err-clause-other : goal.returns-in-Err-clause-other
returns-in-Err-clause-other g c =
    record
    { stays = c.in-Err.ensures.other.stays; quiet = tt; cause = ground_prepares _ _ _ _ c.in-Err.ensures.other.cause }

pub returns-in-Err-clause-panel : goal.returns-in-Err-clause-panel
returns-in-Err-clause-panel g c =
    hears_failed c.args.judges.now c.drafted.new.judges c.in-Err.error (λ qs asks. asks) c.in-Err.ensures.panel

-- ---- the message is padded, or doesn't fit

pub returns-clause-build : goal.returns-clause-build
returns-clause-build g c = λ of_file bytes known kind is others told.
    let said = panel_says (map (λ j. (goal.Judge-dyn g (j.vtable, j.value)).says j.value) c.args.judges.now.items) in
    draft_filled g.H.Hashing.digest_of said bytes others (opening_of kind) c.args.self.now.definition.now
    (parts_of c.args.sign.now) c.in-Ok.drafted c.filled.result
    (c.in-Ok.ensures.drafted bytes known kind is others told) c.filled.ensures.same c.filled.ensures.signed
    c.filled.ensures.refused

pub returns-clause-fits : goal.returns-clause-fits
returns-clause-fits g c =
    filled_fits g.H.Hashing.digest_of _ c.args.self.now.definition.now (parts_of c.args.sign.now) c.in-Ok.drafted
    c.filled.result c.requires.read.formed c.in-Ok.ensures.small c.filled.ensures.same c.filled.ensures.signed

pub returns-clause-media : goal.returns-clause-media
returns-clause-media g c =
    reads_then _ _ _ _ _ c.args.media.now c.drafted.new.media c.in-Ok.drafted c.filled.result
    (messages_stay _ _ _ c.filled.result c.in-Ok.ensures.media.quiet (c.filled.ensures.cause _)) c.in-Ok.ensures.media

pub returns-clause-other : goal.returns-clause-other
returns-clause-other g c =
    reads_then _ _ _ _ _ c.args.other.now c.drafted.new.other c.in-Ok.drafted c.filled.result
    (messages_stay _ _ _ c.filled.result c.in-Ok.ensures.other.quiet (c.filled.ensures.cause _)) c.in-Ok.ensures.other

pub returns-clause-panel : goal.returns-clause-panel
returns-clause-panel g c =
    hears_behind c.args.judges.now c.drafted.new.judges c.in-Ok.drafted c.filled.result
    (read_result message_effects 0 0 c.filled.result (c.filled.ensures.cause 0)) (λ qs asks. asks) c.in-Ok.ensures.panel

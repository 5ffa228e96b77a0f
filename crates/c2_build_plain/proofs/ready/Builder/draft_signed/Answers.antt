use Rattle.std.proofs.Common.{List, map, refl, subst, sym, ℕ}
use Rattle.std.specs.Prelude.{Err, Ok}
use Rattle.c2_spec.specs.C2pa.Sign1.{SignParts, parts_of}
use Rattle.c2_spec.specs.Judges.Panel.{panel_says}
use Rattle.c2_calls_spec.proofs.SourceLemmas.{stays_as_it_was}
use Rattle.c2_build_refusals.specs.Kinds.{WithoutFault, message_effects}
use Rattle.c2_build_plain.specs.Building.{IsEmbeddedOver}
use Rattle.c2_build_refusals.specs.Stages.{IsMessageStage}
use Rattle.c2_build_plain.specs.Steps.{IsDraftFor}
use Rattle.c2_build_refusals.proofs.Outside.{alone, read_cause, reads_among, reads_earlier}
use Rattle.c2_build_refusals.proofs.Stages.{comes_first}
use Rattle.c2_build_refusals.proofs.Judged.{hears_as, hears_none, read_unheard}
use Rattle.c2_build_refusals.proofs.Doing.{message_step}
use Rattle.c2_build_plain.proofs.NewStores.{draft_next}
use Rattle.c2_build_plain.proofs.Unasked.{asks_with, unsigned_with}
use Rattle.c2_build_plain.specs.Answers.{prepare_effects}
use Rattle.c2_build_plain.proofs.ready.Builder.draft_signed.Goals as goal

-- ---- the message is refused

pub returns-in-Err-clause-build : goal.returns-in-Err-clause-build
returns-in-Err-clause-build g c = λ bytes known kind is of_file message due.
    let e = c.in-Err.error in
    let d = c.args.definition.now in
    let stage =
    subst (λ (x : List ℕ). WithoutFault e (IsMessageStage x message (Err e))) c.as_slice.ensures.value
    (c.in-Err.ensures.stage message due) in
    comes_first (IsMessageStage d.protected message) _ e stage

pub returns-in-Err-clause-media : goal.returns-in-Err-clause-media
returns-in-Err-clause-media g c =
    reads_earlier prepare_effects c.args.media.now c.args.media.now _ _ (Err c.in-Err.error)
    (stays_as_it_was _ _ _ c.args.media.now) refl (alone (λ rose. rose))
    (read_cause _ prepare_effects _ _ _ (message_step prepare_effects tt _ _ _ c.in-Err.ensures.cause))

pub returns-in-Err-clause-message : goal.returns-in-Err-clause-message
returns-in-Err-clause-message g c =
    record
    { stays = c.in-Err.ensures.stays; quiet = tt; cause = read_cause _ prepare_effects _ _ _ (message_step prepare_effects tt _ _ _ c.in-Err.ensures.cause) }

pub returns-in-Err-clause-panel : goal.returns-in-Err-clause-panel
returns-in-Err-clause-panel g c =
    let said = panel_says (map (λ j. (goal.Judge-dyn g (j.vtable, j.value)).says j.value) c.args.judges.now.items) in
    let e = c.in-Err.error in
    hears_none c.args.judges.now e (read_unheard message_effects _ _ _ c.in-Err.ensures.cause)
    (unsigned_with g.H.Hashing.digest_of said (g.A.Source.known c.args.media.now) (g.C.Source.known c.args.signature.now) c.args.file.now
    (λ file known. c.requires.kind file known) c.args.definition.now e
    (λ signed known. subst (λ (x : List ℕ). WithoutFault e (IsMessageStage x signed (Err e))) c.as_slice.ensures.value (c.in-Err.ensures.stage signed known)))

-- ---- it is read, and then comes what is behind it

pub returns-clause-build : goal.returns-clause-build
returns-clause-build g c = λ bytes known kind is of_file message due.
    let said = panel_says (map (λ j. (goal.Judge-dyn g (j.vtable, j.value)).says j.value) c.args.judges.now.items) in
    let hash = g.H.Hashing.digest_of in
    let d = c.args.definition.now in
    let r = c.with_message.result in
    let m = c.in-Ok.ensures.stage message due in
    let stage = subst (λ (x : List ℕ). IsMessageStage x message (Ok m.0)) c.as_slice.ensures.value m.1 in
    let own =
    subst (λ (p : SignParts). IsDraftFor hash bytes d (IsEmbeddedOver hash said bytes kind d p) r) m.2
    (c.with_message.ensures.build bytes known kind is of_file) in
    draft_next hash bytes d (IsMessageStage d.protected message) (IsEmbeddedOver hash said bytes kind d) m.0 r stage own

pub returns-clause-fits : goal.returns-clause-fits
returns-clause-fits g c = c.with_message.ensures.fits

pub returns-clause-media : goal.returns-clause-media
returns-clause-media g c =
    reads_among prepare_effects c.args.media.now c.with_message.new.media c.with_message.result (λ none. absurd none)
    c.with_message.ensures.reads

pub returns-clause-message : goal.returns-clause-message
returns-clause-message g c =
    reads_earlier prepare_effects c.args.signature.now c.read_message_file.new.file _ _ c.with_message.result
    c.in-Ok.ensures.stays c.in-Ok.ensures.count (alone (λ rose. rose)) c.with_message.ensures.reads.cause

pub returns-clause-panel : goal.returns-clause-panel
returns-clause-panel g c =
    let said = panel_says (map (λ j. (goal.Judge-dyn g (j.vtable, j.value)).says j.value) c.args.judges.now.items) in
    let d = c.args.definition.now in
    hears_as c.args.judges.now c.with_message.new.judges c.with_message.result
    (asks_with g.H.Hashing.digest_of said (g.A.Source.known c.args.media.now) (g.C.Source.known c.args.signature.now) c.args.file.now
    (λ file known. c.requires.kind file known) d (parts_of c.in-Ok.sign)
    (λ signed known. let m = c.in-Ok.ensures.stage signed known in subst (λ (p : SignParts). IsMessageStage d.protected signed (Ok p)) (sym m.2) (subst (λ (x : List ℕ). IsMessageStage x signed (Ok m.0)) c.as_slice.ensures.value m.1))) c.with_message.ensures.panel

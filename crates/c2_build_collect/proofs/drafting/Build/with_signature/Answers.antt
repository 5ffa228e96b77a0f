use Rattle.std.proofs.Common.{List, inl, inr, map, refl, subst, sym, ℕ, ◌⊎◌}
use Rattle.std.specs.Prelude.{Err, Ok}
use Rattle.c2_lemmas.specs.Stages.{Then}
use Rattle.c2_spec.specs.C2pa.Sign1.{SignParts, parts_of}
use Rattle.c2_spec.specs.Judges.Panel.{panel_says}
use Rattle.c2_calls_spec.proofs.SourceLemmas.{stays_as_it_was}
use Rattle.c2_collect_spec.specs.Outcomes.{IsMadeOver, IsPairStage}
use Rattle.c2_collect_spec.specs.Outcomes as collect
use Rattle.c2_collect_spec.proofs.SomeOutcome.{defined_of}
use Rattle.c2_build_collect_base.specs.Grounds.{opening_of}
use Rattle.c2_build_refusals.specs.Kinds.{WithoutFault, message_effects}
use Rattle.c2_build_refusals.specs.Stages.{IsDefinitionRefused, IsMessageRefused, IsMessageStage}
use Rattle.c2_build_refusals.proofs.Inputs.{not_both_definitions, not_both_media}
use Rattle.c2_build_refusals.proofs.Judged.{hears_as, hears_none, read_unheard}
use Rattle.c2_build_refusals.proofs.Outside.{alone, on_any, outside_map, read_cause, reads_among, reads_earlier}
use Rattle.c2_build_collect.specs.Answers.{prepare_effects}
use Rattle.c2_build_collect.specs.Steps.{IsBuildFor, build_of}
use Rattle.c2_build_refusals.proofs.Doing.{message_step}
use Rattle.c2_build_collect.proofs.Due.{definition_told, message_told, not_accepted, other_told, undefined, unsigned, untold}
use Rattle.c2_build_collect.proofs.Stages.{build_next, defined_as, message_as, message_error, opened_as, refused_first, refused_next}
use Rattle.c2_build_collect.proofs.Unasked.{embedded_asks, unsigned_embed}
use Rattle.c2_build_collect.proofs.drafting.Build.with_signature.Goals as goal

-- ---- the message is refused

pub returns-in-Err-clause-build : goal.returns-in-Err-clause-build
returns-in-Err-clause-build g c = λ told_of of. record {
  build = λ file known bytes due signed due' others undue.
      let said = panel_says (map (λ j. (goal.Judge-dyn g (j.vtable, j.value)).says j.value) c.args.judges.now.items) in
      let hash = g.H.Hashing.digest_of in
      let e = c.in-Err.error in
      let d = c.args.self.now.definition.now in
      let media = c.requires.kind file known in
      let told = definition_told hash said file media.0 media.1.stage told_of bytes due in
      let read = of.stage bytes told in
      let spoken =
      message_told hash said file media.0 media.1.stage d bytes read
      (g.C.Source.known c.args.signature.now) signed due' in
      let stage =
      subst (λ (x : List ℕ). WithoutFault e (IsMessageStage x signed (Err e))) c.as_slice-protected.ensures.value
      (c.in-Err.ensures.stage signed spoken) in
      outside_map e (λ s. refused_next (collect.IsMediaStage file) _ (opening_of media.0) e (opened_as file media.0 media.1.stage)
      (refused_next (collect.IsDefinitionStage bytes) _ d e (defined_as bytes d read)
      (refused_first (collect.IsMessageStage d.protected signed) _ e (message_error d.protected signed e s)))) stage;
  texts = λ bytes known. tt;
  fits = tt;
}

pub returns-in-Err-clause-not_due : goal.returns-in-Err-clause-not_due
returns-in-Err-clause-not_due g c = λ told_of of. record {
  inputs = record {
    definition_unread = λ file known refused. refl;
    message_unread_first = λ file known refused. let media = c.requires.kind file known in not_both_media file media.0 media.1.stage refused;
    message_unread =
        λ bytes known refused. not_both_definitions bytes c.args.self.now.definition.now (of.stage bytes known) refused;
  };
  other_unread_first = λ file known refused. refl;
  other_unread_then = λ bytes known refused. refl;
  other_unread = λ refused. refl;
}

pub returns-in-Err-clause-media : goal.returns-in-Err-clause-media
returns-in-Err-clause-media g c =
    reads_earlier prepare_effects c.args.media.now c.args.media.now _ _ (Err c.in-Err.error)
    (stays_as_it_was _ _ _ c.args.media.now) refl (alone inl)
    (read_cause _ prepare_effects _ _ _ (message_step prepare_effects tt _ _ _ c.in-Err.ensures.cause))

pub returns-in-Err-clause-message : goal.returns-in-Err-clause-message
returns-in-Err-clause-message g c = record {
  stays = c.in-Err.ensures.stays;
  quiet = tt;
  cause = read_cause _ prepare_effects _ _ _ (message_step prepare_effects tt _ _ _ c.in-Err.ensures.cause);
}

pub returns-in-Err-clause-other : goal.returns-in-Err-clause-other
returns-in-Err-clause-other g c =
    reads_earlier prepare_effects c.args.other.now c.args.other.now _ _ (Err c.in-Err.error)
    (stays_as_it_was _ _ _ c.args.other.now) refl (alone inr)
    (read_cause _ prepare_effects _ _ _ (message_step prepare_effects tt _ _ _ c.in-Err.ensures.cause))

pub returns-in-Err-clause-panel : goal.returns-in-Err-clause-panel
returns-in-Err-clause-panel g c = λ told_of of.
    let said = panel_says (map (λ j. (goal.Judge-dyn g (j.vtable, j.value)).says j.value) c.args.judges.now.items) in
    let e = c.in-Err.error in
    let d = c.args.self.now.definition.now in
    hears_none c.args.judges.now e (read_unheard message_effects _ _ _ c.in-Err.ensures.cause)
    (unsigned_embed g.H.Hashing.digest_of said (g.A.Source.known c.args.media.now) told_of (g.C.Source.known c.args.signature.now) (g.D.Source.known c.args.other.now) c.args.self.now.file.now
    (λ file known. c.requires.kind file known) d (λ bytes known. of.stage bytes known) e
    (λ signed known. subst (λ (x : List ℕ). WithoutFault e (IsMessageStage x signed (Err e))) c.as_slice-protected.ensures.value (c.in-Err.ensures.stage signed known)))

-- ---- the message is read, and then comes what is behind it

pub with_message-requires-clause-can : goal.with_message-requires-clause-can
with_message-requires-clause-can g c = c.in-Ok.ensures.padded

pub returns-clause-build : goal.returns-clause-build
returns-clause-build g c = λ told_of of. record {
  build = λ file known bytes due signed due' others undue.
      let said = panel_says (map (λ j. (goal.Judge-dyn g (j.vtable, j.value)).says j.value) c.args.judges.now.items) in
      let hash = g.H.Hashing.digest_of in
      let d = c.args.self.now.definition.now in
      let r = build_of d c.with_message.result in
      let media = c.requires.kind file known in
      let told = definition_told hash said file media.0 media.1.stage told_of bytes due in
      let read = of.stage bytes told in
      let spoken =
      message_told hash said file media.0 media.1.stage d bytes read
      (g.C.Source.known c.args.signature.now) signed due' in
      let as_read = defined_as bytes d read in
      let m = c.in-Ok.ensures.stage signed spoken in
      let stage = subst (λ (x : List ℕ). IsMessageStage x signed (Ok m.0)) c.as_slice-protected.ensures.value m.1 in
      let own =
      other_told hash said file media.0 media.1.stage
      {NotDue = IsDefinitionRefused bytes ⊎ IsMessageRefused bytes signed} (g.D.Source.known c.args.other.now)
      others
      (unsigned d m.0 bytes signed read stage) undue in
      let over =
      subst
      (λ (p : SignParts). IsBuildFor hash file (Then (IsPairStage hash said file others (opening_of media.0) d) (IsMadeOver hash d p)) r)
      m.2
      (c.with_message.ensures.build (bytes, defined_of bytes d as_read) file known media.0 media.1 others own) in
      build_next hash file (collect.IsMediaStage file) _ (opening_of media.0) r (opened_as file media.0 media.1.stage)
      (build_next hash file (collect.IsDefinitionStage bytes) _ d r as_read
      (build_next hash file (collect.IsMessageStage d.protected signed) _ m.0 r (message_as d.protected signed m.0 stage) over));
  texts = λ bytes known. on_any (build_of c.args.self.now.definition.now c.with_message.result) (of.texts bytes known);
  fits = c.with_message.ensures.fits;
}

pub returns-clause-not_due : goal.returns-clause-not_due
returns-clause-not_due g c = λ told_of of.
    let said = panel_says (map (λ j. (goal.Judge-dyn g (j.vtable, j.value)).says j.value) c.args.judges.now.items) in
    let hash = g.H.Hashing.digest_of in
    let d = c.args.self.now.definition.now in
    record {
      inputs = record {
        definition_unread = λ file known refused. refl;
        message_unread_first = λ file known refused. let media = c.requires.kind file known in not_both_media file media.0 media.1.stage refused;
        message_unread =
            λ bytes known refused. not_both_definitions bytes d (of.stage bytes known) refused;
      };
      other_unread_first = λ file known refused. let media = c.requires.kind file known in
          c.with_message.ensures.not_due file known media.0 media.1 (not_accepted hash said file media.0 media.1.stage refused);
      other_unread_then =
          λ bytes known refused. absurd (undefined d bytes (of.stage bytes known) refused);
      other_unread = λ refused. absurd (untold d (parts_of c.in-Ok.sign) told_of (g.C.Source.known c.args.signature.now)
          (λ bytes known. of.stage bytes known)
          (λ signed known. let m = c.in-Ok.ensures.stage signed known in
          subst (λ (p : SignParts). IsMessageStage d.protected signed (Ok p)) (sym m.2) (subst (λ (x : List ℕ). IsMessageStage x signed (Ok m.0)) c.as_slice-protected.ensures.value m.1)) refused);
    }

pub returns-clause-media : goal.returns-clause-media
returns-clause-media g c =
    reads_among prepare_effects c.args.media.now c.with_message.new.media c.with_message.result inr
    c.with_message.ensures.media

pub returns-clause-message : goal.returns-clause-message
returns-clause-message g c =
    reads_earlier prepare_effects c.args.signature.now c.read_message_file.new.file _ _ c.with_message.result
    c.in-Ok.ensures.stays c.in-Ok.ensures.count (λ failed. failed) c.with_message.ensures.media.cause

pub returns-clause-other : goal.returns-clause-other
returns-clause-other g c =
    reads_among prepare_effects c.args.other.now c.with_message.new.other c.with_message.result inl
    c.with_message.ensures.other

pub returns-clause-panel : goal.returns-clause-panel
returns-clause-panel g c = λ told_of of.
    let said = panel_says (map (λ j. (goal.Judge-dyn g (j.vtable, j.value)).says j.value) c.args.judges.now.items) in
    let d = c.args.self.now.definition.now in
    hears_as c.args.judges.now c.with_message.new.judges c.with_message.result
    (embedded_asks g.H.Hashing.digest_of said (g.A.Source.known c.args.media.now) told_of (g.C.Source.known c.args.signature.now) (g.D.Source.known c.args.other.now) c.args.self.now.file.now
    (λ file known. c.requires.kind file known) d
    (λ bytes known. of.stage bytes known) (parts_of c.in-Ok.sign)
    (λ signed known. let m = c.in-Ok.ensures.stage signed known in
    subst (λ (p : SignParts). IsMessageStage d.protected signed (Ok p)) (sym m.2) (subst (λ (x : List ℕ). IsMessageStage x signed (Ok m.0)) c.as_slice-protected.ensures.value m.1))) c.with_message.ensures.panel

use Rattle.std.proofs.Common.{inl, map, subst, sym, ℕ, ◌∙◌}
use Rattle.std.specs.Prelude.{IfOk}
use Rattle.std.proofs.lemmas.Result.{IfOk-weaker}
use Rattle.c2_spec.specs.Judges.Panel.{panel_says}
use Rattle.c2_new_file_spec.specs.Store.{new_alg}
use Rattle.c2_build_in_place.specs.Writings.{CanWrite}
use Rattle.c2_build_refusals.specs.Kinds.{no_effects}
use Rattle.c2_build_refusals.proofs.Judged.{hears_behind, hears_failed, read_result}
use Rattle.c2_build_refusals.proofs.Outside.{alone, on_any, reads_behind, reads_earlier}
use Rattle.c2_build_plain.specs.Answers.{prepare_effects}
use Rattle.c2_build_plain.specs.Building.{IsEmbedded}
use Rattle.c2_build_drafts.specs.Drafts.{FitsMedia, IsPutReady}
use Rattle.c2_build_plain.proofs.NewStores.{ready_made}
use Rattle.c2_build_plain.proofs.ready.prepare.Goals as goal

-- ---- nothing is drafted

pub returns-in-Err-clause-prepared : goal.returns-in-Err-clause-prepared
returns-in-Err-clause-prepared g c = record {
  ready = λ file known bytes due message due'. c.in-Err.ensures.build.build file known bytes due message due';
  texts = λ bytes known. tt;
  can_write = tt;
}

pub returns-in-Err-clause-sources : goal.returns-in-Err-clause-sources
returns-in-Err-clause-sources g c = record {
  media =
      record { stays = c.in-Err.ensures.sources.media.stays; quiet = tt; cause = c.in-Err.ensures.sources.media.cause };
  definition =
      record
      { stays = c.in-Err.ensures.sources.definition.stays; quiet = tt; cause = c.in-Err.ensures.sources.definition.cause };
  message =
      record
      { stays = c.in-Err.ensures.sources.message.stays; quiet = tt; cause = c.in-Err.ensures.sources.message.cause };
}

pub returns-in-Err-clause-panel : goal.returns-in-Err-clause-panel
returns-in-Err-clause-panel g c =
    hears_failed c.args.judges.now c.draft.new.judges c.in-Err.error (λ qs asks. asks) c.in-Err.ensures.panel

-- ---- what is ready is the new file

pub make_ready-requires : goal.make_ready-requires
make_ready-requires g c =
    subst (λ (n : ℕ). FitsMedia g.H.Hashing.digest_of n c.in-Ok.build)
    (sym c.in-Ok.ensures.sources.media.stays.same_len) c.in-Ok.ensures.build.fits

pub returns-clause-prepared : goal.returns-clause-prepared
returns-clause-prepared g c = record {
  ready = λ file known bytes due message due'.
      let said = panel_says (map (λ j. (goal.Judge-dyn g (j.vtable, j.value)).says j.value) c.args.judges.now.items) in
      let hash = g.H.Hashing.digest_of in
      let b = c.in-Ok.build in
      let m = c.in-Ok.ensures.build.build file known bytes due message due' in
      ready_made hash file (IsEmbedded hash said file bytes message) b c.make_ready.result m
      (IfOk-weaker c.make_ready.result _ (IsPutReady (hash (new_alg b.definition)) file m.ground m.place b.message) (λ r h. h file (c.in-Ok.ensures.sources.media.stays.same_bytes ∙ known) m.ground m.place m.over) c.make_ready.ensures.ready) c.make_ready.ensures.nothing;
  texts = λ bytes known. on_any c.make_ready.result (c.in-Ok.ensures.build.texts bytes known);
  can_write =
      subst (λ (n : ℕ). IfOk c.make_ready.result (CanWrite n)) c.in-Ok.ensures.sources.media.stays.same_len
      c.make_ready.ensures.can_write;
}

pub returns-clause-sources : goal.returns-clause-sources
returns-clause-sources g c = record {
  media =
      reads_behind prepare_effects c.args.media.now c.draft.new.media c.make_ready.new.media c.in-Ok.build
      c.make_ready.result c.in-Ok.ensures.sources.media c.make_ready.ensures.reads.stays
      c.make_ready.ensures.reads.quiet c.make_ready.ensures.reads.cause;
  definition = let media = reads_behind prepare_effects {Other = ⊥} c.args.media.now c.draft.new.media c.make_ready.new.media c.in-Ok.build c.make_ready.result c.in-Ok.ensures.sources.media c.make_ready.ensures.reads.stays c.make_ready.ensures.reads.quiet c.make_ready.ensures.reads.cause in
      reads_earlier prepare_effects c.args.definition.now c.draft.new.definition _ _ c.make_ready.result c.in-Ok.ensures.sources.definition.stays c.in-Ok.ensures.sources.definition.quiet (alone inl) media.cause;
  message = let media = reads_behind prepare_effects {Other = ⊥} c.args.media.now c.draft.new.media c.make_ready.new.media c.in-Ok.build c.make_ready.result c.in-Ok.ensures.sources.media c.make_ready.ensures.reads.stays c.make_ready.ensures.reads.quiet c.make_ready.ensures.reads.cause in
      reads_earlier prepare_effects c.args.signature.now c.draft.new.signature _ _ c.make_ready.result c.in-Ok.ensures.sources.message.stays c.in-Ok.ensures.sources.message.quiet (alone inl) media.cause;
}

pub returns-clause-panel : goal.returns-clause-panel
returns-clause-panel g c =
    hears_behind c.args.judges.now c.draft.new.judges c.in-Ok.build c.make_ready.result
    (read_result no_effects _ _ c.make_ready.result c.make_ready.ensures.reads.cause) (λ qs asks. asks)
    c.in-Ok.ensures.panel

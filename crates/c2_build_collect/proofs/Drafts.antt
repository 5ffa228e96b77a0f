-- What is drafted over two files: a place in what is left of the media, and the tests on the numbers there.
use Rattle.c2_collect_spec.proofs.TheLaws.{the_length_of_a_collected_store_fits_fits}
use Rattle.std.proofs.Common.{◌≡◌, inr, ℕ, ◌+◌, ◌-◌, ◌^◌, ◌<◌, List, [], length, None, refl, sym, ap, subst}
use Rattle.std.specs.Prelude.{Err, IfErr, IfOk, Ok, Result}
use Rattle.c2_base.specs.declared.values.Question.{Question}
use Rattle.c2_spec.specs.Jumbf.Tree.{Tree}
use Rattle.c2_spec.specs.Located.{Opening}
use Rattle.c2_spec.specs.declared.digest.Alg.{Alg}
use Rattle.c2_spec.specs.declared.panel.Verdict.{Verdict}
use Rattle.c2_rules.specs.Opened.{IsOpened}
use Rattle.c2_new_file_spec.specs.Store.{new_alg}
use Rattle.c2_definition.specs.declared.types.Definition.{Definition}
use Rattle.c2_new_file_spec.specs.Places.{Place, in_boxes, in_segments, store_len}
use Rattle.c2_collect_spec.specs.Order.{FilePair, pair_readings}
use Rattle.c2_collect_spec.specs.Outcomes.{CollectGround, IsPairStage}
use Rattle.c2_collect_spec.specs.Outcomes as collect
use Rattle.c2_collect_spec.proofs.SomeOutcome.{pair_passed}
use Rattle.c2_build_refusals.specs.Kinds.{WithoutFault}
use Rattle.c2_build_refusals.specs.Refusals.{Ground}
use Rattle.c2_build_refusals.specs.declared.error.BuildError.{BuildError}
use Rattle.c2_build_refusals.specs.declared.types.Drafted.{Drafted}
use Rattle.c2_build_refusals.specs.declared.types.BuildBase.{BuildBase}
use Rattle.c2_build_refusals.specs.declared.types.InsertPoint.{InsertPoint}
use Rattle.c2_build_refusals.proofs.Outside.{outside_map}
use Rattle.c2_build_base.specs.Grounds.{IsGround}
use Rattle.c2_build_in_place.specs.Numbers.{HasLen, IsOfFile}
use Rattle.c2_build_drafts.specs.Drafts.{IsDraftedOver, IsRefusedAt}
use Rattle.c2_build_collect_base.specs.Grounds.{IsCollectedGround}
use Rattle.c2_build_collect.specs.Steps.{IsDraftOf, IsDrafted, IsRefusedDraft}
use Rattle.c2_build_collect.proofs.Refused.{numbers_passed, numbers_refused}

module _ (hash : Alg → List ℕ → List ℕ) (said : Question → Verdict) (media other : List ℕ) (what : Opening Tree) (d : Definition) (k : BuildBase) (p : FilePair)
    (opened : IsOpened media what) (stage : collect.IsMediaStage media (Ok what)) (pair : IsPairStage hash said media other what d (Ok p)) (is : IsCollectedGround (hash (new_alg d)) media d k p) where
  -- what the new file is built of at a place
  abbrev built_at : Place → CollectGround
  built_at place = record { pair = p; content = is.content; place = place }

  -- what it is built over, at whatever place
  abbrev pub over : Ground
  over = record { base = p.media.base; content = is.content; manifests = length (pair_readings p) + 1 }

  -- what is kept is what the new file is built over
  pub over_kept : IsGround (hash (new_alg d)) media d k over
  over_kept = record { base = is.base; content = is.is; manifests = sym is.manifests }

  -- as many bytes are reserved as the definition of the content says
  room_is : d.reserve ≡ is.content.definition.reserve
  room_is = ap (λ (x : Definition). x.reserve) (sym is.is.definition)

  -- 64 bits hold the length of the new store, where a file is the definition
  pub over_len : IsOfFile d → (s : InsertPoint) → HasLen s is.content
  over_len of_file s = by s
    where
      fits : (place : Place) → store_len place is.content is.content.definition.reserve < 2 ^ 64 - 1
      fits place =
          let read = (pair_passed hash said media other what d p stage pair).is_pair in
          subst (λ (n : ℕ). store_len place is.content n < 2 ^ 64 - 1) room_is
          (the_length_of_a_collected_store_fits_fits hash said media of_file.0 other d p is.content place of_file.1 read
          is.collects)

      by : (x : InsertPoint) → HasLen x is.content
      by (InsertPoint.Segments start number) = fits (in_segments [] None)
      by (InsertPoint.Boxes rows) = fits (in_boxes [])

  -- no test fails at its place
  draft_passed : (w : Drafted) → IsDraftedOver (hash (new_alg d)) media d w over
      → IsDrafted hash said media other what d w
  draft_passed w at = record {
    ground = built_at at.place;
    passed = record {
      pair = pair;
      stage = (is.content, is.collects, (at.place, at.over.place, refl));
      unrefused =
          numbers_passed p.media.base is.content d.reserve (length (pair_readings p) + 1) at.place room_is at.passed;
    };
    over = at.over;
  }

  -- one does
  draft_refused : (e : BuildError) → IsRefusedAt over e → IsRefusedDraft hash said media other what d e
  draft_refused e at = inr (
    built_at at.0,
    pair,
    (is.content, is.collects, (at.0, at.1, refl)),
    numbers_refused p.media.base is.content d.reserve (length (pair_readings p) + 1) at.0 room_is e at.2,
  )

  -- a new store that collects is drafted, or refused where its place is
  pub draft_of : (r : Result Drafted BuildError) → IfOk r (λ w. IsDraftedOver (hash (new_alg d)) media d w over)
      → (IsOfFile d → IfErr r (λ e. WithoutFault e (IsRefusedAt over e))) → IsDraftOf hash said media other what d r
  draft_of (Ok w) at fails = draft_passed w at
  draft_of (Err e) at fails = λ of_file. outside_map e (draft_refused e) (fails of_file)

-- What is planned and what is built of a draft over two files.
use Rattle.c2_new_signature.proofs.TheLaws.{a_message_fills_its_reserve_or_needs_more}
use Rattle.std.proofs.Common.{◌≡◌, inl, inr, ℕ, List, ◌∷◌, ◌++◌, length, Option, Some, None, refl, sym, ap, ◌∙◌, subst}
use Rattle.std.specs.Prelude.{Err, IfErr, IfOk, Ok, Result}
use Rattle.c2_lemmas.specs.Stages.{Then}
use Rattle.c2_lemmas.proofs.Stages.{then_next, unless_first, unless_passes}
use Rattle.c2_lemmas.proofs.Lists.{none_both}
use Rattle.c2_base.specs.declared.values.Question.{Question}
use Rattle.c2_spec.specs.C2pa.Message.{bare_bytes}
use Rattle.c2_spec.specs.C2pa.Sign1.{SignParts}
use Rattle.c2_spec.specs.Jumbf.Tree.{Tree}
use Rattle.c2_spec.specs.Located.{Opening}
use Rattle.c2_spec.specs.declared.digest.Alg.{Alg}
use Rattle.c2_spec.specs.declared.panel.Verdict.{Verdict}
use Rattle.c2_definition.specs.declared.types.Definition.{Definition}
use Rattle.c2_new_signature.specs.Refusals.{reserve_needed}
use Rattle.c2_new_signature.specs.Signed.{IsSigned}
use Rattle.c2_new_file_spec.specs.Store.{new_alg}
use Rattle.c2_new_file_spec.specs.Places.{range_len}
use Rattle.c2_collect_spec.specs.Order.{CollectRefusal, reserve_refusals}
use Rattle.c2_collect_spec.specs.Outcomes.{CollectGround, IsGroundStage, IsMadeOn, IsMadeOver, IsNewFile, IsPairStage, IsPlannedOn, IsPlannedOver, IsPutIn, NewFile, ground_refusals, ground_signed, new_file}
use Rattle.c2_build_refusals.specs.Kinds.{SaysNothing}
use Rattle.c2_build_refusals.specs.Refusals.{IsReserveRefusal}
use Rattle.c2_build_refusals.specs.declared.error.BuildError.{BuildError}
use Rattle.c2_build_refusals.specs.declared.types.Drafted.{Drafted}
use Rattle.c2_build_refusals.proofs.Outside.{nothing_said}
use Rattle.c2_build_in_place.specs.declared.writing.Ready.{Ready}
use Rattle.c2_build_drafts.specs.Drafts.{IsPutReady}
use Rattle.c2_build_drafts.specs.declared.ready.DraftedBuild.{DraftedBuild}
use Rattle.c2_build_collect_base.specs.Errors.{IsAnswerTo, IsRefusedWith}
use Rattle.c2_build_collect.specs.Steps.{IsDrafted, IsFirstError, IsPassed, IsReadyFor, IsRefusedDraft, MakesFile, ground_of}
use Rattle.c2_build_collect.proofs.Refused.{first_before, first_behind, reserve_first, reserve_none}
use Rattle.c2_build_collect.proofs.Stages.{refused_first, refused_next}

-- ---- what is refused

module _ (hash : Alg → List ℕ → List ℕ) (said : Question → Verdict) (media other : List ℕ) (what : Opening Tree) (d : Definition) where
  -- what is refused first of a list that is tested over a ground is refused over both files
  refused_over :
      {A : Type 0} (Next : CollectGround → Result A CollectRefusal → Type 0) (g : CollectGround) (e : BuildError)
      → IsPairStage hash said media other what d (Ok g.pair) → IsGroundStage d g.pair (Ok g)
      → IsRefusedWith (Next g) e
      → IsRefusedWith (Then (IsPairStage hash said media other what d) (λ p. Then (IsGroundStage d p) Next)) e
  refused_over Next g e pair stage h =
      refused_next (IsPairStage hash said media other what d) (λ p. Then (IsGroundStage d p) Next) g.pair e pair
      (refused_next (IsGroundStage d g.pair) Next g e stage h)

  -- the first of a list is refused with its error
  with_first : {A : Type 0} (es : List CollectRefusal) (Next : Result A CollectRefusal → Type 0) (Is : Result A CollectRefusal → Type 0) (e : BuildError)
      → ((refusal : CollectRefusal) (others : List CollectRefusal) → es ≡ refusal ∷ others → Is (Err refusal))
      → IsFirstError es e → IsRefusedWith Is e
  with_first es Next Is e is h = (h.0, is h.0 h.1 h.2, h.3)

  -- a plan is refused where its draft is
  pub planned_refused : (e : BuildError) → IsRefusedDraft hash said media other what d e
      → IsRefusedWith (Then (IsPairStage hash said media other what d) (IsPlannedOver hash d)) e
  planned_refused e (inl h) = refused_first (IsPairStage hash said media other what d) (IsPlannedOver hash d) e h
  planned_refused e (inr h) =
      refused_over (IsPlannedOn hash d) h.0 e h.1 h.2
      (h.3.0, unless_first (ground_refusals d h.0) (λ r. r ≡ Ok (ground_signed hash d h.0)) h.3.0 h.3.1 h.3.2, h.3.3)

  -- a new file is refused where its draft is
  pub made_refused : (parts : SignParts) (e : BuildError) → IsRefusedDraft hash said media other what d e
      → IsRefusedWith (Then (IsPairStage hash said media other what d) (IsMadeOver hash d parts)) e
  made_refused parts e (inl h) = refused_first (IsPairStage hash said media other what d) (IsMadeOver hash d parts) e h
  made_refused parts e (inr h) =
      let first = first_before (ground_refusals d h.0) (reserve_refusals d parts) e h.3 in
      refused_over (IsMadeOn hash d parts) h.0 e h.1 h.2
      (first.0, unless_first (ground_refusals d h.0 ++ reserve_refusals d parts) (IsNewFile hash d parts h.0) first.0 first.1 first.2, first.3)

  -- a message that doesn't fit is refused last
  pub reserve_refused : (parts : SignParts) (g : CollectGround) (e : BuildError)
      → IsPassed hash said media other what d g → IsReserveRefusal d parts e
      → IsRefusedWith (Then (IsPairStage hash said media other what d) (IsMadeOver hash d parts)) e
  reserve_refused parts g e passed h =
      let first =
      first_behind (ground_refusals d g) (reserve_refusals d parts) e passed.unrefused (reserve_first d parts e h) in
      refused_over (IsMadeOn hash d parts) g e passed.pair passed.stage
      (first.0, unless_first (ground_refusals d g ++ reserve_refusals d parts) (IsNewFile hash d parts g) first.0 first.1 first.2, first.3)

  -- ---- what is planned

  -- these bytes are signed of what passed
  pub passed_plan : (g : CollectGround) → IsPassed hash said media other what d g
      → Then (IsPairStage hash said media other what d) (IsPlannedOver hash d) (Ok (ground_signed hash d g))
  passed_plan g h =
      then_next (IsPairStage hash said media other what d) (IsPlannedOver hash d) g.pair (Ok (ground_signed hash d g))
      h.pair
      (then_next (IsGroundStage d g.pair) (IsPlannedOn hash d) g (Ok (ground_signed hash d g)) h.stage
      (unless_passes (ground_refusals d g) (λ r. r ≡ Ok (ground_signed hash d g)) (Ok (ground_signed hash d g)) h.unrefused refl))

  -- ---- what is built

  -- no bytes are needed where no number is
  none_needed : (o : Option ℕ) → ((n : ℕ) → o ≡ Some n → ⊥) → o ≡ None
  none_needed None h = refl
  none_needed (Some n) h = absurd (h n refl)

  -- a new file is built of what passed, with a message that fills what is reserved
  passed_file : (parts : SignParts) (g : CollectGround) (message : List ℕ)
      → IsPassed hash said media other what d g → IsSigned parts d.reserve message → (bytes : List ℕ)
      → IsPutIn hash d g message bytes
      → Then (IsPairStage hash said media other what d) (IsMadeOver hash d parts) (Ok (new_file g (length message) bytes))
  passed_file parts g message passed signed bytes put =
      let file : NewFile = new_file g (length message) bytes in
      let enough : reserve_needed d.reserve (length (bare_bytes parts)) ≡ None =
      none_needed _ (λ n e. a_message_fills_its_reserve_or_needs_more.never_both parts d.reserve message signed (n, e)) in
      let none =
      none_both (ground_refusals d g) (reserve_refusals d parts) passed.unrefused (reserve_none d parts enough) in
      then_next (IsPairStage hash said media other what d) (IsMadeOver hash d parts) g.pair (Ok file) passed.pair
      (then_next (IsGroundStage d g.pair) (IsMadeOn hash d parts) g (Ok file) passed.stage
      (unless_passes (ground_refusals d g ++ reserve_refusals d parts) (IsNewFile hash d parts g) (Ok file) none (message, signed, (bytes, put, refl))))

  -- what was drafted makes the new file, with a message that fills what is reserved
  pub draft_makes : (parts : SignParts) (w : Drafted) (message : List ℕ)
      → IsDrafted hash said media other what d w → IsSigned parts d.reserve message
      → MakesFile hash media (Then (IsPairStage hash said media other what d) (IsMadeOver hash d parts)) (record { definition = d; drafted = w; message = message })
  draft_makes parts w message at signed =
      record { ground = at.ground; over = at.over; made = passed_file parts at.ground message at.passed signed }

-- what is ready of what was drafted is the new file that it makes
pub ready_made : (hash : Alg → List ℕ → List ℕ) (media : List ℕ) (Is : Result NewFile CollectRefusal → Type 0) (b : DraftedBuild) (r : Result Ready BuildError) (m : MakesFile hash media Is b)
    → IfOk r (IsPutReady (hash (new_alg b.definition)) media (ground_of m.ground) m.ground.place b.message)
    → IfErr r SaysNothing → IsReadyFor media Is r
ready_made hash media Is b (Ok r) m h k = (
  new_file m.ground (length b.message) h.bytes,
  m.made h.bytes h.put,
  record { file = h.file; start = h.start; len = ap (range_len m.ground.place m.ground.content) h.filled ∙ h.len },
)
ready_made hash media Is b (Err e) m h k = nothing_said e _ k

-- what is signed of what was drafted is planned
pub planned_by : (Is : Result (List ℕ) CollectRefusal → Type 0) (r : Result (List ℕ) BuildError) (bytes : List ℕ)
    → IfOk r (λ x. x ≡ bytes) → IfErr r SaysNothing → Is (Ok bytes) → IsAnswerTo Is r
planned_by Is (Ok x) bytes h k is = subst (λ (y : List ℕ). Is (Ok y)) (sym h) is
planned_by Is (Err e) bytes h k is = nothing_said e _ k

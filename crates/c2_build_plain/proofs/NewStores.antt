-- What is signed and what is written of what was drafted.
use Rattle.std.proofs.Common.{◌≡◌, ℕ, true, List, length, Option, option_map, Some, None, refl, sym, ap, ◌∙◌, subst}
use Rattle.std.specs.Prelude.{Result, Ok, Err, IfErr, IfOk}
use Rattle.std.specs.Option.{option_to_list}
use Rattle.c2_lemmas.specs.Stages.{Then}
use Rattle.c2_lemmas.proofs.Stages.{then_next, unless_some_fails, unless_some_passes}
use Rattle.c2_base.specs.declared.values.Question.{Question}
use Rattle.c2_spec.specs.C2pa.Message.{bare_bytes}
use Rattle.c2_spec.specs.C2pa.Sign1.{SignParts, sig_structure}
use Rattle.c2_spec.specs.Cbor.Deterministic.{deterministic}
use Rattle.c2_spec.specs.Jumbf.Tree.{tree_bytes}
use Rattle.c2_spec.specs.declared.digest.Alg.{Alg}
use Rattle.c2_spec.specs.declared.panel.Verdict.{Verdict}
use Rattle.c2_definition.specs.declared.types.Definition.{Definition}
use Rattle.c2_new_signature.specs.Refusals.{reserve_needed}
use Rattle.c2_new_signature.specs.Signed.{IsSigned}
use Rattle.c2_new_signature.proofs.TheLaws.{a_message_fills_its_reserve_or_needs_more}
use Rattle.c2_new_file_spec.specs.Store.{new_claim, new_alg}
use Rattle.c2_new_file_spec.specs.Places.{Place, place_binding, place_store, put_bytes}
use Rattle.c2_build_refusals.specs.Kinds.{ComesAs, HasOutcome, SaysNothing}
use Rattle.c2_build_plain.specs.Building.{Built, IsBuilt, IsEmbeddedOn, IsEmbeddedOver, IsPlannedOver, built_of, signed_bytes}
use Rattle.c2_build_refusals.specs.Stages.{IsGroundStage, IsPlaceStage, MediaKind}
use Rattle.c2_build_refusals.specs.Refusals.{Ground, IsReserveRefusal, first_refusal, ground_tests, late_tests, refuse_if, reserve_tests}
use Rattle.c2_build_drafts.specs.Drafts.{IsPutReady, IsSignedOf, draft_signed}
use Rattle.c2_build_drafts.specs.declared.ready.DraftedBuild.{DraftedBuild}
use Rattle.c2_build_plain.specs.Steps.{IsBuildFor, IsDraftFor, IsDrafted, IsPassed, IsReady, MakesFile, build_of}
use Rattle.c2_build_plain.specs.declared.ready.MessageDraft.{MessageDraft}
use Rattle.c2_build_refusals.specs.declared.types.Drafted.{Drafted}
use Rattle.c2_build_in_place.specs.declared.writing.Ready.{Ready}
use Rattle.c2_build_refusals.specs.declared.error.BuildError.{BuildError}
use Rattle.c2_build_refusals.specs.declared.error.BuildError.TheVariants as build
use Rattle.c2_build_refusals.proofs.Stages.{first_passes}
use Rattle.c2_build_refusals.proofs.Outside.{nothing_said, outside_map}
use Rattle.c2_build_plain.proofs.Drawn.{passed_plan}

-- ---- what is signed

-- what is signed of what was drafted is what is signed over the ground
same_signed : (hash : Alg → List ℕ → List ℕ) (d : Definition) (g : Ground) (p : Place) → g.content.definition ≡ d
    → draft_signed (hash (new_alg d)) d g p ≡ signed_bytes hash g p
same_signed hash d g p own =
    ap
    (λ (x : Definition). deterministic (sig_structure x.protected (new_claim (hash (new_alg x)) g.content (place_binding (hash (new_alg x)) g.content x.reserve g.base p))))
    (sym own)

-- the bytes that a plan answers of what was drafted are what its inputs come to
pub planned_by :
    (hash : Alg → List ℕ → List ℕ) (said : Question → Verdict) (media : List ℕ) (kind : MediaKind) (d : Definition)
    (w : Drafted) (known : Option (List ℕ)) (r : Result (List ℕ) BuildError)
    → IsDrafted hash said media d kind w → known ≡ Some media → IfOk r (IsSignedOf (hash (new_alg d)) known d w)
    → IfErr r SaysNothing → HasOutcome (IsPlannedOver hash said media kind d) r
planned_by hash said media kind d w known (Ok tbs) at same signed nothing =
    let own : tbs ≡ signed_bytes hash at.ground at.place =
    signed media same at.ground at.place at.over ∙ same_signed hash d at.ground at.place at.over.ground.content.definition in
    subst (λ (x : List ℕ). IsPlannedOver hash said media kind d (Ok x)) (sym own)
    (passed_plan hash said media kind d at.ground at.place at.passed)
planned_by hash said media kind d w known (Err e) at same signed nothing =
    nothing_said e (IsPlannedOver hash said media kind d (Err e)) nothing

-- ---- the message

-- a message that is signed so fits into the reserve
fits : (d : Definition) (parts : SignParts) (message : List ℕ) → IsSigned parts d.reserve message
    → first_refusal (reserve_tests d parts) ≡ None
fits d parts message signed = by (reserve_needed d.reserve (length (bare_bytes parts))) refl
  where
    by : (o : Option ℕ) → reserve_needed d.reserve (length (bare_bytes parts)) ≡ o
        → first_refusal (reserve_tests d parts) ≡ None
    by None e =
        ap
        (λ (x : Option ℕ). first_refusal (option_to_list (option_map (λ (n : ℕ). refuse_if true (build.ReserveTooSmall n)) x)))
        e
    by (Some n) e = absurd (a_message_fills_its_reserve_or_needs_more.never_both parts d.reserve message signed (n, e))

-- one that doesn't is refused behind the other tests
refused_by :
    (hash : Alg → List ℕ → List ℕ) (said : Question → Verdict) (media : List ℕ) (kind : MediaKind) (d : Definition)
    (parts : SignParts) (g : Ground) (p : Place) (n : ℕ)
    → IsPassed hash said media d kind g p → g.content.definition ≡ d
    → reserve_needed d.reserve (length (bare_bytes parts)) ≡ Some n
    → IsEmbeddedOver hash said media kind d parts (Err (build.ReserveTooSmall n))
refused_by hash said media kind d parts g p n h own r =
    let last : first_refusal (reserve_tests g.content.definition parts) ≡ Some (build.ReserveTooSmall n) =
    ap (λ (x : Definition). first_refusal (reserve_tests x parts)) own ∙ ap (λ (x : Option ℕ). first_refusal (option_to_list (option_map (λ (m : ℕ). refuse_if true (build.ReserveTooSmall m)) x))) r in
    let first =
    first_passes (ground_tests g p) (reserve_tests g.content.definition parts) (Some (build.ReserveTooSmall n))
    h.numbers last in
    then_next (IsGroundStage hash said media d kind) (IsEmbeddedOn hash parts) g (Err (build.ReserveTooSmall n))
    h.ground
    (then_next (IsPlaceStage g.base) _ p (Err (build.ReserveTooSmall n)) h.stage (unless_some_fails (first_refusal (late_tests g parts p)) _ (build.ReserveTooSmall n) first))

-- a message that needs more than is reserved is refused with its error
pub reserve_outside :
    (hash : Alg → List ℕ → List ℕ) (said : Question → Verdict) (media : List ℕ) (kind : MediaKind) (d : Definition)
    (parts : SignParts) (g : Ground) (p : Place) (e : BuildError)
    → IsPassed hash said media d kind g p → g.content.definition ≡ d → IsReserveRefusal d parts e
    → IsEmbeddedOver hash said media kind d parts (Err e)
reserve_outside hash said media kind d parts g p e h own r =
    subst (λ (x : BuildError). IsEmbeddedOver hash said media kind d parts (Err x)) (sym r.2)
    (refused_by hash said media kind d parts g p r.0 h own r.1)

-- ---- what is written

-- a file is built where no test fails
pub built_over :
    (hash : Alg → List ℕ → List ℕ) (said : Question → Verdict) (media : List ℕ) (kind : MediaKind) (d : Definition)
    (parts : SignParts) (g : Ground) (p : Place) (message bytes : List ℕ)
    → IsPassed hash said media d kind g p → g.content.definition ≡ d
    → put_bytes p (tree_bytes (place_store (hash (new_alg d)) g.content message g.base p)) ≡ Some bytes
    → IsSigned parts d.reserve message → IsEmbeddedOver hash said media kind d parts (Ok (built_of g p bytes))
built_over hash said media kind d parts g p message bytes h own put signed =
    let filled : IsSigned parts g.content.definition.reserve message =
    subst (λ (x : Definition). IsSigned parts x.reserve message) (sym own) signed in
    let own_put : put_bytes p (tree_bytes (place_store (hash (new_alg g.content.definition)) g.content message g.base p)) ≡ Some bytes =
    subst (λ (x : Definition). put_bytes p (tree_bytes (place_store (hash (new_alg x)) g.content message g.base p)) ≡ Some bytes) (sym own) put in
    let none =
    first_passes (ground_tests g p) (reserve_tests g.content.definition parts) None h.numbers
    (fits g.content.definition parts message filled) in
    then_next (IsGroundStage hash said media d kind) (IsEmbeddedOn hash parts) g (Ok (built_of g p bytes)) h.ground
    (then_next (IsPlaceStage g.base) _ p (Ok (built_of g p bytes)) h.stage
    (unless_some_passes (first_refusal (late_tests g parts p)) (IsBuilt hash g p parts) (Ok (built_of g p bytes)) none (message, filled, (bytes, own_put, refl))))

-- ---- what comes of it

-- what was drafted makes the new file
pub draft_makes :
    (hash : Alg → List ℕ → List ℕ) (said : Question → Verdict) (media : List ℕ) (kind : MediaKind) (d : Definition)
    (parts : SignParts) (w : Drafted) (message : List ℕ)
    → IsDrafted hash said media d kind w → IsSigned parts d.reserve message
    → MakesFile hash media (IsEmbeddedOver hash said media kind d parts) (record { definition = d; drafted = w; message = message })
draft_makes hash said media kind d parts w message at signed = record {
  ground = at.ground;
  place = at.place;
  over = at.over;
  made =
      λ bytes put. built_over hash said media kind d parts at.ground at.place message bytes at.passed at.over.ground.content.definition put signed;
}

-- what is drafted behind a stage that passed makes the new file
pub build_next :
    {A : Type 0} (hash : Alg → List ℕ → List ℕ) (media : List ℕ) (First : Result A BuildError → Type 0)
    (Next : A → Result Built BuildError → Type 0) (a : A) (r : Result DraftedBuild BuildError)
    → First (Ok a) → IsBuildFor hash media (Next a) r
    → IsBuildFor hash media (Then First Next) r
build_next hash media First Next a (Ok b) first h = record {
  ground = h.ground;
  place = h.place;
  over = h.over;
  made = λ bytes put. then_next First Next a (Ok (built_of h.ground h.place bytes)) first (h.made bytes put);
}
build_next hash media First Next a (Err e) first h = outside_map e (then_next First Next a (Err e) first) h

-- what is drafted for a definition behind a stage that passed makes the new file
pub draft_next :
    {A : Type 0} (hash : Alg → List ℕ → List ℕ) (media : List ℕ) (d : Definition)
    (First : Result A BuildError → Type 0) (Next : A → Result Built BuildError → Type 0) (a : A)
    (r : Result MessageDraft BuildError)
    → First (Ok a) → IsDraftFor hash media d (Next a) r
    → IsDraftFor hash media d (Then First Next) r
draft_next hash media d First Next a (Ok m) first h = build_next hash media First Next a (Ok (build_of d m)) first h
draft_next hash media d First Next a (Err e) first h = outside_map e (then_next First Next a (Err e) first) h

-- what is ready is the new file
pub ready_made :
    (hash : Alg → List ℕ → List ℕ) (media : List ℕ) (Is : Result Built BuildError → Type 0) (b : DraftedBuild)
    (r : Result Ready BuildError) (m : MakesFile hash media Is b)
    → IfOk r (IsPutReady (hash (new_alg b.definition)) media m.ground m.place b.message)
    → IfErr r SaysNothing → ComesAs (IsReady media) Is r
ready_made hash media Is b (Ok x) m h k =
    (built_of m.ground m.place h.bytes, m.made h.bytes h.put, record { file = h.file; start = h.start; len = h.len })
ready_made hash media Is b (Err e) m h k = nothing_said e _ k

-- The manifests that `questions` asks of, their labels and their questions.
use Rattle.std.proofs.Common.{◌≡◌, ℕ, ◌-◌, ◌<◌, zero, suc, Bool, true, false, List, [], ◌∷◌, ◌++◌, length, Option, Some, None, refl, sym, ap, ◌∙◌, subst, unwrap_or, slice_get, arith, append_assoc}
use Rattle.std.specs.Prelude.{IfSome}
use Rattle.std.specs.List.{AllZip, flat_map}
use Rattle.std.specs.Option.{option_map, option_and_then, option_to_list}
use Rattle.std.proofs.lemmas.Option.{slice_get-map}
use Rattle.c2_base.specs.declared.values.Question.{Question}
use Rattle.c2_spec.specs.Jumbf.Boxes.{box_at, any_label}
use Rattle.c2_spec.specs.Jumbf.Tree.{Tree}
use Rattle.c2_spec.specs.C2pa.Manifest.{Manifest, manifest_at, manifests_of, store_of}
use Rattle.c2_spec.specs.declared.store.ManifestBoxes.{ManifestBoxes}
use Rattle.c2_rules.specs.Chains.{is_reached, label_in}
use Rattle.c2_rules.specs.CheckList.{Asked, all_asked, asked_at, asked_of, question_at, questions, questions_of}
use Rattle.c2_rules.specs.Claims.{Chained}
use Rattle.c2_rules.specs.Ingredients.{label_text}
use Rattle.c2_rules.specs.Readings.{Reading, IsReading, question_in}
use Rattle.c2_rules.specs.Tests.{downward}
use Rattle.c2_cmd_reading.specs.Reading.{IsChainOf, questions_in}
use Rattle.c2_lemmas.proofs.Each.{zip_length}
use Rattle.c2_rules.proofs.TestLemmas.{down_at}

-- ---- one manifest

-- as many manifests as readings
pub chain_count : (t : Tree) (s : List ManifestBoxes) (c : Chained) → IsChainOf t s c
    → length c.manifests ≡ length c.readings
chain_count t s c is =
    ap (λ (l : List Manifest). length l) is.manifests ∙ zip_length IsReading (manifests_of t) c.readings is.reads

-- what is read at a place is that of the manifest there
zip_at : {A B : Type 0} (R : A → B → Type 0) (xs : List A) (ys : List B) (i : ℕ) → AllZip R xs ys → i < length xs
    → (x : A) × (y : B) × (slice_get xs i ≡ Some x) × (slice_get ys i ≡ Some y) × R x y
zip_at R [] ys i h lt = absurd (omega (arith, lt))
zip_at R (x ∷ xs) [] i h lt = absurd h
zip_at R (x ∷ xs) (y ∷ ys) zero h lt = (x, y, refl, refl, h.0)
zip_at R (x ∷ xs) (y ∷ ys) (suc i) h lt = zip_at R xs ys i h.1 (omega (arith, lt))

-- the boxes of the manifest at a place
manifest_here : (t : Tree) (s : List ManifestBoxes) (i : ℕ) (m : Manifest) → s ≡ store_of t
    → slice_get (manifests_of t) i ≡ Some m → option_map (manifest_at t) (slice_get s i) ≡ Some m
manifest_here t s i m same at =
    ap (λ (l : List ManifestBoxes). option_map (manifest_at t) (slice_get l i)) same
    ∙ sym (slice_get-map (manifest_at t) (store_of t) i) ∙ at

-- the label of the manifest at a place
label_here : (t : Tree) (o : Option ManifestBoxes) (m : Manifest) (label : List ℕ)
    → option_map (manifest_at t) o ≡ Some m
    → Some label ≡ option_and_then (λ (b : ManifestBoxes). any_label (box_at t b.whole).box) o → label_text m ≡ label
label_here t None m label at is = absurd (cc (at))
label_here t (Some b) m label at is =
    let same : manifest_at t b ≡ m = cc (at) in
    let named : m.label ≡ Some label = ap (λ (x : Manifest). x.label) (sym same) ∙ sym is in
    ap (λ (o : Option (List ℕ)). unwrap_or o []) named

-- the manifest at a place, as it is asked of
pub asked_here : (t : Tree) (s : List ManifestBoxes) (c : Chained) (i : ℕ) (one : Asked) → IsChainOf t s c
    → i < length c.manifests
    → Some one.label ≡ option_and_then (λ (b : ManifestBoxes). any_label (box_at t b.whole).box) (slice_get s i)
    → IfSome (slice_get c.readings i) (λ r. one.question ≡ question_in r) → asked_of (slice_get c.readings i) ≡ one ∷ []
asked_here t s c i one is lt label question =
    let count : length c.manifests ≡ length (manifests_of t) = ap (λ (l : List Manifest). length l) is.manifests in
    let here = zip_at IsReading (manifests_of t) c.readings i is.reads (omega (arith, count, lt)) in
    let r : Reading = here.1 in
    let named : label_in r ≡ one.label =
    ap label_text here.4.same
    ∙ label_here t (slice_get s i) here.0 one.label (manifest_here t s i here.0 is.store.same here.2) label in
    let asks : one.question ≡ question_in r =
    subst (λ (o : Option Reading). IfSome o (λ x. one.question ≡ question_in x)) here.3 question in
    let same : asked_of (Some r) ≡ one ∷ [] =
    ap (λ (x : List ℕ). record { label = x; question = question_in r } ∷ []) named
    ∙ ap (λ (q : Option Question). record { label = one.label; question = q } ∷ []) (sym asks) in
    ap asked_of here.3 ∙ same

-- ---- the manifests from the last to the first

-- a list as far as place `i`, and one place on
pub down_more : {A : Type 0} (list_at : ℕ → List A) (all old new : List A) (i : ℕ) → 0 < i
    → all ≡ old ++ downward list_at i → new ≡ old ++ list_at (i - 1) → all ≡ new ++ downward list_at (i - 1)
down_more list_at all old new i some so_far step =
    so_far ∙ ap (λ l. old ++ l) (down_at list_at i some)
    ∙ sym (append_assoc old (list_at (i - 1)) (downward list_at (i - 1)))
    ∙ ap (λ l. l ++ downward list_at (i - 1)) (sym step)

-- nothing yet, and all places
pub all_start : (t : Tree) (s : List ManifestBoxes) (c : Chained) (items : List Asked) (n : ℕ) → IsChainOf t s c
    → items ≡ [] → n ≡ length c.manifests → all_asked c.readings ≡ items ++ downward (asked_at c.readings) n
all_start t s c items n is none count =
    ap (downward (asked_at c.readings)) (sym (count ∙ chain_count t s c is))
    ∙ ap (λ (l : List Asked). l ++ downward (asked_at c.readings) n) (sym none)

-- ---- their questions

-- what comes of two lists in a row is what comes of the first, then what comes of the second
flat_append : {A B : Type 0} (f : A → List B) (xs ys : List A) → flat_map f (xs ++ ys) ≡ flat_map f xs ++ flat_map f ys
flat_append f [] ys = refl
flat_append f (x ∷ xs) ys =
    ap (λ l. f x ++ l) (flat_append f xs ys) ∙ sym (append_assoc (f x) (flat_map f xs) (flat_map f ys))

-- a manifest, as it is asked of, has the question that was read of it, or none
of_reading : (o : Option Reading) → questions_in (asked_of o) ≡ questions_of o
of_reading None = refl
of_reading (Some r) = one (question_in r)
  where
    one : (q : Option Question) → option_to_list q ++ [] ≡ option_to_list q
    one None = refl
    one (Some q) = refl

-- what is asked of the manifest at a place is its question where it is reached, and nothing where it isn't
of_place : (rs : List Reading) (i : ℕ) (b : Bool) → is_reached rs i ≡ b
    → questions_in (asked_at rs i) ≡ question_at rs i
of_place rs i true is = rw is (of_reading (slice_get rs i))
of_place rs i false is = rw is refl

-- what is asked of the first `n` manifests, the last first, are the questions of their places in that order
of_places : (rs : List Reading) (n : ℕ) → questions_in (downward (asked_at rs) n) ≡ downward (question_at rs) n
of_places rs zero = refl
of_places rs (suc n) =
    flat_append (λ (a : Asked). option_to_list a.question) (asked_at rs n) (downward (asked_at rs) n)
    ∙ ap (λ l. l ++ questions_in (downward (asked_at rs) n)) (of_place rs n (is_reached rs n) refl)
    ∙ ap (λ l. question_at rs n ++ l) (of_places rs n)

-- are those of the store
pub all_questions : (rs : List Reading) → questions_in (all_asked rs) ≡ questions rs
all_questions rs = of_places rs (length rs)

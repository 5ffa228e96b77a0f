-- What is counted of a store, one after the other.
use Rattle.std.proofs.Common.{◌≡◌, ℕ, suc, ◌+◌, Bool, true, false, cond, not, List, [], ◌∷◌, ◌++◌, length, filter, filter_map, Option, Some, None, ◌<◌, ◌≤◌, get_or, take, refl, sym, ap, ap₂, ◌∙◌, arith}
use Rattle.std.specs.List.{cons_option, range_with_len}
use Rattle.std.proofs.lemmas.List.{length-append}
use Rattle.std.proofs.lemmas.List.Elements.{filter-append, filter_map-append}
use Rattle.std.proofs.lemmas.List.Filters.{length-filter_more}
use Rattle.c2_spec.specs.C2pa.Manifest.{Manifest}
use Rattle.c2_spec.specs.declared.cbor.Ref.{Ref}
use Rattle.c2_spec.specs.declared.claim.Claim.{Claim}
use Rattle.c2_rules.specs.Chains.{entry_label}
use Rattle.c2_rules.specs.Readings.{Reading, entries_of, value_in}
use Rattle.c2_rules.specs.Tests.{downward}
use Rattle.c2_rules.specs.declared.parsed.Parsed.{Parsed}
use Rattle.c2_rules.specs.declared.parsed.Parsed.TheVariants.{Value}
use Rattle.c2_validate.specs.Counts.{keeps, keeps_label, kept_in}
use Rattle.c2_lemmas.proofs.Numbers.{range_push}

-- ---- reached places

-- one place more
places_more : (p : ℕ → Bool) (i : ℕ) (b : Bool) → p i ≡ b
    → length (filter p (range_with_len 0 (i + 1))) ≡ length (filter p (range_with_len 0 i)) + length (cond b (i ∷ []) [])
places_more p i b is =
    let next : i + 1 ≡ suc i = omega arith in
    let here : 0 + i ≡ i = omega arith in
    ap (λ (n : ℕ). length (filter p (range_with_len 0 n))) next
    ∙ ap (λ xs. length (filter p xs)) (range_push 0 i ∙ ap (λ (x : ℕ). range_with_len 0 i ++ x ∷ []) here)
    ∙ ap length (filter-append p (range_with_len 0 i) (i ∷ []))
    ∙ length-append (filter p (range_with_len 0 i)) (filter p (i ∷ []))
    ∙ ap (λ (t : Bool). length (filter p (range_with_len 0 i)) + length (cond t (i ∷ []) [])) is

-- the count goes up by one where the place passes
pub places_step : (p : ℕ → Bool) (i count one : ℕ) (b : Bool) → count ≡ length (filter p (range_with_len 0 i)) → b ≡ p i
    → one ≡ cond b 1 0 → count + one ≡ length (filter p (range_with_len 0 (i + 1)))
places_step p i count one b so_far is same = by b (sym is) same
  where
    by : (t : Bool) → p i ≡ t → one ≡ cond t 1 0 → count + one ≡ length (filter p (range_with_len 0 (i + 1)))
    by true h k = let more = places_more p i true h in omega (arith, so_far, more, k)
    by false h k = let more = places_more p i false h in omega (arith, so_far, more, k)

-- the count stays below the place
pub step_below : (i count one : ℕ) (b : Bool) → count ≤ i → one ≡ cond b 1 0 → count + one ≤ i + 1
step_below i count one true below same = omega (arith, below, same)
step_below i count one false below same = omega (arith, below, same)

-- ---- labels

-- as many labels are kept as entries
kept_same : (redacted : List ℕ → Bool) (m : Manifest) (es : List Ref)
    → length (filter (keeps redacted m) es) ≡ length (filter (λ (l : List ℕ). not (redacted l)) (filter_map (entry_label m) es))
kept_same redacted m [] = refl
kept_same redacted m (e ∷ es) = by (entry_label m e) (kept_same redacted m es)
  where
    one : (l : List ℕ) (b : Bool)
        → length (filter (keeps redacted m) es) ≡ length (filter (λ (x : List ℕ). not (redacted x)) (filter_map (entry_label m) es))
        → length (cond b (e ∷ filter (keeps redacted m) es) (filter (keeps redacted m) es)) ≡ length (cond b (l ∷ filter (λ (x : List ℕ). not (redacted x)) (filter_map (entry_label m) es)) (filter (λ (x : List ℕ). not (redacted x)) (filter_map (entry_label m) es)))
    one l true rest = ap suc rest
    one l false rest = rest

    by : (o : Option (List ℕ))
        → length (filter (keeps redacted m) es) ≡ length (filter (λ (x : List ℕ). not (redacted x)) (filter_map (entry_label m) es))
        → length (cond (keeps_label redacted o) (e ∷ filter (keeps redacted m) es) (filter (keeps redacted m) es)) ≡ length (filter (λ (x : List ℕ). not (redacted x)) (cons_option o (filter_map (entry_label m) es)))
    by None rest = rest
    by (Some l) rest = one l (not (redacted l)) rest

-- one entry more is looked at, and counted where it is kept
pub kept_next : (p : Ref → Bool) (es : List Ref) (k : ℕ) (e : Ref) (before old new : ℕ) (b : Bool) → k < length es
    → e ≡ get_or es k e → old ≡ before + length (filter p (take k es))
    → new ≡ old + cond b 1 0 → b ≡ p e → new ≡ before + length (filter p (take (k + 1) es))
kept_next p es k e before old new b within at so_far is same =
    let more = length-filter_more p es k e within in
    let one : ◌≡◌ {A = ℕ} (cond b 1 0) (cond (p (get_or es k e)) 1 0) =
    ap (λ (t : Bool). cond t 1 0) (same ∙ ap p at) in
    omega (arith, more, so_far, is, one)

-- the labels of what was created and of what was gathered
pub kept_both : (redacted : List ℕ → Bool) (r : Reading) (c : Claim) → r.claim ≡ Value c
    → length (filter (keeps redacted r.manifest) c.created) + length (filter (keeps redacted r.manifest) c.gathered) ≡ length (kept_in redacted r)
kept_both redacted r c is =
    let labels = filter_map (entry_label r.manifest) in
    let all : kept_in redacted r ≡ filter (λ (l : List ℕ). not (redacted l)) (labels c.created) ++ filter (λ (l : List ℕ). not (redacted l)) (labels c.gathered) =
    ap (λ (p : Parsed Claim). filter (λ (l : List ℕ). not (redacted l)) (labels (entries_of (value_in p)))) is
    ∙ ap (filter (λ (l : List ℕ). not (redacted l))) (filter_map-append (entry_label r.manifest) c.created c.gathered)
    ∙ filter-append (λ (l : List ℕ). not (redacted l)) (labels c.created) (labels c.gathered) in
    ap₂ (λ x y. x + y) (kept_same redacted r.manifest c.created) (kept_same redacted r.manifest c.gathered)
    ∙ sym
    (ap length all ∙ length-append (filter (λ (l : List ℕ). not (redacted l)) (labels c.created)) (filter (λ (l : List ℕ). not (redacted l)) (labels c.gathered)))

-- the entries of what was created are added, and then those of what was gathered
pub kept_added :
    (redacted : List ℕ → Bool) (r : Reading) (c : Claim) (first second : List Ref) (before between after : ℕ)
    → r.claim ≡ Value c → first ≡ c.created → second ≡ c.gathered
    → between ≡ before + length (filter (keeps redacted r.manifest) first)
    → after ≡ between + length (filter (keeps redacted r.manifest) second)
    → after ≡ before + length (kept_in redacted r)
kept_added redacted r c first second before between after is created gathered one two =
    let both = kept_both redacted r c is in
    let a : length (filter (keeps redacted r.manifest) first) ≡ length (filter (keeps redacted r.manifest) c.created) =
    ap (λ (es : List Ref). length (filter (keeps redacted r.manifest) es)) created in
    let b : length (filter (keeps redacted r.manifest) second) ≡ length (filter (keeps redacted r.manifest) c.gathered) =
    ap (λ (es : List Ref). length (filter (keeps redacted r.manifest) es)) gathered in
    omega (arith, both, a, b, one, two)

-- ---- all places

-- as many labels stand below the next place as below a place and at it
pub below_next : {A : Type 0} (f : ℕ → List A) (i : ℕ)
    → length (downward f (i + 1)) ≡ length (downward f i) + length (f i)
below_next f i =
    let next : i + 1 ≡ suc i = omega arith in
    let both = length-append (f i) (downward f i) in
    let turned : length (f i) + length (downward f i) ≡ length (downward f i) + length (f i) = omega arith in
    ap (λ (n : ℕ). length (downward f n)) next ∙ both ∙ turned

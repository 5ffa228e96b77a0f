-- Assertions that redactions name, one more.
use Rattle.std.proofs.Common.{◌≡◌, ℕ, Bool, true, false, cond, ◌||◌, ◌&&◌, List, Some, refl, ap, ◌∙◌}
use Rattle.std.specs.Str.{bytes_eq}
use Rattle.std.specs.declared.cmp.Ordering.{Ordering}
use Rattle.std.specs.declared.cmp.Ordering.TheVariants.{Less, Equal, Greater}
use Rattle.std.specs.Ordering.{is_eq, nat_cmp, ordering_then}
use Rattle.std.specs.Cmp.Lexicographic.{slice_cmp}
use Rattle.std.specs.BTreeSet.{Updates}
use Rattle.std.proofs.lemmas.Map.Text.{is_eq-slice_cmp}
use denote.Ref.{Bor}
use Rattle.c2_spec.specs.C2pa.Uri.{uri_of, uri_view}
use Rattle.c2_spec.specs.declared.uri.Uri.{Uri}
use Rattle.c2_spec.specs.declared.uri.Target.TheVariants.{Assertion}
use Rattle.c2_rules.specs.Chains.{names_assertion}
use Rattle.c2_new_file_spec.specs.Redacting.{takes_out}
use Rattle.c2_parent.specs.Named.{is_among, AreNamed}
use Rattle.c2_parent.specs.declared.named.Named.{Named}

-- one order after another is equality where both are
then_eq : (a b : Ordering) → is_eq (ordering_then a b) ≡ (is_eq a && is_eq b)
then_eq Less b = refl
then_eq Equal b = refl
then_eq Greater b = refl

-- "true if this, else that" is "this or that"
cond-or : (b a : Bool) → cond b true a ≡ (a || b)
cond-or true true = refl
cond-or true false = refl
cond-or false true = refl
cond-or false false = refl

-- the pair is among them now, and the others as before
pub pair_added : (key : Bor (List ℕ) × Bor (List ℕ)) (old new : Named)
    → Updates (λ (x y : Bor (List ℕ) × Bor (List ℕ)). ordering_then (slice_cmp nat_cmp x.0.now y.0.now) (slice_cmp nat_cmp x.1.now y.1.now)) old.pairs new.pairs key true
    → (m l : List ℕ) → is_among new m l ≡ (is_among old m l || (bytes_eq key.0.now m && bytes_eq key.1.now l))
pair_added key old new h m l =
    let a = key.0 in let b = key.1 in
    let q : Bor (List ℕ) × Bor (List ℕ) = (record a { now = m }, record b { now = l }) in
    let same : is_eq (ordering_then (slice_cmp nat_cmp key.0.now m) (slice_cmp nat_cmp key.1.now l)) ≡ (bytes_eq key.0.now m && bytes_eq key.1.now l) =
    then_eq (slice_cmp nat_cmp key.0.now m) (slice_cmp nat_cmp key.1.now l) ∙ ap (λ x. x && is_eq (slice_cmp nat_cmp key.1.now l)) (is_eq-slice_cmp key.0.now m) ∙ ap (λ x. bytes_eq key.0.now m && x) (is_eq-slice_cmp key.1.now l) in
    h.0 q ∙ ap (λ c. cond c true (is_among old m l)) same
    ∙ cond-or (bytes_eq key.0.now m && bytes_eq key.1.now l) (is_among old m l)

-- what a text names that is such a URI
pub names_pair : (text m l : List ℕ) (u : Uri) (manifest label : Bor (List ℕ)) → uri_of text ≡ Some (uri_view u)
    → u.manifest ≡ Some manifest → u.target ≡ Assertion label
    → names_assertion m l (uri_of text) ≡ (bytes_eq manifest.now m && bytes_eq label.now l)
names_pair text m l u manifest label e f g =
    let view : uri_view u ≡ uri_view (record { manifest = Some manifest; target = Assertion label }) =
    ap (λ x. uri_view (record { manifest = x; target = u.target })) f
    ∙ ap (λ x. uri_view (record { manifest = Some manifest; target = x })) g in
    ap (names_assertion m l) (e ∙ ap Some view)

-- the labels that are taken out of a manifest
pub taken_is : (texts : List (List ℕ)) (named : Named) (m : List ℕ) → AreNamed texts named
    → is_among named m ≡ takes_out texts m
taken_is texts named m h = λ i l. h.says m l i

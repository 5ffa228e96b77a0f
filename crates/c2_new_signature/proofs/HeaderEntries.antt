-- Which entries of a header are refused.
use Rattle.std.proofs.Common.{◌≡◌, ◌⊎◌, inl, inr, ℕ, Bool, true, false, List, length, Option, Some, refl, sym, ap, ◌∙◌, ◌<◌, ◌≤◌, codes, arith, is_some}
use Rattle.std.specs.Prelude.{cond}
use Rattle.std.proofs.lemmas.Slice.Eq.{bytes_eq-Decides}
use Rattle.c2_base.specs.declared.limits.TheConstants.{MAX_HEADER_ENTRIES}
use Rattle.c2_spec.specs.C2pa.Message.{HasNoText}
use Rattle.c2_spec.specs.Cbor.Item.{Item, text, Pairs, no_pairs, pair}
use Rattle.c2_spec.specs.Cbor.Lookup.{is_text, first_value}
use Rattle.c2_spec.specs.Cbor.View.{pairs_view}
use Rattle.c2_spec.specs.declared.cbor.Cbor.{Cbor}
use Rattle.c2_spec.proofs.TextKeys.{text_is}
use Rattle.c2_new_signature.specs.Message.{AreFew, HasNoPadding}
use Rattle.c2_cbor_spec.proofs.Views.{pairs_len-view}

-- the test says so of this text
is_same : (key : List ℕ) (k : Item) → k ≡ text key → is_text key k ≡ true
is_same key k e = ap (is_text key) e ∙ (bytes_eq-Decides key key).1 refl

-- neither this entry nor those behind it are found
not_found : (here : Bool) (v : Item) (behind : Option Item) → is_some (cond here (Some v) behind) ≡ false
    → (here ≡ false) × (is_some behind ≡ false)
not_found true v behind h = absurd (cc h)
not_found false v behind h = (refl, h)

-- no value is found under a key that no entry has
pub none_has : (key : List ℕ) (ps : Pairs) → is_some (first_value key ps) ≡ false → HasNoText key ps
none_has key no_pairs h = tt
none_has key (pair k v ps) h =
    let both = not_found (is_text key k) v (first_value key ps) h in
    ((λ same. let is = is_same key k same in let isnt = both.0 in cc (is, isnt)), none_has key ps both.1)

-- of this entry and those behind it, one is found
found_in : (here : Bool) (v : Item) (behind : Option Item) → is_some (cond here (Some v) behind) ≡ true
    → (here ≡ true) ⊎ (is_some behind ≡ true)
found_in true v behind h = inl refl
found_in false v behind h = inr h

-- an entry that is found is there
pub one_has : (key : List ℕ) (ps : Pairs) → is_some (first_value key ps) ≡ true → HasNoText key ps → ⊥
one_has key no_pairs h none = cc h
one_has key (pair k v ps) h none =
    elim (found_in (is_text key k) v (first_value key ps) h) as (λ _. ⊥)
    [ inl e ↦ none.0 (text_is key k e) | inr e ↦ one_has key ps e none.1 ]

-- ---- the tests of entries

-- more entries than the limit aren't few
pub too_many : (ps : List (Cbor × Cbor)) → MAX_HEADER_ENTRIES < length ps → AreFew (pairs_view ps) → ⊥
too_many ps many few = omega (arith, many, few, pairs_len-view ps)

-- as many as the limit, or fewer, are few
pub are_few : (ps : List (Cbor × Cbor)) → length ps ≤ MAX_HEADER_ENTRIES → AreFew (pairs_view ps)
are_few ps few = omega (arith, few, pairs_len-view ps)

-- entries under the first key of padding
pub has_first : (ps : Pairs) (b : Bool) → b ≡ is_some (first_value (codes "pad") ps) → b ≡ true → HasNoPadding ps → ⊥
has_first ps b e h none = one_has (codes "pad") ps (sym e ∙ h) none.0

-- entries under the second
pub has_second : (ps : Pairs) (b : Bool) → b ≡ is_some (first_value (codes "pad2") ps) → b ≡ true → HasNoPadding ps → ⊥
has_second ps b e h none = one_has (codes "pad2") ps (sym e ∙ h) none.1

-- entries under neither
pub has_neither : (ps : Pairs) (a b : Bool) → a ≡ is_some (first_value (codes "pad") ps) → a ≡ false
    → b ≡ is_some (first_value (codes "pad2") ps) → b ≡ false → HasNoPadding ps
has_neither ps a b e h f k = (none_has (codes "pad") ps (sym e ∙ h), none_has (codes "pad2") ps (sym f ∙ k))

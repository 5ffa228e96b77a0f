-- Texts that stand in JSON as they are.
use Rattle.std.proofs.Common.{◌≡◌, refl, ◌∙◌, ap, ℕ, Bool, true, false, ◌==◌, ◌||◌, not, nat_lt, List, [], ◌∷◌, ◌++◌, drop, arith}
use Rattle.std.proofs.lemmas.Bool.{and_parts, ltb-false, ne_eqb}
use Rattle.std.specs.List.{list_all}
use Rattle.serde_json.proofs.OnLiterals.{serde_json_on_literals}
use Rattle.serde_json.specs.Data.{string}
use Rattle.serde_json.specs.Written.{compact_text}
use Rattle.c2_texts.specs.Items.{is_plain}

-- where none of three tests holds, each fails
none_of : (x y z : Bool) → not (x || y || z) ≡ true → (x ≡ false) × ((y ≡ false) × (z ≡ false))
none_of false false false h = (refl, (refl, refl))
none_of true y z h = absurd (cc (h))
none_of false true z h = absurd (cc (h))
none_of false false true h = absurd (cc (h))

-- a plain byte stands before the rest as it is
plain_first : (b : ℕ) (s : List ℕ) → is_plain b ≡ true
    → compact_text (string (b ∷ s)) ≡ 34 ∷ b ∷ drop 1 (compact_text (string s))
unfolding serde_json_on_literals
plain_first b s h =
    let fails = none_of (nat_lt b 32) (b == 34) (b == 92) h in
    let high = ltb-false b 32 fails.0 in
    let back = ne_eqb b 8 (λ e. omega arith) in
    let page = ne_eqb b 12 (λ e. omega arith) in
    let feed = ne_eqb b 10 (λ e. omega arith) in
    let turn = ne_eqb b 13 (λ e. omega arith) in
    let tab = ne_eqb b 9 (λ e. omega arith) in
    simp (fails.0, fails.1.0, fails.1.1, back, page, feed, turn, tab) refl

-- a text of plain bytes stands between its quotes as it is
pub plain_text : (s : List ℕ) → list_all is_plain s ≡ true → compact_text (string s) ≡ 34 ∷ (s ++ 34 ∷ [])
plain_text [] h = refl
plain_text (b ∷ s) h =
    let both = and_parts (is_plain b) (list_all is_plain s) h in
    plain_first b s both.0 ∙ ap (λ (t : List ℕ). 34 ∷ b ∷ drop 1 t) (plain_text s both.1)

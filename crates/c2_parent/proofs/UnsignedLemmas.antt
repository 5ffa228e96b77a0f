-- Labels that are named without a signature, one box or one manifest more.
use Rattle.std.proofs.Common.{◌≡◌, ℕ, ◌+◌, ◌<◌, Bool, true, false, ◌||◌, List, [], ◌∷◌, ◌++◌, length, get_or, take, refl, sym, ap, ◌∙◌}
use Rattle.std.specs.List.{list_any}
use Rattle.std.specs.Str.{bytes_eq}
use Rattle.std.proofs.lemmas.List.{take_more}
use Rattle.c2_label_index.specs.Labels.{is_among}
use Rattle.c2_label_index.specs.declared.labels.Labels.{Labels}
use Rattle.c2_rules.specs.Chains.{passes_some}
use Rattle.c2_rules.specs.Readings.{ReadBox}
use Rattle.c2_parent.specs.Refused.{unsigned_in}
use Rattle.c2_lemmas.proofs.Bools.{or_join}

-- a test of any passes on a list with one more just where it did, or passes on that one
any_last : (p : ReadBox → Bool) (xs : List ReadBox) (x : ReadBox) → list_any p (xs ++ x ∷ []) ≡ (list_any p xs || p x)
any_last p [] x = go (p x)
  where
    go : (b : Bool) → (b || false) ≡ b
    go true = refl
    go false = refl
any_last p (y ∷ ys) x = ap (λ b. p y || b) (any_last p ys x) ∙ or_assoc (p y) (list_any p ys) (p x)
  where
    or_assoc : (a b c : Bool) → (a || (b || c)) ≡ ((a || b) || c)
    or_assoc true b c = refl
    or_assoc false b c = refl

-- one box more
pub box_more : (was before after : Labels) (found : List ReadBox) (k : ℕ) (b : ReadBox) → k < length found
    → b ≡ get_or found k b
    → ((label : List ℕ) → is_among before label ≡ (is_among was label || list_any (λ (x : ReadBox). passes_some (bytes_eq label) (unsigned_in x)) (take k found)))
    → ((label : List ℕ) → is_among after label ≡ (is_among before label || passes_some (bytes_eq label) (unsigned_in b)))
    → (label : List ℕ)
    → is_among after label ≡ (is_among was label || list_any (λ (x : ReadBox). passes_some (bytes_eq label) (unsigned_in x)) (take (k + 1) found))
box_more was before after found k b lt e h add label =
    let p : ReadBox → Bool = λ (x : ReadBox). passes_some (bytes_eq label) (unsigned_in x) in
    let made : take (k + 1) found ≡ take k found ++ b ∷ [] =
    take_more found k b lt ∙ ap (λ (x : ReadBox). take k found ++ x ∷ []) (sym e) in
    add label ∙ ap (λ x. x || p b) (h label) ∙ or_join (is_among was label) (list_any p (take k found)) (p b)
    ∙ ap (λ x. is_among was label || x) (sym (ap (list_any p) made ∙ any_last p (take k found) b))

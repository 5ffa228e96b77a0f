-- Looking at all items of a list.
use Rattle.std.proofs.Common.{◌≡◌, ℕ, ◌+◌, ◌<◌, List, ◌∷◌, length, drop, get_or, sym, ap, subst, ◌∙◌}
use Rattle.std.specs.List.{AllByRecursion}
use Rattle.std.proofs.lemmas.List.{drop_more}
use Rattle.std.proofs.Math.Seq.{drop-length}

-- this holds of all, if it holds of those from a place on
abbrev pub AllFrom : {A : Type 0} → (A → Type 0) → List A → ℕ → Type 0
AllFrom P list i = AllByRecursion P (drop i list) → AllByRecursion P list

-- one more was seen
pub one_more : {A : Type 0} (P : A → Type 0) (list : List A) (i : ℕ) (a : A) → i < length list → a ≡ get_or list i a
    → AllFrom P list i → P a → AllFrom P list (i + 1)
one_more P list i a lt at so_far has =
    let here = drop_more list i a lt ∙ ap (λ b. b ∷ drop (i + 1) list) (sym at) in
    λ rest. so_far (subst (AllByRecursion P) (sym here) (has, rest))

-- all were
pub at_end : {A : Type 0} (P : A → Type 0) (list : List A) → AllFrom P list (length list) → AllByRecursion P list
at_end P list so_far = so_far (subst (AllByRecursion P) (sym (drop-length list)) tt)

-- The superboxes among the children of a box, gathered from one child to the next.
use Rattle.std.proofs.Common.{◌≡◌, ℕ, ◌+◌, ◌<◌, ◌≤◌, Bool, true, false, cond, List, [], ◌∷◌, ◌++◌, All, refl, sym, ap, ◌∙◌, subst, append_assoc, append-nil, rules}
use Rattle.std.specs.List.{filter}
use Rattle.std.proofs.lemmas.List.Elements.{All-push}
use Rattle.c2_spec.specs.Jumbf.Tree.{Tree}
use Rattle.c2_spec.specs.Jumbf.Boxes.{tree_count, child_indices, index_after}
use Rattle.c2_spec.specs.C2pa.Manifest.{is_superbox, superboxes}
use Rattle.c2_spec.proofs.JumbfChildren.{Chain, chain_of, chain_more, chain_end}

-- the superboxes that were found among a box's children, and the children that are still to come from a place on
pub record Gathered (t : Tree) (i end at : ℕ) (found : List ℕ) : Type 0 where
  pub rest : List ℕ
  pub chain : Chain t end at rest
  pub so_far : found ++ filter (is_superbox t) rest ≡ superboxes t i
  pub inside : All (λ j. j < tree_count t) found

-- no box is in an empty list
none_inside : (t : Tree) → All (λ j. j < tree_count t) []
none_inside t = search rules

-- at a box's first child nothing was gathered
first_step : (t : Tree) (i end : ℕ) → i < tree_count t → end ≡ index_after t i → Gathered t i end (i + 1) []
first_step t i end l e =
    record
    { rest = child_indices t i; chain = subst (λ k. Chain t k (i + 1) (child_indices t i)) (sym e) (chain_of t i l); so_far = refl; inside = none_inside t }

-- at a box's first child nothing was gathered, where the list is known to be empty
pub gathered_start : (t : Tree) (i end : ℕ) (found : List ℕ) → i < tree_count t → end ≡ index_after t i → found ≡ []
    → Gathered t i end (i + 1) found
gathered_start t i end found l e empty = subst (Gathered t i end (i + 1)) (sym empty) (first_step t i end l e)

-- before the end there is a box of the tree, which ends by that end with all inside it
pub gathered_inside : (t : Tree) (i end at : ℕ) (found : List ℕ) → Gathered t i end at found → at < end
    → (at < tree_count t) × ((at < index_after t at) × (index_after t at ≤ end))
gathered_inside t i end at found h l = let m = chain_more t end at h.rest h.chain l in (m.2.1.1.0, (m.2.1.1.1.0, m.2.1.1.1.1.0))

-- the superboxes from a child on are the child, where it is one, and those after it
step : (t : Tree) (at : ℕ) (b : Bool) (rest : List ℕ) → is_superbox t at ≡ b
    → filter (is_superbox t) (at ∷ rest) ≡ cond b (at ∷ filter (is_superbox t) rest) (filter (is_superbox t) rest)
step t at b rest e = ap (λ c. cond c (at ∷ filter (is_superbox t) rest) (filter (is_superbox t) rest)) e

-- a child that is a superbox is gathered
pub gathered_yes : (t : Tree) (i end at next : ℕ) (found : List ℕ) → Gathered t i end at found → at < end
    → is_superbox t at ≡ true → next ≡ index_after t at → Gathered t i end next (found ++ at ∷ [])
gathered_yes t i end at next found h l is e =
    let m = chain_more t end at h.rest h.chain l in
    record {
      rest = m.0;
      chain = subst (λ k. Chain t end k m.0) (sym e) m.2.1.1.1.1.1;
      so_far =
          append_assoc found (at ∷ []) (filter (is_superbox t) m.0)
          ∙ ap (λ (x : List ℕ). found ++ x) (sym (ap (filter (is_superbox t)) m.1 ∙ step t at true m.0 is)) ∙ h.so_far;
      inside = All-push (λ j. j < tree_count t) found at h.inside m.2.1.1.0;
    }

-- a child that is none is passed
pub gathered_no : (t : Tree) (i end at next : ℕ) (found : List ℕ) → Gathered t i end at found → at < end
    → is_superbox t at ≡ false → next ≡ index_after t at → Gathered t i end next found
gathered_no t i end at next found h l is e =
    let m = chain_more t end at h.rest h.chain l in
    record {
      rest = m.0;
      chain = subst (λ k. Chain t end k m.0) (sym e) m.2.1.1.1.1.1;
      so_far =
          ap (λ (x : List ℕ). found ++ x) (sym (ap (filter (is_superbox t)) m.1 ∙ step t at false m.0 is)) ∙ h.so_far;
      inside = h.inside;
    }

-- at the end the child superboxes are gathered
pub gathered_all : (t : Tree) (i end at : ℕ) (found : List ℕ) → Gathered t i end at found → end ≤ at
    → found ≡ superboxes t i
gathered_all t i end at found h out =
    sym (append-nil found)
    ∙ ap (λ (x : List ℕ). found ++ filter (is_superbox t) x) (sym (chain_end t end at h.rest h.chain out)) ∙ h.so_far

-- the child superboxes are gathered up to the next child, by whether this one is a superbox
pub gathered_step : (t : Tree) (i end at next : ℕ) (found more : List ℕ) (b : Bool) → Gathered t i end at found
    → at < end → b ≡ is_superbox t at → more ≡ cond b (found ++ at ∷ []) found → next ≡ index_after t at
    → Gathered t i end next more
gathered_step t i end at next found more true h l is e after =
    subst (Gathered t i end next) (sym e) (gathered_yes t i end at next found h l (sym is) after)
gathered_step t i end at next found more false h l is e after =
    subst (Gathered t i end next) (sym e) (gathered_no t i end at next found h l (sym is) after)

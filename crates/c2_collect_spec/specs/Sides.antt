-- Two stores joined into one (C2PA Technical Specification 2.x, "Manifest store" and "Ingredient"): all boxes of the first keep their
-- places, and after them come, from the second, those reached manifests under whose label the first has none. The second part says where
-- two stores clash, and so can't be joined. A box is a tree, and its bytes are those that spell it: what is carried keeps its bytes.
use Rattle.std.specs.Prelude.{◌≡◌, ◌<◌, ℕ, Bool, true, false, not, ◌&&◌, List, [], ◌∷◌, bytes_eq, slice_get, unwrap_or}
use Rattle.std.specs.declared.option.Option.{Option}
use Rattle.std.specs.declared.option.Option.TheVariants.{None, Some}
use Rattle.std.specs.List.{list_any}
use Rattle.c2_spec.specs.C2pa.Manifest.{is_given}
use Rattle.c2_spec.specs.Jumbf.Tree.{Tree, Trees, more, none, tree_bytes, tree_label}
use Rattle.c2_chain_spec.specs.Joined.{picked}
use Rattle.c2_new_file_spec.specs.Manifests.{supers_in}

-- ---- the joined boxes

-- one of these manifests has the label of this one
abbrev pub has_same_label : List Tree → Tree → Bool
has_same_label olds t = list_any (λ (o : Tree). is_given (tree_label o) (unwrap_or (tree_label t) [])) olds

-- the manifest at place `i` of the other store is carried
abbrev pub is_carried_box : List Tree → (ℕ → Bool) → ℕ → Tree → Bool
is_carried_box olds reached i t = reached i && not (has_same_label olds t)

-- the manifests of the other store that are carried
abbrev pub carried_trees : List Tree → (ℕ → Bool) → List Tree → List Tree
carried_trees olds reached others = picked (is_carried_box olds reached) 0 others

-- boxes, and these behind them
abbrev pub boxes_then : Trees → List Tree → Trees
boxes_then none [] = none
boxes_then none (x ∷ xs) = more x (boxes_then none xs)
boxes_then (more t ts) xs = more t (boxes_then ts xs)

-- the joined boxes, where these manifests of the other store are reached
abbrev pub joined_boxes : Trees → (ℕ → Bool) → Trees → Trees
joined_boxes old reached other = boxes_then old (carried_trees (supers_in old) reached (supers_in other))

-- ---- the clash

-- Two stores clash at the manifest at place `i` of the second. It is reached in the second, and the first has a manifest of the same
-- label that can't stand for it: that one isn't reached in the first, or the two boxes, headers and all, aren't spelled alike.
pub record ClashesAt (olds : List Tree) (was : ℕ → Bool) (others : List Tree) (reached : ℕ → Bool) (i : ℕ) : Type 0 where
  pub is_reached : reached i ≡ true
  pub theirs : Tree
  pub is_theirs : slice_get others i ≡ Some theirs
  pub place : ℕ
  pub ours : Tree
  pub is_ours : slice_get olds place ≡ Some ours
  pub label : tree_label ours ≡ tree_label theirs
  pub differs : (was place && bytes_eq (tree_bytes ours) (tree_bytes theirs)) ≡ false

-- Two stores clash at this manifest of the second, and at none before it.
pub record ClashFirst (olds : List Tree) (was : ℕ → Bool) (others : List Tree) (reached : ℕ → Bool) (i : ℕ) : Type 0 where
  pub here : ClashesAt olds was others reached i
  pub earlier : (j : ℕ) → j < i → ClashesAt olds was others reached j → ⊥

-- two stores clash at no manifest
abbrev pub DoNotClash : List Tree → (ℕ → Bool) → List Tree → (ℕ → Bool) → Type 0
DoNotClash olds was others reached = (i : ℕ) → ClashesAt olds was others reached i → ⊥

-- The label of the manifest at which two stores clash first.
pub record IsClashLabel (olds : List Tree) (was : ℕ → Bool) (others : List Tree) (reached : ℕ → Bool) (label : List ℕ) : Type 0 where
  pub place : ℕ
  pub first : ClashFirst olds was others reached place
  pub is : tree_label first.here.theirs ≡ Some label

-- what two stores come to when they are joined: a clash at the manifest with this label first, or none
abbrev pub IsClash : List Tree → (ℕ → Bool) → List Tree → (ℕ → Bool) → Option (List ℕ) → Type 0
IsClash olds was others reached None = DoNotClash olds was others reached
IsClash olds was others reached (Some label) = IsClashLabel olds was others reached label

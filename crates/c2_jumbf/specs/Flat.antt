-- A tree as a list of records in preorder; for private clauses.
use Rattle.std.specs.Prelude.{◌≡◌, ◌<◌, ◌≤◌, ◌+◌, ◌-◌, ℕ, List, [], ◌∷◌, ◌++◌, length, map, take, drop, Option}
use Rattle.c2_jumbf.specs.declared.rows.Row.{Row}
use Rattle.c2_jumbf.specs.declared.front.Front.{Front}
use Rattle.c2_jumbf.specs.Labels.{Mark, own_marks}
use Rattle.c2_spec.specs.declared.jumbf.JumbfError.{JumbfError}
use Rattle.c2_spec.specs.declared.jumbf.JumbfError.TheVariants.{DuplicateLabel}
use Rattle.c2_spec.specs.Jumbf.Tree.{Tree, Trees, Description, IsDescription, description_bytes, head_len, tree_bytes, trees_bytes, tree_label, tree_labels, IsLegalTree, AreLegalTrees, AreDistinctLabels, IsNewLabel}
use Rattle.c2_spec.specs.Jumbf.Faults.{TreeFault, told_payload}
use Rattle.c2_spec.specs.Jumbf.Boxes.{IndexedBox, any_count, boxes_from, boxes_from_all, any_bytes, any_wide}

-- the record of a box
abbrev pub row_of : IndexedBox → Row
row_of b = record { place = b.place; total = length (any_bytes b.box); after = b.index + any_count b.box; header = head_len (any_wide b.box); depth = b.depth }

-- the records of a box at a place, a depth and an index, and of its descendants
abbrev pub rows : ℕ → ℕ → ℕ → Tree → List Row
rows at depth i t = map row_of (boxes_from at depth i t)

-- the records of trees side by side at a place, a depth and an index, and of their descendants
abbrev pub rows_all : ℕ → ℕ → ℕ → Trees → List Row
rows_all at depth i ts = map row_of (boxes_from_all at depth i ts)

-- A tree begins a region; its label and its records are added.
pub record IsTreeAt (depth at : ℕ) (region : List ℕ) (total : ℕ) (before after : List Mark) (old new : List Row) : Type 0 where
  pub tree : Tree
  pub legal : IsLegalTree depth tree
  pub bytes : region ≡ tree_bytes tree ++ drop total region
  pub size : total ≡ length (tree_bytes tree)
  pub marked : after ≡ before ++ own_marks at (tree_label tree)
  pub duplicate : (earlier : List (Option (List ℕ))) → (IsNewLabel (tree_label tree) earlier → ⊥) → TreeFault earlier depth at region (DuplicateLabel at)
  pub added : new ≡ old ++ rows at depth (length old) tree

-- The box that a region begins with has a fault. Where its label was read before, that is added, and an earlier sibling's
-- label that is the same comes first.
pub record FaultAt (depth at : ℕ) (region : List ℕ) (before after : List Mark) (fault : JumbfError) : Type 0 where
  pub label : Option (List ℕ)
  pub marked : after ≡ before ++ own_marks at label
  pub inside : (earlier : List (Option (List ℕ))) → IsNewLabel label earlier → TreeFault earlier depth at region fault
  pub duplicate : (earlier : List (Option (List ℕ))) → (IsNewLabel label earlier → ⊥) → TreeFault earlier depth at region (DuplicateLabel at)

-- Trees fill a payload, and their records are added.
pub record AreTreesIn (depth at : ℕ) (payload : List ℕ) (old new : List Row) : Type 0 where
  pub trees : Trees
  pub legal : AreLegalTrees depth trees
  pub distinct : AreDistinctLabels (tree_labels trees)
  pub bytes : payload ≡ trees_bytes trees
  pub added : new ≡ old ++ rows_all at depth (length old) trees

-- Legal trees, and after them a rest of the payload that begins with a fault.
pub record ChildFault (depth at : ℕ) (payload : List ℕ) (fault : JumbfError) : Type 0 where
  pub trees : Trees
  pub rest : List ℕ
  pub legal : AreLegalTrees depth trees
  pub distinct : AreDistinctLabels (tree_labels trees)
  pub bytes : payload ≡ trees_bytes trees ++ rest
  pub some : 0 < length rest
  pub fails : TreeFault (tree_labels trees) depth (at + length payload - length rest) rest fault

-- A superbox as it begins; its label, its own record and its description's are added.
pub record Opened (depth at : ℕ) (region : List ℕ) (head : Front) (before after : List Mark) (old new : List Row) (from : ℕ) : Type 0 where
  pub description : Description
  pub deep : depth ≤ 16
  pub legal : IsDescription description
  pub size : from ≡ length (description_bytes description)
  pub inside : head.header + from ≤ head.total
  pub bytes : told_payload region ≡ description_bytes description ++ drop (head.header + from) (take head.total region)
  pub marked : after ≡ before ++ own_marks at description.label
  pub duplicate : (earlier : List (Option (List ℕ))) → (IsNewLabel description.label earlier → ⊥) → TreeFault earlier depth at region (DuplicateLabel at)
  pub added : new ≡ old ++ record { place = at; total = head.total; after = length old; header = head.header; depth = depth }
      ∷ record { place = at + head.header; total = from; after = length old + 1 + 1; header = head_len description.wide; depth = depth + 1 } ∷ []

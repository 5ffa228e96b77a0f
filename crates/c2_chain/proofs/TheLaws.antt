-- The laws of this crate, for the proofs of the crates above it.
use Rattle.c2_chain.proofs.ChildLemmas.{box_names, child_named, indexed_child, named_by_box, names_child, stands, stands_is}
use Rattle.c2_chain.specs.Children.{HasBoxAt, NamesChild, Stands}
use Rattle.c2_rules.proofs.TheLaws.{tests_decide_chains_touched}
use Rattle.c2_rules.specs.BoxPlaces.{child_at}
use Rattle.c2_rules.specs.Chains.{IsChild, LabelsDiffer, boxes_at, child_of}
use Rattle.c2_rules.specs.Claims.{Chained}
use Rattle.c2_rules.specs.Readings.{ReadBox, Reading}
use Rattle.c2_rules.specs.Seen.{Standing, standing_of}
use Rattle.std.specs.Prelude.{Contains, List, Some, ℕ, ◌↔◌, ◌≡◌}

-- where manifests have different labels, the child that one assertion box names is the manifest with the label that the box names, if that stands earlier
pub a_box_names_one_child_names : (rs : List Reading) (n m : ℕ) (box : ReadBox) → LabelsDiffer rs
    → (child_of rs n box ≡ Some m) ↔ NamesChild rs n box m
a_box_names_one_child_names = λ rs n m box differ. (names_child rs n m box, child_named rs n m box differ)

-- where manifests have different labels, the child that one assertion box names is the manifest with the label that the box names, if that stands earlier
pub a_box_names_one_child_children : (rs : List Reading) (n m : ℕ)
    → IsChild rs n m ↔ ((box : ReadBox) × Contains (boxes_at rs n) box × NamesChild rs n box m)
a_box_names_one_child_children = λ rs n m. (named_by_box rs n m, box_names rs n m)

-- where manifests have different labels, the child that one assertion box names is the manifest with the label that the box names, if that stands earlier
pub a_box_names_one_child_indexed : (s : Chained) (index m : ℕ) → child_at s index ≡ Some m
    → (n : ℕ) × HasBoxAt s.boxes n index × IsChild s.readings n m
a_box_names_one_child_indexed = λ s index m e. indexed_child s index m e

-- where manifests have different labels, the one that has a label stands to another as one of four relations says
pub a_label_stands_one_way : (rs : List Reading) (i : ℕ) (label : List ℕ) (s : Standing) → LabelsDiffer rs
    → (standing_of rs i label ≡ s) ↔ Stands rs i label s
a_label_stands_one_way = λ rs i label s differ.
    (stands rs i label s differ (λ m. tests_decide_chains_touched rs m differ), stands_is rs i label s differ (λ m. tests_decide_chains_touched rs m differ))

-- The bytes of a store are one box tree, or are refused for one reason.
use Rattle.std.proofs.Common.{◌≡◌, sym, ◌∙◌, ap, ℕ, List, Option, Some, None}
use Rattle.c2_spec.specs.Jumbf.Tree.{Tree}
use Rattle.c2_spec.specs.Located.{Opening, refused, absent, here, refused_by}
use Rattle.c2_spec.specs.Reason.{boxes_refusal}
use Rattle.c2_spec.specs.declared.reason.Refusal.{Refusal}
use Rattle.c2_rules.specs.Opened.{IsBoxTree}
use Rattle.c2_spec.proofs.JumbfNoFault.{no_fault}
use Rattle.c2_spec.proofs.JumbfOneFault.{first_once}
use Rattle.c2_spec.proofs.JumbfOneTree.{spells_once}

-- an opening that is refused so
abbrev pub opening_of : Option Refusal → Opening Tree
opening_of None = absent
opening_of (Some r) = refused_by r

-- the bytes of a store are one box tree at most, or are refused for one reason, never both
pub one_box_tree : (start len : ℕ) (store : List ℕ) (x y : Opening Tree) → IsBoxTree start len store x
    → IsBoxTree start len store y → x ≡ y
one_box_tree start len store (refused r n) (refused q m) h k =
    ap opening_of (sym h.2 ∙ ap boxes_refusal (first_once store h.0 k.0 h.1 k.1) ∙ k.2)
one_box_tree start len store (refused r n) absent h k = absurd k
one_box_tree start len store (refused r n) (here s l t) h k = absurd (no_fault store t h.0 k.0 h.1)
one_box_tree start len store absent y h k = absurd h
one_box_tree start len store (here s l t) (refused q m) h k = absurd (no_fault store t k.0 h.0 k.1)
one_box_tree start len store (here s l t) absent h k = absurd k
one_box_tree start len store (here s l t) (here p m u) h k =
    h.1 ∙ ap (here start len) (spells_once store t u h.0 k.0) ∙ sym k.1

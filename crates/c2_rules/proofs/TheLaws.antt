-- The laws of this crate, for the proofs of the crates above it.
use Rattle.c2_rules.proofs.BindingLaws.{same_hashes}
use Rattle.c2_rules.proofs.ReachLemmas.{child_is, is_in_children, reached_decides, reaches_decides, redacted_decides, touched_decides}
use Rattle.c2_rules.specs.Binding.{Binding, IsBinding, Media}
use Rattle.c2_rules.specs.Chains.{IsChild, IsRedacted, IsTouched, LabelsDiffer, Reached, Reaches, children, is_reached, is_redacted, is_touched, reaches}
use Rattle.c2_rules.specs.Readings.{Reading}
use Rattle.c2_spec.specs.Cbor.Item.{Item}
use Rattle.c2_spec.specs.declared.assertion.Kind.{Kind}
use Rattle.std.specs.Prelude.{Contains, List, Ok, true, ℕ, ◌↔◌, ◌≡◌}

-- where the manifests have different labels, as those of a store do, the tests by which the rules go decide what they stand for
pub tests_decide_chains_children : (rs : List Reading) (n m : ℕ) → LabelsDiffer rs
    → Contains (children rs n) m ↔ IsChild rs n m
tests_decide_chains_children = λ rs n m differ. (child_is rs n m, is_in_children rs n m differ)

-- where the manifests have different labels, as those of a store do, the tests by which the rules go decide what they stand for
pub tests_decide_chains_reaches : (rs : List Reading) (n m : ℕ) → LabelsDiffer rs
    → (reaches rs n m ≡ true) ↔ Reaches rs n m
tests_decide_chains_reaches = λ rs n m differ. reaches_decides rs differ n m

-- where the manifests have different labels, as those of a store do, the tests by which the rules go decide what they stand for
pub tests_decide_chains_reached : (rs : List Reading) (n : ℕ) → LabelsDiffer rs
    → (is_reached rs n ≡ true) ↔ Reached rs n
tests_decide_chains_reached = λ rs n differ. reached_decides rs differ n

-- where the manifests have different labels, as those of a store do, the tests by which the rules go decide what they stand for
pub tests_decide_chains_redacted : (rs : List Reading) (m : ℕ) (label : List ℕ) → LabelsDiffer rs
    → (is_redacted rs m label ≡ true) ↔ IsRedacted rs m label
tests_decide_chains_redacted = λ rs m label differ. redacted_decides rs differ m label

-- where the manifests have different labels, as those of a store do, the tests by which the rules go decide what they stand for
pub tests_decide_chains_touched : (rs : List Reading) (m : ℕ) → LabelsDiffer rs
    → (is_touched rs m ≡ true) ↔ IsTouched rs m
tests_decide_chains_touched = λ rs m differ. touched_decides rs differ m

-- over any two media files an item of a binding names one algorithm and one digest
pub a_binding_names_one_digest : (m n : Media) (kind : Kind) (v : Item) (b c : Binding) → IsBinding m kind v (Ok b)
    → IsBinding n kind v (Ok c) → (b.alg ≡ c.alg) × (b.hash ≡ c.hash)
a_binding_names_one_digest = same_hashes

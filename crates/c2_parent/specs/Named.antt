-- For private clauses: the assertions that redactions name, kept in order.
use Rattle.std.specs.Prelude.{◌≡◌, ℕ, List, Bool}
use Rattle.std.specs.BTreeSet.{contains_by}
use Rattle.std.specs.Cmp.Lexicographic.{slice_cmp}
use Rattle.std.specs.Ordering.{nat_cmp, ordering_then}
use Rattle.c2_new_file_spec.specs.Redacting.{takes_out}
use Rattle.c2_parent.specs.declared.named.Named.{Named}

-- the assertion with this label in the manifest with that one is among the named assertions
abbrev pub is_among : Named → List ℕ → List ℕ → Bool
is_among n manifest label =
    contains_by (λ k. ordering_then (slice_cmp nat_cmp manifest k.0.now) (slice_cmp nat_cmp label k.1.now)) n.pairs

-- The named assertions are those that these redactions name.
pub record AreNamed (redacts : List (List ℕ)) (n : Named) : Type 0 where
  pub says : (manifest label : List ℕ) → is_among n manifest label ≡ takes_out redacts manifest label

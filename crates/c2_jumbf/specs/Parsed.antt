-- The records of a legal tree and its bytes; the invariant of the tree's type.
use Rattle.std.specs.Prelude.{◌≡◌, ℕ, List}
use Rattle.std.specs.Coded.{Coded, Coded-set, code_by, coded_ℕ, coded×, coded_list}
use Rattle.std.proofs.Common.{refl}
use mathlib.Core.HLevel.{is_prop→PathP}
use Rattle.c2_jumbf.specs.declared.rows.Row.{Row}
use Rattle.c2_spec.specs.Jumbf.Tree.{Tree, SpellsTree}
use Rattle.c2_spec.proofs.JumbfOneTree.{spells_once}
use Rattle.c2_spec.proofs.JumbfCode.{spells_prop}
use Rattle.c2_jumbf.specs.Flat.{rows}

-- a record can be told from every other
row_code : Coded Row
row_code = code_by (ℕ × (ℕ × (ℕ × (ℕ × ℕ)))) (coded× coded_ℕ (coded× coded_ℕ (coded× coded_ℕ (coded× coded_ℕ coded_ℕ)))) (λ r. (r.place, (r.total, (r.after, (r.header, r.depth)))))
    (λ p. record { place = p.0; total = p.1.0; after = p.1.1.0; header = p.1.1.1.0; depth = p.1.1.1.1 }) (λ _. refl)

-- that two lists of records are equal has one proof
rows_set : (x y : List Row) → IsProp (x ≡ y)
rows_set x y = Coded-set (coded_list row_code) x y

-- These records and bytes are those of one legal tree.
pub record IsParsed (bytes : List ℕ) (all : List Row) : Type 0 where
  pub tree : Tree
  pub spells : SpellsTree bytes tree
  pub rows_are : all ≡ rows 0 1 0 tree

-- that bytes and records are those of a tree has one proof
pub parsed_prop : (bytes : List ℕ) (all : List Row) → IsProp (IsParsed bytes all)
parsed_prop bytes all p q =
    let same : p.tree ≡ q.tree = spells_once bytes p.tree q.tree p.spells q.spells in
    λ i. record {
      tree = same i;
      spells = is_prop→PathP (λ j. SpellsTree bytes (same j)) (λ j. spells_prop bytes (same j)) p.spells q.spells i;
      rows_are = is_prop→PathP (λ j. all ≡ rows 0 1 0 (same j)) (λ j. rows_set all (rows 0 1 0 (same j))) p.rows_are q.rows_are i;
    }

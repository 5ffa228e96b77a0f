use Rattle.std.proofs.Common.{◌≡◌, ◌||◌, ◌∷◌, ℕ, List, length, take, drop}
use Rattle.std.specs.List.{list_any}
use Rattle.c2_bmff.specs.Trails.{ahead, found}
use Rattle.c2_bmff_rows.specs.declared.row.RootBox.{RootBox}
use Rattle.c2_bmff.proofs.walking.pass_all.Given as goal

-- the trails so far are past the box, and the others are as they were
abbrev pub invariant-loop-k : goal.invariant-loop-k
invariant-loop-k l = record {
  same : (file : List ℕ) (i : ℕ) (rows : List RootBox)
      → (found file l.entries i l.row l.here.items l.below.items
      || list_any (ahead file l.entries i rows) (take l.k l.trails))
      ≡ (found file l.entries i l.row l.initial.here.items l.initial.below.items
      || list_any (ahead file l.entries i (l.row ∷ rows)) (take l.k l.initial.trails));
  others : drop l.k l.trails ≡ drop l.k l.initial.trails;
  size : length l.trails ≡ length l.initial.trails;
}

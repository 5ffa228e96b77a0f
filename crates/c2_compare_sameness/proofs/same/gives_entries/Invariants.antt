use Rattle.std.proofs.Common.{◌≡◌, drop}
use Rattle.std.specs.List.{list_all}
use Rattle.c2_rules.specs.Readings.{entries_in}
use Rattle.c2_compare_sameness.specs.Sides.{gives_listed}
use Rattle.c2_compare_sameness.proofs.same.gives_entries.Given as goal

-- the second manifest has what the entries before this one list
abbrev pub invariant-loop-k : goal.invariant-loop-k
invariant-loop-k l =
    let entries = entries_in l.left.own.now in
    list_all (gives_listed l.left l.right) entries ≡ list_all (gives_listed l.left l.right) (drop l.k entries)

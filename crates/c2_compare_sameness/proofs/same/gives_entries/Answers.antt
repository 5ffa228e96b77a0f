use Rattle.std.proofs.Common.{sym, ◌∙◌}
use Rattle.c2_rules.specs.Readings.{entries_in}
use Rattle.c2_compare_sameness.specs.Sides.{gives_listed}
use Rattle.c2_compare_sameness.proofs.Sameness.{all_failed, all_passed}
use Rattle.c2_compare_sameness.proofs.same.gives_entries.Goals as goal

-- this entry's label isn't given
pub returns-then-not-gives : goal.returns-then-not-gives
returns-then-not-gives c =
    all_failed (gives_listed c.args.left.now c.args.right.now) (entries_in c.args.left.now.own.now) c.loop-k.k
    c.entry_at-entry.result.now c.entry_at-entry.ensures c.loop-k.invariant
    (sym c.if-not-gives.true ∙ c.gives_entry-gives.ensures)

-- it is
pub loop-k-preserved : goal.loop-k-preserved
loop-k-preserved c =
    all_passed (gives_listed c.args.left.now c.args.right.now) (entries_in c.args.left.now.own.now) c.loop-k.k
    c.entry_at-entry.result.now c.entry_at-entry.ensures c.loop-k.invariant
    (sym c.if-not-gives.false ∙ c.gives_entry-gives.ensures)

use Rattle.std.proofs.Common.{ap, ◌∙◌}
use Rattle.c2_rules.specs.Readings.{Reading}
use Rattle.c2_compare_sameness.proofs.Sameness.{entries_given, gives_entries_at}
use Rattle.c2_compare_sameness.proofs.same.gives_at.Goals as goal

-- the entries decide
pub returns : goal.returns
returns c =
    let l = c.args.left.now in
    let r = c.args.right.now in
    gives_entries_at l.all.now r.all.now l.place r.place c.manifest_at.result.now c.manifest_at-2.result.now
    c.is_alike-alike.result c.gives_entries.result c.manifest_at.ensures c.manifest_at-2.ensures
    c.is_alike-alike.ensures
    c.if-not-alike.false
    (c.gives_entries.ensures
    ∙ ap (λ (x : Reading). entries_given l.all.now l.place x r.all.now r.place c.in_ok-other.other) c.in_ok-own.ensures
    ∙ ap (λ (x : Reading). entries_given l.all.now l.place c.manifest_at.result.now r.all.now r.place x) c.in_ok-other.ensures)

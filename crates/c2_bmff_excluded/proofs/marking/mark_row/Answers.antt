use Rattle.std.proofs.Common.{◌∙◌, ◌||◌, ◌&&◌, Bool, sym, ap}
use Rattle.c2_spec.specs.Bmff.Hash.{Exclusion}
use Rattle.c2_spec.specs.Cover.{is_excluded}
use Rattle.c2_bmff_excluded.specs.Marks.{in_row_subset}
use Rattle.c2_bmff_excluded.proofs.marking.mark_row.Goals as goal
use Rattle.c2_lemmas.proofs.Bools.{or_false}

-- the parts are in the order of their starts
pub add_subset-requires-clause-rising : goal.add_subset-requires-clause-rising
add_subset-requires-clause-rising g c = c.ask.invariant.0

-- an exclusion that doesn't take the box adds nothing
pub returns-then-not-branch-clause-same : goal.returns-then-not-branch-clause-same
returns-then-not-branch-clause-same g c file known i =
    let old : Bool = is_excluded c.args.ranges.now.items i in
    sym
    (ap (λ (t : Bool). old || (t && in_row_subset i c.args.row c.args.ask.now.subset)) (sym (c.in_ok-takes_row.ensures.takes file known) ∙ c.if-not-branch.true)
    ∙ or_false old)

pub returns-then-not-branch-clause-reads : goal.returns-then-not-branch-clause-reads
returns-then-not-branch-clause-reads g c =
    record
    { stays = c.in_ok-takes_row.ensures.stays; quiet = c.in_ok-takes_row.ensures.cause.ok; cause = tt }

-- one that takes it adds its subset
pub returns-clause-same : goal.returns-clause-same
returns-clause-same g c file known i =
    let old : Bool = is_excluded c.args.ranges.now.items i in
    c.in_ok-add_subset.ensures.same i
    ∙ ap (λ (e : Exclusion). old || in_row_subset i c.args.row e.subset) c.ask.view_is
    ∙ sym (ap (λ (t : Bool). old || (t && in_row_subset i c.args.row c.args.ask.now.subset)) (sym (c.in_ok-takes_row.ensures.takes file known) ∙ c.if-not-branch.false))

pub returns-clause-reads : goal.returns-clause-reads
returns-clause-reads g c =
    record
    { stays = c.in_ok-takes_row.ensures.stays; quiet = c.in_ok-takes_row.ensures.cause.ok; cause = tt }

-- the new ranges end in the source
pub returns-clause-within : goal.returns-clause-within
returns-clause-within g c =
    c.add_subset.ensures.within (g.S.Source.len c.args.source.now) c.requires.within c.requires.inside.0

pub returns-in_err-add_subset-clause-within : goal.returns-in_err-add_subset-clause-within
returns-in_err-add_subset-clause-within g c =
    c.add_subset.ensures.within (g.S.Source.len c.args.source.now) c.requires.within c.requires.inside.0

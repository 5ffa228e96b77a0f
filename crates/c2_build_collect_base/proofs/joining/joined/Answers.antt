use Rattle.std.proofs.Common.{Bool, List, ap, length, sym, subst, ◌≤◌, ◌∙◌}
use Rattle.std.specs.Prelude.{Err}
use Rattle.std.proofs.lemmas.Option.{slice_get_within}
use Rattle.c2_collect.specs.Marked.{manifests_in, marked}
use Rattle.c2_build_collect_base.proofs.Joins.{both_joined, carried_few, clash_error, flags_count}
use Rattle.c2_build_collect_base.proofs.joining.joined.Goals as goal

-- there is a flag for each manifest
pub new-old-requires-clause-count : goal.new-old-requires-clause-count
new-old-requires-clause-count c =
    ap length c.as_slice-was.ensures.value ∙ flags_count c.args.ours.now _ c.requires.ours c.in_ok-our_flags.ensures

pub new-other-requires-clause-count : goal.new-other-requires-clause-count
new-other-requires-clause-count c =
    ap length c.as_slice-reached.ensures.value
    ∙ flags_count c.args.theirs.now _ c.requires.theirs c.in_ok-their_flags.ensures

-- no more are carried
pub manifests_with-requires : goal.manifests_with-requires
manifests_with-requires c =
    subst (λ (bs : List Bool). c.in-Ok.carried ≤ length bs) (sym c.as_slice-reached.ensures.value)
    (carried_few c.args.theirs.now _ c.new-other.result (manifests_in c.new-old.result) c.in-Ok.carried c.requires.theirs c.in_ok-their_flags.ensures (c.new-other.ensures ∙ ap (marked c.args.theirs.now.older.now.tree) c.as_slice-reached.ensures.value) c.in-Ok.ensures.count)

-- the boxes
pub returns-in-Ok-clause-joined : goal.returns-in-Ok-clause-joined
returns-in-Ok-clause-joined c =
    both_joined c.args.redactions.now c.args.ours.now c.args.theirs.now _ _ c.new-old.result c.new-other.result _ _ _ _
    _ c.requires.ours c.requires.theirs c.in_ok-our_flags.ensures c.in_ok-their_flags.ensures
    (c.new-old.ensures ∙ ap (marked c.args.ours.now.older.now.tree) c.as_slice-was.ensures.value)
    (c.new-other.ensures ∙ ap (marked c.args.theirs.now.older.now.tree) c.as_slice-reached.ensures.value)
    c.new-out.ensures.items
    (c.from_vec.ensures ∙ c.in-Ok.ensures.joined) c.in-Ok.ensures.count (ap length c.as_slice-was.ensures.value ∙ c.in_ok-our_flags.ensures.count) c.manifests_with.ensures c.in-Ok.ensures.apart

-- the clash
pub clash_at-requires : goal.clash_at-requires
clash_at-requires c =
    let first = c.in-Err.ensures.clash c.in-LabelClash.i (ap Err c.in-LabelClash.is) in
    slice_get_within (manifests_in c.new-other.result) c.in-LabelClash.i first.here.theirs first.here.is_theirs

pub returns-in-LabelClash-clause-clash : goal.returns-in-LabelClash-clause-clash
returns-in-LabelClash-clause-clash c =
    clash_error c.args.ours.now c.args.theirs.now _ _ c.new-old.result c.new-other.result c.in-LabelClash.i c.clash_at.result c.in_ok-our_flags.ensures c.in_ok-their_flags.ensures
    (c.new-old.ensures ∙ ap (marked c.args.ours.now.older.now.tree) c.as_slice-was.ensures.value)
    (c.new-other.ensures ∙ ap (marked c.args.theirs.now.older.now.tree) c.as_slice-reached.ensures.value)
    (c.in-Err.ensures.clash c.in-LabelClash.i (ap Err c.in-LabelClash.is)) c.clash_at.ensures.told

use Rattle.std.proofs.Common.{Bool, List, [], ap, arith, length, subst, sym, ◌+◌, ◌≡◌, ◌≤◌, ◌∙◌}
use Rattle.c2_collect.specs.Marked.{marked}
use Rattle.c2_build_collect_base.proofs.Joins.{carried_few, carried_joined, flags_count}
use Rattle.c2_build_collect_base.proofs.joining.carried.Goals as goal

-- there is a flag for each manifest
pub new-side-requires-clause-count : goal.new-side-requires-clause-count
new-side-requires-clause-count c =
    ap length c.as_slice-reached.ensures.value ∙ flags_count c.args.theirs.now _ c.requires c.in_ok-flags.ensures

-- no more are carried
pub manifests_with-requires : goal.manifests_with-requires
manifests_with-requires c =
    subst (λ (bs : List Bool). c.in_ok-carried.carried ≤ length bs) (sym c.as_slice-reached.ensures.value)
    (carried_few c.args.theirs.now _ c.new-side.result [] c.in_ok-carried.carried c.requires c.in_ok-flags.ensures (c.new-side.ensures ∙ ap (marked c.args.theirs.now.older.now.tree) c.as_slice-reached.ensures.value) c.in_ok-carried.ensures.count)

-- the boxes
pub returns : goal.returns
returns c =
    let sum : c.manifests_with.result ≡ c.in_ok-carried.carried + 1 = omega (arith, c.manifests_with.ensures) in
    carried_joined c.args.redactions.now c.args.theirs.now _ c.new-side.result _ _ _ _ c.requires c.in_ok-flags.ensures
    (c.new-side.ensures ∙ ap (marked c.args.theirs.now.older.now.tree) c.as_slice-reached.ensures.value)
    c.new-out.ensures.items
    (c.from_vec.ensures ∙ c.in_ok-carried.ensures.joined) c.in_ok-carried.ensures.count sum

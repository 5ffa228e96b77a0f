use Rattle.std.proofs.Common.{◌≡◌, length, subst, arith}
use Rattle.c2_collect_spec.specs.Sides.{ClashFirst}
use Rattle.c2_collect.specs.Carried.{AreCarried, IsFound}
use Rattle.c2_collect.specs.Marked.{is_marked, manifests_in}
use Rattle.c2_collect.proofs.Flags.{carried_more, clash_first}
use Rattle.c2_collect.proofs.carrying.carried_of.Goals as goal

-- the first clash
pub returns-in_default-clause-clash : goal.returns-in_default-clause-clash
returns-in_default-clause-clash c i e =
    let old = c.args.old.now in
    let other = c.args.other.now in
    let same : c.loop-i.i ≡ i = cc (e) in
    subst (λ k. ClashFirst (manifests_in old) (is_marked old) (manifests_in other) (is_marked other) k) same
    (clash_first old other c.loop-i.flags.items c.loop-i.i c.is_carried.result c.loop-i.invariant c.is_carried.ensures c.in_default.is)

pub loop-i-preserved : goal.loop-i-preserved
loop-i-preserved c =
    let old = c.args.old.now in
    let other = c.args.other.now in
    carried_more old other c.loop-i.flags.items c.push_flag.new.flags.items c.loop-i.i c.in-Some.flag c.loop-i.invariant
    (subst (IsFound old other c.loop-i.i) c.in-Some.is c.is_carried.ensures) c.in_ok-push_flag.ensures

pub returns-clause-carried : goal.returns-clause-carried
returns-clause-carried c =
    let end : c.loop-i.i ≡ length (manifests_in c.args.other.now) =
    omega (arith, c.loop-i-test.false, c.loop-i.auto.i-end, c.len-i-end.ensures.count) in
    subst (λ n. AreCarried c.args.old.now c.args.other.now c.loop-i.flags.items n) end c.loop-i.invariant

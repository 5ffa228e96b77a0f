use Rattle.std.proofs.Common.{◌++◌, ap, ◌∙◌, arith}
use Rattle.c2_collect.specs.Carried.{wanted_bytes}
use Rattle.c2_collect.specs.Marked.{manifests_in}
use Rattle.c2_collect.proofs.Wanted.{append_none, append_one}
use Rattle.c2_collect.proofs.appending.append_wanted.Goals as goal
use Rattle.c2_collect.proofs.appending.append_wanted.Goals.{then-is_wanted+in_ok-extend_from_slice, else-is_wanted}

pub loop-i-preserved : goal.loop-i-preserved
loop-i-preserved c =
    let ts = manifests_in c.args.side.now in
    let flags = c.args.wanted.now in
    let all = c.args.out.now.items ++ wanted_bytes flags ts in
    elim c.if-is_wanted.branch [
      | then-is_wanted+in_ok-extend_from_slice w ↦ append_one flags ts c.loop-i.i c.loop-i.out.items c.if-is_wanted.out.items all w.manifest.result.now c.loop-i.invariant w.manifest.ensures w.if-is_wanted.true (ap (λ v. v.items) w.out-is ∙ w.in_ok-extend_from_slice.ensures.items)
      | else-is_wanted w ↦ append_none flags ts c.loop-i.i c.loop-i.out.items c.if-is_wanted.out.items all c.loop-i.invariant (omega (arith, c.loop-i-test.true, c.requires)) w.if-is_wanted.false (ap (λ v. v.items) w.out-is)
    ]

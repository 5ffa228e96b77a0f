use Rattle.std.proofs.Common.{◌++◌, ap, ◌∙◌, arith}
use Rattle.c2_collect.specs.Carried.{less_in, wanted_bytes}
use Rattle.c2_collect.proofs.Less.{append_less_none, append_less_one}
use Rattle.c2_collect.proofs.appending.append_wanted_less.Goals as goal
use Rattle.c2_collect.proofs.appending.append_wanted_less.Goals.{then-is_wanted+in_ok-append_less, else-is_wanted}

pub loop-i-preserved : goal.loop-i-preserved
loop-i-preserved c =
    let s = c.args.side.now in
    let flags = c.args.wanted.now in
    let redacts = c.args.redactions.now in
    let all = c.args.out.now.items ++ wanted_bytes flags (less_in redacts s) in
    elim c.if-is_wanted.branch [
      | then-is_wanted+in_ok-append_less w ↦ append_less_one flags s redacts c.loop-i.i c.loop-i.out.items c.if-is_wanted.out.items all c.loop-i.invariant (omega (arith, c.loop-i-test.true, c.requires)) w.if-is_wanted.true (λ m is. ap (λ v. v.items) w.out-is ∙ w.in_ok-append_less.ensures m is)
      | else-is_wanted w ↦ append_less_none flags s redacts c.loop-i.i c.loop-i.out.items c.if-is_wanted.out.items all c.loop-i.invariant (omega (arith, c.loop-i-test.true, c.requires)) w.if-is_wanted.false (ap (λ v. v.items) w.out-is)
    ]

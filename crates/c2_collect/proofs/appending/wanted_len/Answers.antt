use Rattle.std.proofs.Common.{◌+◌, ap, arith, drop, length, length-append}
use Rattle.c2_collect.specs.Carried.{wanted_bytes, wanted_from}
use Rattle.c2_collect.specs.Marked.{manifests_in}
use Rattle.c2_collect.proofs.Wanted.{count_end, count_none, count_one, left_wanted, wanted_bound}
use Rattle.c2_collect.proofs.appending.wanted_len.Goals as goal
use Rattle.c2_collect.proofs.appending.wanted_len.Goals.{then-is_wanted, else-is_wanted}

pub overflow_add-len : goal.overflow_add-len
overflow_add-len c =
    let ts = manifests_in c.args.side.now in
    let flags = c.args.wanted.now in
    let rest = wanted_from flags (c.loop-i.i + 1) (drop (c.loop-i.i + 1) ts) in
    omega
    (arith, c.loop-i.invariant, ap length (left_wanted flags ts c.loop-i.i c.manifest.result.now c.manifest.ensures c.if-is_wanted.true), length-append c.manifest.result.now rest, wanted_bound flags c.args.side.now.boxes, ap length c.boxes-most.ensures)

pub returns-clause-fits : goal.returns-clause-fits
returns-clause-fits c =
    let ts = manifests_in c.args.side.now in
    let flags = c.args.wanted.now in
    let all =
    count_end flags ts c.loop-i.i c.loop-i.len (length (wanted_bytes flags ts)) c.loop-i.invariant
    (omega (arith, c.loop-i-test.false, c.requires)) in
    omega (arith, all, wanted_bound flags c.args.side.now.boxes, ap length c.boxes-most.ensures)

pub loop-i-preserved : goal.loop-i-preserved
loop-i-preserved c =
    let ts = manifests_in c.args.side.now in
    let flags = c.args.wanted.now in
    let all = length (wanted_bytes flags ts) in
    elim c.if-is_wanted.branch [
      | then-is_wanted w ↦ count_one flags ts c.loop-i.i c.loop-i.len c.if-is_wanted.len all w.manifest.result.now c.loop-i.invariant w.manifest.ensures w.if-is_wanted.true w.len-is
      | else-is_wanted w ↦ count_none flags ts c.loop-i.i c.loop-i.len c.if-is_wanted.len all c.loop-i.invariant (omega (arith, c.loop-i-test.true, c.requires)) w.if-is_wanted.false w.len-is
    ]

use Rattle.std.proofs.Common.{◌≡◌, ◌-◌, ◌+◌, ◌≤◌, ℕ, length, length-append, subst, sym, ap, arith}
use Rattle.std.specs.Prelude.{All}
use Rattle.std.proofs.lemmas.List.Elements.{All-push}
use Rattle.c2_bmff_excluded.specs.Runs.{IsRunWithin}
use Rattle.c2_bmff_excluded.proofs.RunLemmas.{begin_run_by, differ_run, join_run, within_more}
use Rattle.c2_bmff_excluded.proofs.runs.add_value.Goals as goal

-- with another run, a box meets what it met before and the value
pub returns-then-offset-last-clause-same : goal.returns-then-offset-last-clause-same
returns-then-offset-last-clause-same c file row fits =
    let end : c.len-end.result ≡ length c.args.bytes.now.items = omega (arith, c.len-end.ensures) in
    begin_run_by file row c.args.bytes.now.items c.extend_from_slice.new.self.items c.args.runs.now.items
    c.push.new.self.items c.args.last c.args.offset c.args.value.now c.len-end.result
    c.in_ok-extend_from_slice.ensures.items c.in_ok-push.ensures.items end c.requires.last c.requires.within

-- with a longer run too
pub returns-clause-same : goal.returns-clause-same
returns-clause-same c file row fits =
    let from = c.args.offset - c.args.last.offset in
    let place : c.args.last.offset + from ≡ c.args.offset = omega (arith, c.if-offset-last.false) in
    join_run file row c.args.bytes.now.items c.join_value.new.bytes.items c.args.runs.now.items c.args.last from
    c.args.offset c.args.value.now c.requires.within c.in_ok-join_value.ensures.front place
    (c.in_ok-join_value.ensures.join c.if-not-branch.false)

-- where the run and the value differ, no box meets both
pub returns-then-not-branch-clause-same : goal.returns-then-not-branch-clause-same
returns-then-not-branch-clause-same c file row fits =
    let from = c.args.offset - c.args.last.offset in
    let place : c.args.last.offset + from ≡ c.args.offset = omega (arith, c.if-offset-last.false) in
    sym
    (differ_run file row c.args.bytes.now.items c.args.runs.now.items c.args.last from c.args.offset c.args.value.now place (c.in_ok-join_value.ensures.differ c.if-not-branch.true))

-- another run is among the bytes as the others are
pub returns-then-offset-last-clause-within : goal.returns-then-offset-last-clause-within
returns-then-offset-last-clause-within c =
    let old : ℕ = length c.args.bytes.now.items in
    let new : ℕ = length c.extend_from_slice.new.self.items in
    let longer : old ≤ new =
    omega
    (arith, ap length c.in_ok-extend_from_slice.ensures.items, length-append c.args.bytes.now.items c.args.value.now) in
    subst (All (IsRunWithin new)) (sym c.in_ok-push.ensures.items)
    (All-push (IsRunWithin new) c.args.runs.now.items (record { offset = c.args.last.offset; start = c.args.last.start; end = c.len-end.result }) (within_more old new c.args.runs.now.items longer c.requires.within)
    (omega (arith, c.requires.last, c.len-end.ensures), omega (arith, longer, c.len-end.ensures)))

-- with a longer run the others are among the bytes as before
pub returns-clause-within : goal.returns-clause-within
returns-clause-within c =
    within_more (length c.args.bytes.now.items) (length c.join_value.new.bytes.items) c.args.runs.now.items
    c.in_ok-join_value.ensures.longer c.requires.within

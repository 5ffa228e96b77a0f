use Rattle.std.proofs.Common.{inr}
use Rattle.c2_spec.specs.Cbor.View.{view}
use Rattle.c2_spec.specs.Cbor.Legal.{depth}
use Rattle.c2_cbor_spec.proofs.BadSimple.{fine_no_bad}
use Rattle.c2_cbor_write.proofs.EqualKeys.{distinct_not_equal}
use Rattle.c2_cbor_spec.proofs.Plain.{read_back}
use Rattle.c2_cbor_write.proofs.Writable.{told_equal, told_none, not_deeper, deep_fault, deep_refused, deep_not_legal}
use Rattle.c2_cbor_write.proofs.encoding.encode.Goals as goal

pub returns-then-is_deeper-clause-only : goal.returns-then-is_deeper-clause-only
returns-then-is_deeper-clause-only c legal =
    absurd (deep_not_legal (view c.args.item.now) (c.is_deeper.ensures.0 c.if-is_deeper.true) legal)

pub returns-then-is_deeper-clause-fault : goal.returns-then-is_deeper-clause-fault
returns-then-is_deeper-clause-fault c =
    let fine = c.is_fine.ensures.yes c.if-not-is_fine.false in
    inr (deep_fault (view c.args.item.now) c.in_ok-deep_error.field-0 fine (c.is_deeper.ensures.0 c.if-is_deeper.true)
    (c.in_ok-deep_error.ensures.equal fine) (c.in_ok-deep_error.ensures.deep fine) c.in_ok-deep_error.ensures.two)

pub returns-then-is_deeper-clause-refused : goal.returns-then-is_deeper-clause-refused
returns-then-is_deeper-clause-refused c e u =
    let fine = c.is_fine.ensures.yes c.if-not-is_fine.false in
    deep_refused (view c.args.item.now) c.in_ok-deep_error.field-0 e fine
    (c.in_ok-deep_error.ensures.equal fine) (c.in_ok-deep_error.ensures.deep fine) c.in_ok-deep_error.ensures.two u

pub returns-then-branch-clause-only : goal.returns-then-branch-clause-only
returns-then-branch-clause-only c legal =
    absurd
    (distinct_not_equal (view c.args.item.now) legal.distinct (c.in_ok-has_equal_keys_unless.ensures.yes (c.is_fine.ensures.yes c.if-not-is_fine.false) c.if-branch.true))

pub returns-then-branch-clause-fault : goal.returns-then-branch-clause-fault
returns-then-branch-clause-fault c =
    let fine = c.is_fine.ensures.yes c.if-not-is_fine.false in
    inr (fine_no_bad (view c.args.item.now) fine, c.in_ok-has_equal_keys_unless.ensures.yes fine c.if-branch.true)

pub returns-then-branch-clause-refused : goal.returns-then-branch-clause-refused
returns-then-branch-clause-refused c e u =
    let fine = c.is_fine.ensures.yes c.if-not-is_fine.false in
    told_equal (view c.args.item.now) e (fine_no_bad (view c.args.item.now) fine)
    (c.in_ok-has_equal_keys_unless.ensures.yes fine c.if-branch.true) u

pub returns-clause-legal : goal.returns-clause-legal
returns-clause-legal c =
    let fine = c.is_fine.ensures.yes c.if-not-is_fine.false in
    record
    { shallow = not_deeper c.is_deeper.result (depth (view c.args.item.now)) c.is_deeper.ensures.1 c.if-is_deeper.false; distinct = c.in_ok-has_equal_keys_unless.ensures.no fine c.if-branch.false; no_bad_simple = fine_no_bad (view c.args.item.now) fine }

pub returns-clause-refused : goal.returns-clause-refused
returns-clause-refused c e u =
    let fine = c.is_fine.ensures.yes c.if-not-is_fine.false in
    told_none (view c.args.item.now) e
    (record { shallow = not_deeper c.is_deeper.result (depth (view c.args.item.now)) c.is_deeper.ensures.1 c.if-is_deeper.false; distinct = c.in_ok-has_equal_keys_unless.ensures.no fine c.if-branch.false; no_bad_simple = fine_no_bad (view c.args.item.now) fine })
    u

pub returns-clause-again : goal.returns-clause-again
returns-clause-again c plain r =
    let fine = c.is_fine.ensures.yes c.if-not-is_fine.false in
    rw (c.from_vec.ensures, c.in_ok-bytes.ensures.bytes) (read_back (view c.args.item.now) r fine plain)

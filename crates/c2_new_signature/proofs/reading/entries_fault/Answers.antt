use Rattle.c2_spec.specs.Cbor.View.{pairs_view}
use Rattle.c2_new_signature.proofs.HeaderEntries.{too_many, are_few, has_first, has_second, has_neither}
use Rattle.c2_new_signature.proofs.reading.entries_fault.Goals as goal

pub returns-then-entries-gt-MAX_HEADER_ENTRIES : goal.returns-then-entries-gt-MAX_HEADER_ENTRIES
returns-then-entries-gt-MAX_HEADER_ENTRIES c = too_many c.args.entries.now c.if-entries-gt-MAX_HEADER_ENTRIES.true

pub returns-then-has_key : goal.returns-then-has_key
returns-then-has_key c =
    (are_few c.args.entries.now c.if-entries-gt-MAX_HEADER_ENTRIES.false, has_first (pairs_view c.args.entries.now) c.has_key.result c.has_key.ensures c.if-has_key.true)

pub returns-then-has_key-2 : goal.returns-then-has_key-2
returns-then-has_key-2 c =
    (are_few c.args.entries.now c.if-entries-gt-MAX_HEADER_ENTRIES.false, has_second (pairs_view c.args.entries.now) c.has_key-2.result c.has_key-2.ensures c.if-has_key-2.true)

pub returns : goal.returns
returns c =
    (are_few c.args.entries.now c.if-entries-gt-MAX_HEADER_ENTRIES.false, has_neither (pairs_view c.args.entries.now) c.has_key.result c.has_key-2.result c.has_key.ensures c.if-has_key.false c.has_key-2.ensures c.if-has_key-2.false)

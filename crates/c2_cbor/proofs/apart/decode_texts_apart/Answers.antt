use Rattle.std.proofs.Common.{inr, refl}
use Rattle.c2_cbor.proofs.Ends.{spelled_whole, whole_is, none_whole, none_early, early_is}
use Rattle.c2_cbor.proofs.apart.decode_texts_apart.Goals as goal

pub returns-then-end-bytes-clause-only : goal.returns-then-end-bytes-clause-only
returns-then-end-bytes-clause-only c v legal spells =
    absurd
    (none_whole c.args.bytes.now _ _ c.in_ok-held.ensures.only c.if-end-bytes.true v legal spells)

pub returns-then-end-bytes-clause-fault : goal.returns-then-end-bytes-clause-fault
returns-then-end-bytes-clause-fault c =
    inr (inr (_, c.in_ok-held.end, c.in_ok-held.ensures.read, c.if-end-bytes.true, refl))

pub returns-then-end-bytes-clause-refused : goal.returns-then-end-bytes-clause-refused
returns-then-end-bytes-clause-refused c e fault = absurd (c.in_ok-held.ensures.refused e fault)

pub returns-then-end-bytes-clause-early : goal.returns-then-end-bytes-clause-early
returns-then-end-bytes-clause-early c e early =
    inr (early_is c.args.bytes.now _ _ c.in_ok-held.ensures.only e early)

pub returns-clause-read : goal.returns-clause-read
returns-clause-read c =
    spelled_whole c.args.bytes.now _ _ c.in_ok-held.ensures.read c.if-end-bytes.false

pub returns-clause-only : goal.returns-clause-only
returns-clause-only c v legal spells =
    whole_is c.args.bytes.now _ _ c.in_ok-held.ensures.only v legal spells

pub returns-clause-refused : goal.returns-clause-refused
returns-clause-refused c e fault = absurd (c.in_ok-held.ensures.refused e fault)

pub returns-clause-early : goal.returns-clause-early
returns-clause-early c e early =
    absurd (none_early c.args.bytes.now _ _ c.in_ok-held.ensures.only c.if-end-bytes.false e early)

use Rattle.std.proofs.Common.{inr, refl}
use Rattle.c2_spec.specs.C2pa.Sign1.{parts_of}
use Rattle.c2_spec.specs.Cbor.View.{view}
use Rattle.c2_sigstruct.proofs.Reading.{error_told, no_item, read_header, read_none, read_one, read_spelled}
use Rattle.c2_sigstruct.proofs.read.read_sign1.Goals as goal

-- a message was read
pub returns-in-Some-clause-read : goal.returns-in-Some-clause-read
returns-in-Some-clause-read c =
    read_spelled c.args.bytes.now (view c.in-Ok.item) (view c.untag.result) (parts_of c.in-Some.sign) c.in-Ok.ensures.read
    c.untag.ensures c.in-Some.ensures

pub returns-in-Some-clause-header : goal.returns-in-Some-clause-header
returns-in-Some-clause-header c =
    read_header (view c.in-Ok.item) (view c.untag.result) (parts_of c.in-Some.sign) c.in-Ok.ensures.read.0
    c.untag.ensures c.in-Some.ensures

pub returns-in-Some-clause-only : goal.returns-in-Some-clause-only
returns-in-Some-clause-only c =
    read_one c.args.bytes.now (view c.in-Ok.item) (view c.untag.result) (parts_of c.in-Some.sign) c.in-Ok.ensures.only
    c.untag.ensures c.in-Some.ensures

-- an item that is no message
pub returns-in-None-clause-only : goal.returns-in-None-clause-only
returns-in-None-clause-only c = λ parts spelled.
    absurd (read_none c.args.bytes.now (view c.in-Ok.item) (view c.untag.result) c.in-Ok.ensures.only c.untag.ensures c.in-None.ensures parts spelled)

pub returns-in-None-clause-form : goal.returns-in-None-clause-form
returns-in-None-clause-form c =
    inr
    (refl, read_none c.args.bytes.now (view c.in-Ok.item) (view c.untag.result) c.in-Ok.ensures.only c.untag.ensures c.in-None.ensures)

-- no item
pub returns-in-Err-clause-only : goal.returns-in-Err-clause-only
returns-in-Err-clause-only c =
    no_item c.args.bytes.now c.in-Err.fault c.unread.result c.unread.ensures c.in-Err.ensures.only

pub returns-in-Err-clause-form : goal.returns-in-Err-clause-form
returns-in-Err-clause-form c =
    error_told c.args.bytes.now c.in-Err.fault c.unread.result c.unread.ensures c.in-Err.ensures.only

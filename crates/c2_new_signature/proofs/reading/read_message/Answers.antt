use Rattle.std.proofs.Common.{subst, arith}
use Rattle.c2_spec.specs.C2pa.Sign1.{parts_of}
use Rattle.c2_new_signature.specs.Tested.{PartsTested}
use Rattle.c2_new_signature.proofs.Tests.{accepted_parts, form_fails, refused_parts}
use Rattle.c2_new_signature.proofs.reading.read_message.Goals as goal

-- a message of which a part fails a test
pub returns-in-Some-clause-refused : goal.returns-in-Some-clause-refused
returns-in-Some-clause-refused c =
    refused_parts c.args.protected.now c.args.bytes.now (parts_of c.in-Ok.sign) c.in-Some.part (omega arith) c.in-Ok.ensures.read c.in-Ok.ensures.only
    (subst (PartsTested c.args.protected.now (parts_of c.in-Ok.sign)) c.in-Some.is c.in_ok-part-in-Ok.ensures)

-- a message whose parts pass
pub returns-in-None-clause-accepted : goal.returns-in-None-clause-accepted
returns-in-None-clause-accepted c =
    accepted_parts c.args.protected.now c.args.bytes.now (parts_of c.in-Ok.sign) (omega arith) c.in-Ok.ensures.read c.in-Ok.ensures.only
    (subst (PartsTested c.args.protected.now (parts_of c.in-Ok.sign)) c.in-None.is c.in_ok-part-in-Ok.ensures)

-- bytes that are no message
pub returns-in-Err-Form-clause-refused : goal.returns-in-Err-Form-clause-refused
returns-in-Err-Form-clause-refused c =
    form_fails c.args.protected.now c.args.bytes.now c.in-Err-Form.field-0 c.in-Err-Form.field-0-is (omega arith)
    c.in-Err-Form.ensures.form

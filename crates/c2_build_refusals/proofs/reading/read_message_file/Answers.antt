use Rattle.std.proofs.Common.{◌≡◌, length, refl, subst, ◌∙◌, arith}
use Rattle.c2_base.specs.ReadAll.{HasReason}
use Rattle.c2_base.specs.declared.limits.TheConstants.{MAX_INPUT_LEN}
use Rattle.c2_spec.specs.C2pa.Sign1.{parts_of}
use Rattle.c2_build_refusals.proofs.Inputs.{long_message, refused_message, taken_message}
use Rattle.c2_build_refusals.proofs.reading.read_message_file.Goals as goal

-- the file is too long
pub returns-in-Err-TooLong-clause-stage : goal.returns-in-Err-TooLong-clause-stage
returns-in-Err-TooLong-clause-stage g c = λ file known.
    let reason =
    subst (HasReason g.C.Source.len g.C.Source.faults MAX_INPUT_LEN c.args.file.now c.read_all.new.source)
    c.in-Err-TooLong.field-0-is c.in-Err-TooLong.ensures.reason in
    let size : length file ≡ g.C.Source.len c.args.file.now = g.met.C.Source.known_len c.args.file.now file known in
    long_message c.args.protected.now file (omega (arith, size, reason.1))

-- it is this message
pub returns-in-Ok-read_message-clause-stage : goal.returns-in-Ok-read_message-clause-stage
returns-in-Ok-read_message-clause-stage g c = λ file known.
    let bytes : c.as_slice.result.now ≡ file = c.as_slice.ensures.value ∙ c.in-Ok.ensures.bytes file known in
    (parts_of c.in-Ok-read_message.sign, taken_message c.args.protected.now c.as_slice.result.now file (parts_of c.in-Ok-read_message.sign) bytes c.in-Ok-read_message.ensures.accepted c.in-Ok-read_message.ensures.read, refl)

-- it is refused
pub returns-in-Err-BadSignature-clause-stage : goal.returns-in-Err-BadSignature-clause-stage
returns-in-Err-BadSignature-clause-stage g c = λ file known.
    let bytes : c.as_slice.result.now ≡ file = c.as_slice.ensures.value ∙ c.in-Ok.ensures.bytes file known in
    refused_message c.args.protected.now c.as_slice.result.now file c.in-Err-BadSignature.part c.in-Err-BadSignature.field-0 bytes c.in-Err-BadSignature.field-0-is c.in-Err-BadSignature.ensures.refused

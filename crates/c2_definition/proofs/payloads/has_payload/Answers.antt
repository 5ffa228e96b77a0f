use Rattle.c2_definition.proofs.PayloadSteps.{of_cbor}
use Rattle.c2_definition.proofs.payloads.has_payload.Goals as goal

-- what is told of the bytes is told of the assertion
pub returns-in-Cbor : goal.returns-in-Cbor
returns-in-Cbor c =
    of_cbor c.args.assertion.now c.as_slice.result.now c.is_whole_item.result c.in-Cbor.is c.as_slice.ensures.value
    c.is_whole_item.ensures

use Rattle.std.proofs.Common.{ap, List, ℕ, ◌∙◌}
use Rattle.c2_spec.specs.C2pa.Sign1.{sig_structure}
use Rattle.c2_spec.specs.Cbor.Deterministic.{deterministic}
use Rattle.c2_build_refusals.proofs.Outside.{nothing_said}
use Rattle.c2_build_front.proofs.Drafts.{planned_of}
use Rattle.c2_build_front.proofs.planning.plan_with.Goals as goal

-- the media failed, or memory did
pub returns-in-Err-clause-planned : goal.returns-in-Err-clause-planned
returns-in-Err-clause-planned g c =
    λ file known what k. nothing_said c.in-Err.error _ (c.in-Err.ensures.nothing file known what k)

-- this is to be signed
pub returns-in-Ok-signed_over-clause-planned : goal.returns-in-Ok-signed_over-clause-planned
returns-in-Ok-signed_over-clause-planned g c = λ file known what k.
    let d = c.args.definition.now in
    planned_of g.H.Hashing.digest_of file what d c.args.front.now c.in-Ok-parts_over.parts _ c.in-Ok-signed_over.tbs k c.in-Ok-parts_over.ensures.parts known
    (c.in-Ok-signed_over.ensures ∙ ap (λ (x : List ℕ). deterministic (sig_structure d.protected x)) c.as_slice.ensures.value)

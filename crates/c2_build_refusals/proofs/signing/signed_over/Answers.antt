use Rattle.std.proofs.Common.{List, subst, ℕ}
use Rattle.std.specs.Prelude.{IfOk, ◌≡◌}
use Rattle.c2_spec.specs.C2pa.Sign1.{sig_structure}
use Rattle.c2_spec.specs.Cbor.Deterministic.{deterministic}
use Rattle.c2_build_refusals.proofs.signing.signed_over.Goals as goal

-- a header without entries is legal
pub signed_bytes-requires : goal.signed_bytes-requires
signed_bytes-requires c = c.in_ok-sign.ensures.header

-- the protected header is the definition's
pub returns : goal.returns
returns c =
    subst
    (λ (p : List ℕ). IfOk c.signed_bytes.result (λ b. b ≡ deterministic (sig_structure p c.args.claim.now)))
    c.in_ok-sign.ensures.protected c.signed_bytes.ensures

use Rattle.std.proofs.Common.{refl, sym, subst, lit≤}
use Rattle.c2_spec.specs.C2pa.Sign1.{IsHeader}
use Rattle.c2_spec.specs.Cbor.Item.{no_pairs}
use Rattle.c2_build_refusals.proofs.signing.unsigned.Goals as goal

-- a header without entries is legal
pub returns-clause-header : goal.returns-clause-header
returns-clause-header c =
    subst IsHeader (sym c.empty_map.ensures)
    (record { map = (no_pairs, refl); legal = record { shallow = lit≤ tt; distinct = tt; no_bad_simple = λ h. h } })

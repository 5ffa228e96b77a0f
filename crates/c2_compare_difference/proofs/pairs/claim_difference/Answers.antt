use Rattle.std.proofs.Common.{sym, ap, refl}
use Rattle.std.specs.Option.{option_map}
use Rattle.c2_compare_spec.specs.Differences.{claim_pair}
use Rattle.c2_compare_evidence.specs.Shown.{by_box}
use Rattle.c2_compare_content.specs.declared.targets.Equality.{Equality}
use Rattle.c2_compare_difference.proofs.pairs.claim_difference.Goals as goal

-- the pair of the claims
pub returns : goal.returns
returns c =
    c.compare_known.ensures
    (claim_pair c.args.target.now.name.now
    (option_map (λ k. k.now) c.args.target.now.left) (option_map (λ k. k.now) c.args.target.now.right))
    (ap by_box (sym c.signature_contents.ensures)) refl (sym c.claim_bytes.ensures) (sym c.claim_bytes-2.ensures)
    (ap (λ (e : Equality). e.claims) c.args.target.now.compared)

use Rattle.std.proofs.Common.{sym, ap, refl}
use Rattle.std.specs.Option.{option_map}
use Rattle.c2_compare_spec.specs.Differences.{signature_pair}
use Rattle.c2_compare_evidence.specs.Shown.{by_name}
use Rattle.c2_compare_content.specs.declared.targets.Equality.{Equality}
use Rattle.c2_compare_difference.proofs.pairs.signature_difference.Goals as goal

-- the pair of the signature boxes
pub returns : goal.returns
returns c =
    c.compare_known.ensures
    (signature_pair c.args.own.now c.args.reference.now c.args.target.now.name.now
    (option_map (λ k. k.now) c.args.target.now.left) (option_map (λ k. k.now) c.args.target.now.right))
    (ap by_name (sym c.alg_name.ensures)) refl (sym c.signature_contents.ensures) (sym c.signature_contents-2.ensures)
    (ap (λ (e : Equality). e.signatures) c.args.target.now.compared)

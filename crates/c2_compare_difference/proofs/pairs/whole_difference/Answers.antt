use Rattle.std.proofs.Common.{sym, ap, refl}
use Rattle.std.specs.Option.{option_map}
use Rattle.c2_compare_spec.specs.Differences.{whole_pair}
use Rattle.c2_compare_evidence.specs.Shown.{by_name}
use Rattle.c2_compare_content.specs.declared.targets.Equality.{Equality}
use Rattle.c2_compare_difference.proofs.pairs.whole_difference.Goals as goal

-- the pair of the contents
pub returns : goal.returns
returns c =
    c.compare_known.ensures
    (whole_pair c.args.own.now c.args.alg.now c.args.target.now.name.now
    (option_map (λ k. k.now) c.args.target.now.left) (option_map (λ k. k.now) c.args.target.now.right))
    (ap by_name (sym c.alg_name.ensures)) refl (sym c.whole_contents.ensures) (sym c.whole_contents-2.ensures)
    (ap (λ (e : Equality). e.contents) c.args.target.now.compared)

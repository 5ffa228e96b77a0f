use Rattle.std.proofs.Common.{◌∙◌, ap, sym}
use Rattle.std.specs.Option.{option_map}
use Rattle.c2_spec.specs.Located.{refused_by}
use Rattle.c2_opening.proofs.Finding.{refuses}
use Rattle.c2_opening.proofs.find.refused.Goals as goal

-- a refusal has the number that the error has
pub returns-clause-within : goal.returns-clause-within
returns-clause-within c = λ len before now cause.
    let says = ap (option_map refused_by) (sym c.of_media.ensures ∙ c.in-Some.is) in
    (c.args.error, refuses len before now c.args.error _ says cause, says)

use Rattle.std.proofs.Common.{◌∙◌, ap}
use Rattle.std.specs.Prelude.{bytes_eq, is_some}
use Rattle.c2_rules.specs.Chains.{label_in, place_of}
use Rattle.c2_rules.specs.Readings.{Reading}
use Rattle.c2_parent.proofs.RefusedLemmas.{some_place}
use Rattle.c2_parent.proofs.refused.has_manifest.Goals as goal

pub returns : goal.returns
returns c =
    c.is_some.ensures ∙ ap is_some (c.place_of.ensures ∙ ap (λ rs. place_of rs c.args.label.now) c.readings.ensures)
    ∙ some_place (λ (r : Reading). bytes_eq (label_in r) c.args.label.now) c.args.chain.now.readings

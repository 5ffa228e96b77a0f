use Rattle.std.proofs.Common.{sym, ap, ◌∙◌, arith}
use Rattle.std.specs.Option.{option_map}
use Rattle.serde_json.specs.View.{view}
use Rattle.c2_definition.proofs.FileSteps.{agrees_file}
use Rattle.c2_definition.proofs.reading.read_definition.Goals as goal

-- what its object comes to, the file does
pub returns : goal.returns
returns c = λ r h.
    let short = c.if-bytes-gt-MAX_INPUT_LEN.false in
    let there = sym (ap (option_map view) c.in-Some.is) ∙ c.in_ok-value.ensures in
    agrees_file c.args.bytes.now (view c.in-Some.value) r c.definition_of.result h (omega (arith, short)) there c.definition_of.ensures

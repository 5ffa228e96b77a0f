use Rattle.std.proofs.Common.{rules, ◌≡◌, true}
use Rattle.c2_usage.specs.CommandLine.{is_number}
use Rattle.c2_usage.proofs.Decimals.{refused_number}
use Rattle.c2_usage.proofs.numbers.pieces_of.Goals as goal

-- what the parser refuses asks for no pieces
pub returns-in_default : goal.returns-in_default
returns-in_default c =
    let number : is_number c.args.word.now ≡ true = search rules in
    refused_number c.args.word.now number c.in_default.ensures.value.0

use Rattle.std.proofs.Common.{ap, ◌∙◌, map, take}
use Rattle.c2_usage.specs.Parsing.{leaf_of}
use Rattle.c2_usage.proofs.Building.{added, made_more, whole, whole_more}
use Rattle.c2_usage.proofs.parsing.command_line.Goals as goal

-- the subcommand of one more command has been added
pub loop-command-preserved : goal.loop-command-preserved
loop-command-preserved c =
    let before = map leaf_of (take c.loop-command.command-index c.commands-command-items.result.now) in
    added _ _ _ _ _ c.loop-command.invariant c.in_ok-leaf.ensures c.in_ok-parser.ensures
    ∙ whole_more before _
    ∙ ap whole
    (made_more leaf_of c.commands-command-items.result.now c.loop-command.command-index _ c.loop-command-test.true)

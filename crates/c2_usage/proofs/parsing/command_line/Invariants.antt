use Rattle.std.proofs.Common.{◌≡◌, map, take}
use Rattle.clap.specs.Simple.{app_of}
use Rattle.c2_usage.specs.Parsing.{leaf_of}
use Rattle.c2_usage.proofs.Building.{whole}
use Rattle.c2_usage.proofs.parsing.command_line.Given as goal

-- the subcommands so far have been added
abbrev pub invariant-loop-command : goal.invariant-loop-command
invariant-loop-command l = app_of l.parser ≡ whole (map leaf_of (take l.command-index l.command-items))

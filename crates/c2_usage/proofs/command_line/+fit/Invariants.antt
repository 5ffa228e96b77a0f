use Rattle.std.proofs.Common.{length}
use Rattle.c2_usage.proofs.command_line.+fit.Given as goal

-- the roles grow fewer
abbrev pub decreases-fit : goal.decreases-fit
decreases-fit l = length l.roles.now

use Rattle.std.proofs.Common.{arith, sym}
use Rattle.c2_sigstruct.proofs.Parts.{not_four}
use Rattle.c2_sigstruct.proofs.message.of_items.Goals as goal

pub returns-then-len-ne4 : goal.returns-then-len-ne4
returns-then-len-ne4 c = sym (not_four c.args.items.items (λ e. absurd (omega (arith, c.args.items.ok.0))))

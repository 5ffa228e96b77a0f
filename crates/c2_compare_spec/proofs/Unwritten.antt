-- What nothing adds to a report.
use Rattle.std.proofs.Common.{◌≡◌, ℕ, List, Option, ◌∙◌}
use Rattle.c2_base.specs.Sink.{HasWrittenPrefix}
use Rattle.c2_base.proofs.Written.{then_nothing}

-- nothing is a prefix of each text
pub prefix_none : (a b : Option (List ℕ)) (all : List ℕ) → b ≡ a → HasWrittenPrefix a b all
prefix_none a b all e = (0, e ∙ then_nothing a)

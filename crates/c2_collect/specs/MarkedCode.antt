-- A marked store can be told from every other.
use Rattle.std.proofs.Common.{Bool, List, refl}
use Rattle.std.specs.Coded.{Coded, code_by, coded_bool, coded_list, coded×}
use Rattle.c2_spec.specs.Jumbf.Tree.{Trees}
use Rattle.c2_spec.proofs.JumbfCode.{all_once, coded_all}
use Rattle.c2_collect.specs.Marked.{MarkedStore}

-- boxes side by side can be told from all others
abbrev pub trees_code : Coded Trees
trees_code = record { code = coded_all; inj = all_once }

-- boxes with flags can be told from all others
abbrev pub marked_code : Coded MarkedStore
marked_code =
    code_by (Trees × List Bool) (coded× trees_code (coded_list coded_bool)) (λ s. (s.boxes, s.reached)) (λ p. record { boxes = p.0; reached = p.1 }) (λ _. refl)

use Rattle.std.proofs.Common.{ℕ, List, length, ◌==◌, lit<, rules, tests}
use Rattle.std.proofs.lemmas.Iterator.Search.{any_from_yields_List}
use Rattle.std.proofs.lemmas.Iterator.Splits.{YieldsList-from_str_split}
use Rattle.c2_uri.proofs.parsing.has_empty.Goals as goal

pub returns : goal.returns
returns c =
    any_from_yields_List (λ (label : List ℕ). length label == 0) _ _ _ c.any.ensures.ran
    (YieldsList-from_str_split 47 c.args.path.now (lit< tt) c.split.ensures.text c.split.ensures.has_more c.split.ensures.pattern)
    (λ x b q k. search (rules, tests))

use Rattle.std.proofs.Common.{rules, tests}
use Rattle.std.specs.Str.{bytes_eq}
use Rattle.std.proofs.lemmas.Iterator.{YieldsList-from_slice}
use Rattle.std.proofs.lemmas.Iterator.Search.{any_from_yields_List}
use Rattle.c2_spec.specs.Bmff.Paths.{entered_kinds}
use Rattle.c2_bmff_paths.proofs.paths.enters.Goals as goal

-- a path enters a box just when its type is one of those listed
pub returns : goal.returns
returns c =
    any_from_yields_List (bytes_eq c.args.kind) _ _ _ c.any.ensures.ran (YieldsList-from_slice entered_kinds (cc))
    (λ x b q k. search (rules, tests))

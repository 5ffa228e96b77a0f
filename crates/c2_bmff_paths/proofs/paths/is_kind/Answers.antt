use Rattle.std.proofs.Common.{◌≡◌, ℕ, not, ◌&&◌, ◌==◌, ltb, length, sym, ap, ◌∙◌, rules, tests}
use Rattle.std.specs.List.{list_all}
use Rattle.std.proofs.lemmas.Iterator.{YieldsList-from_slice}
use Rattle.std.proofs.lemmas.Iterator.Search.{all_from_yields_List}
use Rattle.c2_bmff_paths.proofs.paths.is_kind.Goals as goal

-- four bytes are a type in a path just when they are ASCII and none opens a bracket
pub returns : goal.returns
returns c =
    let four : length c.args.kind ≡ 4 = search rules in
    all_from_yields_List (λ (b : ℕ). ltb b 0x80 && not (b == 0x5B)) _ _ _ c.all.ensures.ran
    (YieldsList-from_slice c.args.kind cc) (λ x b q k. search (rules, tests))
    ∙ ap (λ (n : ℕ). (n == 4) && list_all (λ (b : ℕ). ltb b 0x80 && not (b == 0x5B)) c.args.kind) (sym four)

use Rattle.std.proofs.Common.{◌++◌, [], ◌∷◌, List, map, take, subst, ◌∙◌, ap}
use Rattle.clap.specs.Walk.{Rule}
use Rattle.c2_usage.specs.CommandLine.{name_of}
use Rattle.c2_usage.specs.Parsing.{IsLeaf, leaf, rule_for}
use Rattle.c2_usage.proofs.Building.{added_words, made_more}
use Rattle.c2_usage.proofs.parsing.leaf.Goals as goal

-- the words of one more role have been added
pub loop-role-preserved : goal.loop-role-preserved
loop-role-preserved c =
    let before = map rule_for (take c.loop-role.role-index c.words_of-role-items.result.now) in
    let more =
    added_words (name_of c.args.command) before _ _ _ c.loop-role.invariant c.in_ok-parser.ensures
    c.rule_for.ensures.local in
    let are =
    ap (λ (r : Rule). before ++ r ∷ []) c.rule_for.ensures.rule
    ∙ made_more rule_for c.words_of-role-items.result.now c.loop-role.role-index _ c.loop-role-test.true in
    subst (λ (rs : List Rule). IsLeaf (leaf (name_of c.args.command) rs) c.in_ok-parser.parser) are more

use Rattle.std.proofs.Common.{ap, option_to_list, refl, sym, ◌∙◌}
use Rattle.c2_rules.specs.Readings.{question_in}
use Rattle.c2_calls_spec.specs.Asks.{AsksThese}
use Rattle.c2_chain.specs.Checked.{chain_heard}
use Rattle.c2_chain.specs.declared.asking.ChainError.TheVariants.{NoMemory}
use Rattle.c2_calls_spec.proofs.PanelLemmas.{hears_early, hears_error, hears_later}
use Rattle.c2_chain.proofs.manifest.check_asked.Goals as goal

-- memory ran out before anybody was asked
pub returns-in-Err-clause-panel : goal.returns-in-Err-clause-panel
returns-in-Err-clause-panel g c =
    hears_early _ _ _ _ (AsksThese (option_to_list (question_in c.args.own.now))) c.args.judges.now NoMemory refl

-- a judge failed
pub returns-in-Err-verdict_of-clause-panel : goal.returns-in-Err-verdict_of-clause-panel
returns-in-Err-verdict_of-clause-panel g c =
    hears_error _ _ _ chain_heard chain_heard (AsksThese (option_to_list (question_in c.args.own.now))) (AsksThese (option_to_list c.in-Ok.q)) c.args.judges.now c.verdict_of.new.judges c.in-Err-verdict_of.error c.in-Err-verdict_of.error refl
    (λ qs is. is ∙ ap option_to_list (sym c.in-Ok.ensures)) c.in-Err-verdict_of.ensures.panel

-- the panel was asked, and the rules from the verdict on have an answer
pub returns-in-Ok-check_judged-clause-panel : goal.returns-in-Ok-check_judged-clause-panel
returns-in-Ok-check_judged-clause-panel g c =
    hears_later _ _ _ chain_heard chain_heard (AsksThese (option_to_list (question_in c.args.own.now)))
    (AsksThese (option_to_list c.in-Ok.q)) c.args.judges.now c.verdict_of.new.judges c.in-Ok-verdict_of.verdict _ tt
    (λ qs is. is ∙ ap option_to_list (sym c.in-Ok.ensures)) c.in-Ok-verdict_of.ensures.panel

-- or memory ran out at them
pub returns-clause-panel : goal.returns-clause-panel
returns-clause-panel g c =
    hears_later _ _ _ chain_heard chain_heard (AsksThese (option_to_list (question_in c.args.own.now))) (AsksThese (option_to_list c.in-Ok.q)) c.args.judges.now c.verdict_of.new.judges c.in-Ok-verdict_of.verdict _ (λ is. let no = is in cc (no)) (λ qs is. is ∙ ap option_to_list (sym c.in-Ok.ensures))
    c.in-Ok-verdict_of.ensures.panel

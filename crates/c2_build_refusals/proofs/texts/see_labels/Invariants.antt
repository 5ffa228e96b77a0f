use Rattle.c2_definition.specs.declared.types.NewAssertion.{NewAssertion}
use Rattle.c2_new_file_spec.specs.Written.{IsText}
use Rattle.c2_build_refusals.proofs.Seen.{AllFrom}
use Rattle.c2_build_refusals.proofs.texts.see_labels.Given as goal

-- the labels so far are texts
abbrev pub invariant-loop-assertion : goal.invariant-loop-assertion
invariant-loop-assertion l = AllFrom (λ (a : NewAssertion). IsText a.label) l.list l.assertion-index

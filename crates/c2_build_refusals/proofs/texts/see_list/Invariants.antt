use Rattle.c2_new_file_spec.specs.Written.{IsText}
use Rattle.c2_build_refusals.proofs.Seen.{AllFrom}
use Rattle.c2_build_refusals.proofs.texts.see_list.Given as goal

-- those so far are texts
abbrev pub invariant-loop-text : goal.invariant-loop-text
invariant-loop-text l = AllFrom IsText l.texts l.text-index

use Rattle.std.proofs.Common.{◌∙◌, sym, option_copied}
use Rattle.c2_parent.proofs.RefusedLemmas.{copied_some, named_gone, unnamed_there}
use Rattle.c2_parent.proofs.targets.has_box.Goals as goal

pub returns-then-has_named : goal.returns-then-has_named
returns-then-has_named c =
    λ redacts h e. named_gone redacts c.args.before.now c.args.manifest.now c.args.label.now c.args.own.now h e (sym c.has_named.ensures ∙ c.if-has_named.true)

pub returns : goal.returns
returns c = λ redacts h e.
    c.is_some.ensures ∙ sym (copied_some c.find_box.result)
    ∙ unnamed_there redacts c.args.before.now c.args.manifest.now c.args.label.now c.args.own.now
    (option_copied c.find_box.result) h e (sym c.has_named.ensures ∙ c.if-has_named.false) c.find_box.ensures

use Rattle.std.proofs.Common.{◌&&◌, ◌∙◌, Bool, ap, sym}
use Rattle.std.specs.Prelude.{find, is_some}
use Rattle.c2_rules.specs.Rules.{is_labelled}
use Rattle.c2_new_file_spec.specs.Refusing.{kept_boxes}
use Rattle.c2_parent.proofs.targets.has_target.Goals as goal

pub returns-then-is_listed : goal.returns-then-is_listed
returns-then-is_listed c = λ redacts h e.
    c.has_box.ensures redacts h e
    ∙ sym
    (ap (λ (b : Bool). b && is_some (find (is_labelled c.args.label.now) (kept_boxes redacts c.args.own.now))) (sym c.is_listed.ensures ∙ c.if-is_listed.true))

pub returns : goal.returns
returns c = λ redacts h e.
    sym
    (ap (λ (b : Bool). b && is_some (find (is_labelled c.args.label.now) (kept_boxes redacts c.args.own.now))) (sym c.is_listed.ensures ∙ c.if-is_listed.false))

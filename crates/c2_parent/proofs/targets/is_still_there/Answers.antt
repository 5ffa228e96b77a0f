use Rattle.std.proofs.Common.{◌∙◌, sym}
use Rattle.c2_parent.proofs.RefusedLemmas.{not_there, still_here, unreached}
use Rattle.c2_parent.proofs.targets.is_still_there.Goals as goal

pub returns-in_default : goal.returns-in_default
returns-in_default c =
    λ redacts h. not_there c.args.all.now redacts c.args.manifest.now c.args.label.now c.requires.differ (sym c.place_of.ensures ∙ c.in_default.is)

pub returns-then-is_reached : goal.returns-then-is_reached
returns-then-is_reached c = λ redacts h.
    still_here c.args.all.now c.args.targets.now redacts c.args.manifest.now c.args.label.now c.in-Some.i
    c.index-targets-i.result c.has_target.result c.requires.differ c.requires.same
    (sym c.place_of.ensures ∙ c.in-Some.is) c.index-targets-i.is (sym c.is_reached.ensures ∙ c.if-is_reached.true)
    (c.has_target.ensures redacts h)

pub returns : goal.returns
returns c = λ redacts h.
    unreached c.args.all.now redacts c.args.manifest.now c.args.label.now c.in-Some.i c.requires.differ (sym c.place_of.ensures ∙ c.in-Some.is) (sym c.is_reached.ensures ∙ c.if-is_reached.false)

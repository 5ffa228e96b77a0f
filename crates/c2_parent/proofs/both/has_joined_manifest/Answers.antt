use Rattle.std.proofs.Common.{◌∙◌, sym}
use Rattle.c2_parent.proofs.BothLemmas.{front_joined, joined_back}
use Rattle.c2_parent.proofs.both.has_joined_manifest.Goals as goal

pub returns-then-has_manifest : goal.returns-then-has_manifest
returns-then-has_manifest c =
    sym
    (front_joined c.args.old.now.readings c.args.other.now.readings c.args.label.now (sym c.has_manifest.ensures ∙ c.if-has_manifest.true))

pub returns : goal.returns
returns c =
    joined_back c.args.old.now.readings c.args.other.now.readings c.args.label.now c.has_reached_manifest.result
    (sym c.has_manifest.ensures ∙ c.if-has_manifest.false) c.has_reached_manifest.ensures

use Rattle.std.proofs.Common.{◌∙◌, ap, sym}
use Rattle.c2_rules.specs.Chains.{is_reached, place_of}
use Rattle.c2_parent.proofs.BothLemmas.{reached_at, reached_nowhere}
use Rattle.c2_parent.proofs.both.has_reached_manifest.Goals as goal

pub returns-in-Some : goal.returns-in-Some
returns-in-Some c =
    reached_at c.args.chain.now.readings c.args.label.now c.in-Some.place c.is_reached.result c.requires
    (sym (c.place_of.ensures ∙ ap (λ rs. place_of rs c.args.label.now) c.readings-all.ensures) ∙ c.in-Some.is)
    (c.is_reached.ensures ∙ ap (λ rs. is_reached rs c.in-Some.place) c.readings-all.ensures)

pub returns-in-None : goal.returns-in-None
returns-in-None c =
    reached_nowhere c.args.chain.now.readings c.args.label.now c.requires (sym (c.place_of.ensures ∙ ap (λ rs. place_of rs c.args.label.now) c.readings-all.ensures) ∙ c.in-None.is)

use Rattle.std.proofs.Common.{rules, ◌∙◌}
use Rattle.c2_read_manifests.proofs.RedactLemmas.{of_reached}
use Rattle.c2_read_manifests.proofs.redacted.redact_from.Goals as goal
use Rattle.c2_lemmas.proofs.Results.{on_ok_then}

-- of a manifest that is reached, what it redacts came in
pub returns : goal.returns
returns c = on_ok_then c.redact_texts.result (λ h. of_reached c.args.all.now c.kept.result.now c.args.n c.index-kept-n.result
    c.args.sets.now c.redact_texts.new.sets c.redactions-texts.result.now c.requires.place
    (c.kept.ensures ∙ c.named_of.ensures) c.index-kept-n.is (search rules) c.redactions-texts.ensures h)
    c.redact_texts.ensures

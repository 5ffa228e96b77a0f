use Rattle.c2_layout.proofs.ClaimFields.{claim_given}
use Rattle.c2_layout.proofs.claims.claim_parts.Goals as goal

-- each part is that of the definition
pub returns : goal.returns
returns c =
    claim_given c.args.definition.now c.args.entries.items _ _ _ _ _ _ _ c.in_ok-label.ensures.label
    c.in_ok-label.ensures.instance c.in_ok-label.ensures.generator c.in_ok-title.ensures.title c.in_ok-title.ensures.alg
    c.from_list.ensures c.in_ok-title.ensures.redacted

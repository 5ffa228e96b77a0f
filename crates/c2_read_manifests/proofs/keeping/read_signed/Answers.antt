use Rattle.std.proofs.Common.{List, map, ap, ◌∙◌, subst}
use Rattle.c2_spec.specs.C2pa.Claim.{claim_of}
use Rattle.c2_spec.specs.C2pa.Manifest.{Superbox, claim_bytes, claim_version_of, superbox_at}
use Rattle.c2_rules.specs.Readings.{IsParsed}
use Rattle.c2_read_manifests.proofs.keeping.read_signed.Goals as goal

-- the boxes are those of the tree, and what was read of them is theirs
pub returns : goal.returns
returns c = record {
  claims = c.in_ok-claims.ensures ∙ ap (map (superbox_at c.args.tree.now)) c.as_slice.ensures;
  signature = c.some_box-signature.ensures;
  claim =
      subst (λ (xs : List Superbox). IsParsed (claim_of (claim_version_of xs)) (claim_bytes xs) c.in_ok-claim.claim)
      c.deref.ensures.value c.in_ok-claim.ensures;
  message = c.in_ok-message.ensures.message;
  header = c.in_ok-message.ensures.header;
}

use Rattle.std.proofs.Common.{◌∙◌, ◌-◌, ℕ, [], refl, ap}
use Rattle.std.specs.Option.{option_map_or}
use Rattle.c2_spec.specs.Jumbf.Boxes.{any_contents, box_at}
use Rattle.c2_parent.specs.Boxes.{redacted_any}
use Rattle.c2_spec.proofs.BoxesOfManifests.{whole_inside}
use Rattle.c2_parent.proofs.ParentLemmas.{last_is, same_parent}
use Rattle.c2_parent.proofs.parent.parent_digests.Goals as goal
use Rattle.c2_spec.proofs.Openings.{sign_inside}

pub name_of-label-requires : goal.name_of-label-requires
name_of-label-requires o c =
    whole_inside c.args.tree.now c.args.store.now _ c.whole-at.result c.requires c.whole-at.ensures

pub contents_digest-requires : goal.contents_digest-requires
contents_digest-requires o c =
    whole_inside c.args.tree.now c.args.store.now _ c.whole-at.result c.requires c.whole-at.ensures

pub signature_digest-signed-requires : goal.signature_digest-signed-requires
signature_digest-signed-requires o c =
    sign_inside c.args.tree.now c.args.store.now _ c.signature-sign.result c.requires c.signature-sign.ensures

-- what was digested is the last manifest, and so the parent
pub returns : goal.returns
returns o c = record {
  parent =
      record
      { label = c.name_of-label.result.now; contents = any_contents (redacted_any c.args.redactions.now (box_at c.args.tree.now c.whole-at.result).box); signed = option_map_or (λ i. any_contents (box_at c.args.tree.now i).box) c.signature-sign.result [] };
  digests = record { label = refl; contents = c.in_ok-contents.ensures; signed = c.signature_digest-signed.ensures };
  only = λ p h.
      let l =
      last_is c.args.redactions.now c.args.tree.now c.args.store.now p (c.manifest_count-last.result - 1)
      c.whole-at.result c.signature-sign.result c.requires.same
      (ap (λ (n : ℕ). n - 1) c.manifest_count-last.ensures) c.whole-at.ensures c.signature-sign.ensures h in
      same_parent _ _ _ p (c.name_of-label.ensures ∙ l.label) l.contents l.signed;
}

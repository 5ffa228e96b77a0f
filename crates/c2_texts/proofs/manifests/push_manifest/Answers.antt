use Rattle.std.proofs.Common.{rules, slice_get, string_bytes}
use Rattle.c2_texts.proofs.Pieces.{manifest_written}
use Rattle.c2_spec.proofs.BoxesOfManifests.{assertions_inside}
use Rattle.c2_texts.proofs.manifests.push_manifest.Goals as goal

-- the assertion boxes of a manifest of the store are boxes of the tree
pub push_labelled-requires : goal.push_labelled-requires
push_labelled-requires c =
    assertions_inside c.args.tree.now c.args.store.now c.args.i c.assertions.result.now c.requires.same
    c.assertions.ensures

-- what was written is the text of the manifest at this place
pub returns : goal.returns
returns c =
    manifest_written c.args.tree.now c.assertions.result.now c.label.result.now c.is_update.result _
    (string_bytes c.args.out.now)
    (string_bytes c.push_labelled.new.out) (string_bytes c.push_claim_member.new.out)
    (string_bytes c.push_text.new.out) (string_bytes c.push_update.new.out) (string_bytes c.push.new.self)
    (slice_get c.args.store.now c.args.i) c.assertions.ensures c.label.ensures c.is_update.ensures
    c.in_ok-push_labelled.ensures c.in_ok-push_claim_member.ensures c.in_ok-push_text.ensures
    c.in_ok-push_update.ensures (search rules)

use Rattle.std.proofs.Common.{slice_get, option_map, ap}
use Rattle.c2_spec.specs.declared.store.ManifestBoxes.{ManifestBoxes}
use Rattle.c2_spec.proofs.BoxesOfManifests.{whole_inside, claims_inside, assertions_inside}
use Rattle.c2_read_manifests.proofs.KeepingLemmas.{kept_there}
use Rattle.c2_read_manifests.proofs.keeping.keep_at.Goals as goal
use Rattle.c2_spec.proofs.Openings.{sign_inside}

-- all indices of a manifest of the store are those of boxes of the tree
pub keep-requires : goal.keep-requires
keep-requires c =
    let t = c.args.tree.now in
    let m = c.manifest_boxes-boxes.result.now in
    let at = c.manifest_boxes-boxes.ensures in
    record {
      whole =
          whole_inside t c.args.store.now c.args.i m.whole c.requires.same
          (ap (option_map (λ (b : ManifestBoxes). b.whole)) at);
      claims =
          claims_inside t c.args.store.now c.args.i m.claims c.requires.same
          (ap (option_map (λ (b : ManifestBoxes). b.claims)) at);
      signature =
          sign_inside t c.args.store.now c.args.i m.signature c.requires.same
          (ap (option_map (λ (b : ManifestBoxes). b.signature)) at);
      assertions =
          assertions_inside t c.args.store.now c.args.i m.assertions c.requires.same
          (ap (option_map (λ (b : ManifestBoxes). b.assertions)) at);
    }

-- what is kept of the manifest at a place is a reading of it
pub returns : goal.returns
returns c =
    kept_there c.args.tree.now (slice_get c.args.store.now c.args.i) c.manifest_boxes-boxes.result.now c.in_ok-own.own
    c.manifest_boxes-boxes.ensures c.in_ok-own.ensures

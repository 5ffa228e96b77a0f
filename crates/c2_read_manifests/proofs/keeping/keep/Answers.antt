use Rattle.std.proofs.Common.{ℕ, List, map, subst}
use Rattle.std.specs.List.{AllZip}
use Rattle.c2_spec.specs.C2pa.Manifest.{superbox_at}
use Rattle.c2_rules.specs.Readings.{IsReadBox}
use Rattle.c2_read_manifests.proofs.keeping.keep.Goals as goal

-- the assertion boxes that were read are those of the manifest
pub kept_of-requires : goal.kept_of-requires
kept_of-requires c = record {
  whole = c.requires.whole;
  signed = c.in_ok-signed.ensures;
  boxes =
      subst
      (λ (ks : List ℕ). AllZip IsReadBox (map (superbox_at c.args.tree.now) ks) c.in_ok-boxes.boxes.items)
      c.as_slice.ensures c.in_ok-boxes.ensures;
}

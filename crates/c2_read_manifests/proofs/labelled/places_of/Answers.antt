use Rattle.std.proofs.Common.{ℕ, subst, take, arith, ◌≡◌, length}
use Rattle.c2_label_index.specs.Places.{ArePlaces}
use Rattle.c2_read_manifests.proofs.NamedLemmas.{labels_of, all_placed}
use Rattle.c2_read_manifests.proofs.labelled.places_of.Goals as goal

-- at the end, of each label the place of the manifest with it is kept, and of others none
pub returns : goal.returns
returns c =
    let end : c.loop-i.i ≡ length c.args.kept.now = omega (arith, c.loop-i-test.false, c.loop-i.auto.i-end) in
    all_placed c.args.kept.now c.loop-i.places
    (subst (λ (n : ℕ). ArePlaces (labels_of (take n c.args.kept.now)) c.loop-i.places) end c.loop-i.invariant)

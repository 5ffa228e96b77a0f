use Rattle.std.proofs.Common.{◌∙◌, ◌&&◌, ap, bytes_eq}
use Rattle.c2_spec.specs.Jumbf.Tree.{tree_bytes}
use Rattle.c2_collect.specs.Marked.{is_marked, manifests_in}
use Rattle.c2_collect.proofs.Manifests.{mapped_is}
use Rattle.c2_collect.proofs.carrying.is_shared.Goals as goal

pub returns : goal.returns
returns c ours theirs is_ours is_theirs =
    let a = c.manifest-ours.result.now in
    let b = c.manifest-theirs.result.now in
    c.is_same.ensures ∙ ap (λ r. r && bytes_eq a b) c.is_reached.ensures
    ∙ ap (λ x. is_marked c.args.old.now c.args.at && bytes_eq x b)
    (mapped_is tree_bytes (manifests_in c.args.old.now) c.args.at ours a c.manifest-ours.ensures is_ours)
    ∙ ap (λ x. is_marked c.args.old.now c.args.at && bytes_eq (tree_bytes ours) x)
    (mapped_is tree_bytes (manifests_in c.args.other.now) c.args.i theirs b c.manifest-theirs.ensures is_theirs)

use Rattle.std.proofs.Common.{option_map}
use Rattle.c2_spec.specs.C2pa.Sign1.{parts_of}
use Rattle.c2_read_manifests.proofs.KeepingLemmas.{kept_is}
use Rattle.c2_read_manifests.proofs.keeping.kept_of.Goals as goal

-- what is kept of a manifest is a reading of it
pub returns : goal.returns
returns c =
    let s = c.args.signed in
    let is = c.requires.signed in
    kept_is c.args.tree.now c.args.own.now (option_map (λ x. x.now) c.label_of.result) c.contents.result.now
    s.claims.items s.signature s.claim (option_map parts_of s.message) c.args.boxes.items c.label_of.ensures
    c.contents.ensures is.claims is.signature c.requires.boxes is.claim is.message

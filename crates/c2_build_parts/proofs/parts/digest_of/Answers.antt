use Rattle.std.proofs.Common.{subst}
use Rattle.c2_build_refusals.specs.InsertPoints.{IsInsertPointIn}
use Rattle.c2_bmff_boxes.proofs.Filling.{fill_within}
use Rattle.c2_build_parts.proofs.parts.digest_of.Goals as goal

-- the root boxes lie in the base
pub bmff_digest-requires-clause-inside : goal.bmff_digest-requires-clause-inside
bmff_digest-requires-clause-inside g c =
    let len = g.B.Source.len c.args.base.now in
    fill_within len 0 c.in-Boxes.roots (subst (IsInsertPointIn len) c.in-Boxes.is c.requires.over.inside)

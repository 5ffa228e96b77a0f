use Rattle.std.proofs.Common.{ap, ◌∙◌}
use Rattle.c2_bmff_rows.specs.Rows.{rows_of}
use Rattle.c2_bmff_binding_front.proofs.Walks.{walk_unrefused}
use Rattle.c2_bmff_binding_front.proofs.digesting.Digesting.of_file.Goals as goal
use Rattle.c2_spec.proofs.BmffOneList.{roots_once}

-- a file with root boxes isn't refused
pub returns-in-Err-clause-digest : goal.returns-in-Err-clause-digest
returns-in-Err-clause-digest g c =
    record
    { digest = tt; len = tt; refused = λ file known. walk_unrefused file c.in-Err.error (c.in-Err.ensures.refused file known) }

-- its digest is that of what is left of these boxes
pub returns-in-Ok-bmff_digest-clause-digest : goal.returns-in-Ok-bmff_digest-clause-digest
returns-in-Ok-bmff_digest-clause-digest g c = record {
  digest = λ file known boxes has.
      let found = c.in-Ok.ensures.found file known in
      c.in-Ok-bmff_digest.ensures.digest file (c.in-Ok.ensures.stays.same_bytes ∙ known) boxes has (found.are ∙ ap rows_of (roots_once file found.boxes boxes found.has_roots has));
  len = c.in-Ok-bmff_digest.ensures.len;
  refused = tt;
}

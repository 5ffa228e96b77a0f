use Rattle.std.proofs.Common.{arith, subst, sym}
use Rattle.c2_new_file_spec.specs.Store.{new_alg}
use Rattle.c2_build_refusals.proofs.Media.{media_caused, media_said}
use Rattle.c2_build_refusals.specs.Kinds.{SaysNothing}
use Rattle.c2_build_front.proofs.Drafts.{digest_is, roots_of_new}
use Rattle.c2_build_front.specs.Answers.{plan_effects}
use Rattle.c2_build_front.specs.Steps.{IsPlanStep}
use Rattle.c2_build_front.proofs.parts.parts_over.Goals as goal

-- the new file has root boxes, so nothing is refused of it
pub returns-in-Err-clause-nothing : goal.returns-in-Err-clause-nothing
returns-in-Err-clause-nothing g c = λ file known what k.
    let roots = roots_of_new file what c.args.definition.now c.args.front.now k in
    subst SaysNothing (sym c.media_error.ensures) (media_said ⊥ c.in-Err.error (c.in-Err.ensures.refused file known roots.0 roots.1))

pub returns-in-Err-clause-reads : goal.returns-in-Err-clause-reads
returns-in-Err-clause-reads g c =
    record
    { stays = c.in-Err.ensures.reads.stays; quiet = tt; cause = subst (IsPlanStep _ _) (sym c.media_error.ensures) (media_caused plan_effects _ _ c.in-Err.error c.in-Err.ensures.reads.cause) }

-- the new store isn't too large
pub parts_with-requires-clause-small : goal.parts_with-requires-clause-small
parts_with-requires-clause-small g c = omega (arith, c.requires.store, c.requires.fits.small)

-- the digest is that of the covered text
pub returns-in-Ok-parts_with-clause-parts : goal.returns-in-Ok-parts_with-clause-parts
returns-in-Ok-parts_with-clause-parts g c = record {
  digest = c.in-Ok.digest;
  sized = c.in-Ok.ensures.len;
  parts = c.in-Ok-parts_with.ensures.parts;
  is_digest =
      λ file known what k. digest_is (g.H.Hashing.digest_of (new_alg c.args.definition.now)) c.in-Ok.digest file what c.args.definition.now c.args.front.now k (c.in-Ok.ensures.digest file known);
}

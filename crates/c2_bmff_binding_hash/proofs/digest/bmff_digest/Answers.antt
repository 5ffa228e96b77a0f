use Rattle.std.proofs.Common.{ap, ◌∙◌}
use Rattle.c2_bmff_binding_hash.proofs.Texts.{new_bmff_text}
use Rattle.c2_bmff_binding_hash.proofs.digest.bmff_digest.Goals as goal

-- the covered text is told by the root boxes
pub returns-clause-digest : goal.returns-clause-digest
returns-clause-digest g c file known boxes has same =
    c.in_ok-digest.ensures.digest file (c.in_ok-cover.ensures.stays.same_bytes ∙ known)
    ∙ ap (g.H.Hashing.digest_of c.args.alg)
    (new_bmff_text file c.args.roots.now c.in_ok-cover.cover boxes (c.in_ok-cover.ensures.cover file known) has same)

use Rattle.std.proofs.Common.{List, Option, ap, option_map, subst, ◌∙◌, ℕ}
use Rattle.std.proofs.lemmas.Result.{IfErr-weaker, IfOk-weaker}
use Rattle.c2_spec.specs.PutIn.{put_in}
use Rattle.c2_bmff_binding_front.specs.Digests.{IsRootsDigest, IsUnrefused}
use Rattle.c2_bmff_binding_front.specs.Putting.{moved}
use Rattle.c2_bmff_binding_front.proofs.digesting.front_digest.Goals as goal

-- the piece is the box of a store of zero bytes
pub returns-clause-digest : goal.returns-clause-digest
returns-clause-digest g c =
    let f = c.args.front.now in
    let piece = c.as_slice.result.now in
    IfOk-weaker c.moved.result _ _ (λ d said file known.
    subst (λ (x : List ℕ). IsRootsDigest (g.H.Hashing.digest_of c.args.alg) d (put_in f.place x (moved f file))) (c.as_slice.ensures.value ∙ c.in-Ok.ensures)
    (said (put_in f.place piece (moved f file)) (ap (λ (o : Option (List ℕ)). option_map (put_in f.place piece) (option_map (moved f) o)) known))) c.moved.ensures.digest.digest

pub returns-clause-refused : goal.returns-clause-refused
returns-clause-refused g c =
    let f = c.args.front.now in
    let piece = c.as_slice.result.now in
    IfErr-weaker c.moved.result _ _ (λ e said file known.
    subst (λ (x : List ℕ). IsUnrefused e (put_in f.place x (moved f file))) (c.as_slice.ensures.value ∙ c.in-Ok.ensures)
    (said (put_in f.place piece (moved f file)) (ap (λ (o : Option (List ℕ)). option_map (put_in f.place piece) (option_map (moved f) o)) known))) c.moved.ensures.digest.refused

use Rattle.std.proofs.Common.{ap, option_map}
use Rattle.c2_new_file_spec.specs.Store.{new_alg}
use Rattle.c2_without_store.specs.Clears.{cleared}
use Rattle.c2_build_drafts.proofs.NewStores.{signed_is}
use Rattle.c2_build_drafts.proofs.signing.signed_draft.Goals as goal

-- this is to be signed
pub returns-in-Ok-signed_over-clause-signed : goal.returns-in-Ok-signed_over-clause-signed
returns-in-Ok-signed_over-clause-signed g c = λ file known over p is.
    let d = c.args.definition.now in
    let w = c.args.drafted.now in
    signed_is (g.H.Hashing.digest_of (new_alg d)) file d w over p is (option_map (cleared w.ground.clearing) (g.A.Source.known c.args.media.now)) c.in-Ok-parts_for.parts c.in-Ok-parts_for.ensures.parts
    (ap (option_map (cleared w.ground.clearing)) known) _ c.in-Ok-signed_over.tbs c.as_slice.ensures.value c.in-Ok-signed_over.ensures

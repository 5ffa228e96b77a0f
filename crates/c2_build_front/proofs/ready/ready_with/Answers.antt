use Rattle.std.proofs.Common.{◌<◌, ap, arith, length, subst, sym}
use Rattle.c2_spec.specs.Jpeg.Writing.{IsPacketStore}
use Rattle.c2_new_file_spec.proofs.BuiltLemmas.{packet_store}
use Rattle.c2_new_file_spec.specs.Fresh.{fresh_content}
use Rattle.c2_new_file_spec.specs.Store.{new_alg, new_manifest}
use Rattle.c2_new_file_spec.specs.Films.{new_bmff_binding}
use Rattle.c2_build_front.proofs.Drafts.{ready_of}
use Rattle.c2_build_front.proofs.Sized.{filled_is, fresh_is}
use Rattle.c2_build_front.proofs.ready.ready_with.Goals as goal

-- there is room for the new store
pub new_store-requires-clause-small : goal.new_store-requires-clause-small
new_store-requires-clause-small g c =
    omega
    (arith, ap length c.nothing-nothing.ensures.boxes, c.in-Ok-parts_over.ensures.size, c.requires.filled, c.requires.store, c.requires.fits.small)

-- the store of these parts makes the new file
pub returns-in-Ok-new_store-clause-ready : goal.returns-in-Ok-new_store-clause-ready
returns-in-Ok-new_store-clause-ready g c = λ file known what k.
    let hash = g.H.Hashing.digest_of in
    let d = c.args.definition.now in
    let parts = c.in-Ok-parts_over.ensures.parts in
    let fresh =
    fresh_is (hash (new_alg d)) d c.nothing-nothing.result c.nothing-nothing.ensures.boxes
    c.nothing-nothing.ensures.ingredients (λ text. (g.met.H.Hashing.is_digest (new_alg d) text).sized) in
    ready_of hash file what d _ c.in-Ok-parts_over.parts _ c.args.message.now k parts known c.requires.filled
    (c.in-Ok-new_store.ensures (hash (new_alg d)) (fresh_content d) (new_bmff_binding (new_alg d) parts.digest) fresh parts.parts)

-- it can be written
pub returns-in-Ok-new_store-clause-can_write : goal.returns-in-Ok-new_store-clause-can_write
returns-in-Ok-new_store-clause-can_write g c =
    let hash = g.H.Hashing.digest_of in
    let d = c.args.definition.now in
    let parts = c.in-Ok-parts_over.ensures.parts in
    let fresh =
    fresh_is (hash (new_alg d)) d c.nothing-nothing.result c.nothing-nothing.ensures.boxes
    c.nothing-nothing.ensures.ingredients (λ text. (g.met.H.Hashing.is_digest (new_alg d) text).sized) in
    let is =
    c.in-Ok-new_store.ensures (hash (new_alg d)) (fresh_content d) (new_bmff_binding (new_alg d) parts.digest)
    fresh parts.parts in
    let size =
    filled_is (hash (new_alg d)) d parts.digest c.args.message.now
    (λ text. (g.met.H.Hashing.is_digest (new_alg d) text).sized) parts.sized c.requires.filled in
    record {
      fits = c.requires.fits;
      store =
          subst IsPacketStore (sym is)
          (packet_store (fresh_content d).carried (new_manifest (hash (new_alg d)) (fresh_content d) (new_bmff_binding (new_alg d) parts.digest) c.args.message.now) (omega (arith, size, c.requires.store, c.requires.fits.small)));
      room = let some : 0 < c.in-Ok.buffer.len = omega (arith, c.in-Ok.ensures.len) in some;
    }

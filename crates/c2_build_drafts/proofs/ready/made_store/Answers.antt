use Rattle.std.proofs.Common.{List, ap, arith, length, option_map, subst, sym, ℕ}
use Rattle.c2_new_file_spec.specs.Store.{new_alg}
use Rattle.c2_without_store.specs.Clears.{cleared, cleared_len}
use Rattle.c2_build_drafts.proofs.NewStores.{IsMade, draft_packs, put_ready}
use Rattle.c2_build_drafts.proofs.ready.made_store.Goals as goal

-- the store isn't too large
pub new_store-requires-clause-small : goal.new_store-requires-clause-small
new_store-requires-clause-small g c =
    let s = c.requires.fits.small in
    omega (arith, ap length c.as_slice-message.ensures.value, c.in-Ok.ensures.size s.content s.is, s.small, c.requires.fits.filled)

-- this is to be put in
pub returns-in-Ok-new_store-clause-made : goal.returns-in-Ok-new_store-clause-made
returns-in-Ok-new_store-clause-made g c = λ r store draft clearing file known over p is.
    let d = c.args.build.now.definition in
    let w = c.args.build.now.drafted in
    let m = c.args.build.now.message in
    let parts = c.in-Ok.parts in
    let made =
    subst (λ (x : List ℕ). IsMade d w.ground.carried parts x c.in-Ok-new_store.store)
    c.as_slice-message.ensures.value c.in-Ok-new_store.ensures in
    put_ready (g.H.Hashing.digest_of (new_alg d)) file d w over p is
    (option_map (cleared w.ground.clearing) (g.A.Source.known c.args.media.now)) parts c.in-Ok.ensures.parts
    (ap (option_map (cleared w.ground.clearing)) known) m r draft clearing c.requires.fits.filled
    (subst (λ (s : List ℕ). IsMade d w.ground.carried parts m s) (sym store) made)

-- and goes into packets
pub returns-in-Ok-new_store-clause-packs : goal.returns-in-Ok-new_store-clause-packs
returns-in-Ok-new_store-clause-packs g c =
    let d = c.args.build.now.definition in
    let w = c.args.build.now.drafted in
    let parts = c.in-Ok.parts in
    let made =
    subst (λ (x : List ℕ). IsMade d w.ground.carried parts x c.in-Ok-new_store.store)
    c.as_slice-message.ensures.value c.in-Ok-new_store.ensures in
    draft_packs (g.H.Hashing.digest_of (new_alg d))
    (option_map (cleared w.ground.clearing) (g.A.Source.known c.args.media.now))
    (cleared_len w.ground.clearing (g.A.Source.len c.args.media.now)) d w parts c.args.build.now.message
    c.in-Ok-new_store.store (λ text. (g.met.H.Hashing.is_digest (new_alg d) text).sized) c.in-Ok.ensures.parts
    c.requires.fits.filled c.requires.fits.small made

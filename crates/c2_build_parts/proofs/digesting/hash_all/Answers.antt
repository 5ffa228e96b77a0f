use Rattle.std.proofs.Common.{◌≡◌, length, [], sym, ap, ◌∙◌}
use Rattle.c2_build_parts.proofs.Pieces.{whole_piece}
use Rattle.c2_build_parts.proofs.digesting.hash_all.Goals as goal

-- what the state has taken is the file
pub returns-clause-digest : goal.returns-clause-digest
returns-clause-digest g c = λ file known.
    let len : length file ≡ g.S.Source.len c.args.source.now = g.met.S.Source.known_len c.args.source.now file known in
    let taken = c.in_ok-hash_piece.ensures.taken c.args.alg [] c.start-state.ensures in
    c.finish.ensures c.args.alg taken.0 taken.1
    ∙ ap (g.H.Hashing.digest_of c.args.alg)
    (whole_piece c.args.size file taken.0 (c.requires.size ∙ sym len) (taken.2 file known))

-- the digest of whatever the state has taken has the algorithm's length
pub returns-clause-len : goal.returns-clause-len
returns-clause-len g c =
    let taken = c.in_ok-hash_piece.ensures.taken c.args.alg [] c.start-state.ensures in
    ap length (c.finish.ensures c.args.alg taken.0 taken.1) ∙ (g.met.H.Hashing.is_digest c.args.alg taken.0).sized

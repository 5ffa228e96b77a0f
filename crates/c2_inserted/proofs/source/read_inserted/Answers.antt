use Rattle.std.proofs.Common.{◌≡◌, ◌∙◌, ℕ, ◌+◌, ◌-◌, ◌≤◌, List, ◌++◌, ap, arith, drop, length, take}
use Rattle.std.proofs.lemmas.List.{length-take}
use Rattle.c2_inserted.proofs.PutLemmas.{part_of}
use Rattle.c2_inserted.proofs.Reading.{reads_before, reads_behind, reads_within}
use Rattle.c2_inserted.proofs.source.read_inserted.Goals as goal

-- before the piece, into the first places of the buffer
pub returns-then-pos-place-clause-bytes : goal.returns-then-pos-place-clause-bytes
returns-then-pos-place-clause-bytes g c =
    let room : ℕ = c.min-room.result in
    let n : ℕ = c.in_ok-count.count in
    let few : n ≤ length (take room c.args.buf.now) = c.in_ok-count.ensures.count.in_room in
    let before : n + c.args.pos ≤ c.args.place =
    omega (arith, c.min-room.ensures, c.if-pos-place.true, few, length-take room c.args.buf.now) in
    reads_before c.args.place c.args.pos n room (g.S.Source.len c.args.base.now) c.args.piece.now
    (g.S.Source.known c.args.base.now) c.args.buf.now c.read_at.new.buf
    (g.met.S.Source.known_len c.args.base.now) c.requires.inside before few c.in_ok-count.ensures.bytes

-- in it
pub returns-then-pos-place-2-clause-bytes : goal.returns-then-pos-place-2-clause-bytes
returns-then-pos-place-2-clause-bytes g c =
    let k : ℕ = c.args.pos - c.args.place in
    let m : ℕ = length c.args.piece.now - k in
    let n : ℕ = c.min-count.result in
    let fit : n ≤ m = omega (arith, c.min-count.ensures, length-take m (drop k c.args.piece.now)) in
    let is : c.copy_from_slice.new.self ≡ take n (drop k c.args.piece.now) =
    c.copy_from_slice.ensures.after ∙ part_of n 0 m (drop k c.args.piece.now) (omega (arith, fit)) in
    let within : n + k ≤ length c.args.piece.now = omega (arith, fit, c.if-pos-place.false, c.if-pos-place-2.true) in
    λ x e. ap (λ (xs : List ℕ). xs ++ drop n c.args.buf.now) is
    ∙ reads_within c.args.place c.args.pos n (g.S.Source.len c.args.base.now) c.args.piece.now
    (g.S.Source.known c.args.base.now) c.args.buf.now
    (g.met.S.Source.known_len c.args.base.now) c.requires.inside c.if-pos-place.false within x e

-- behind it
pub returns-clause-bytes : goal.returns-clause-bytes
returns-clause-bytes g c =
    reads_behind c.args.place c.args.pos c.in_ok-count-2.count (g.S.Source.len c.args.base.now) c.args.piece.now
    (g.S.Source.known c.args.base.now) c.args.buf.now c.read_at-2.new.buf
    (g.met.S.Source.known_len c.args.base.now) c.requires.inside (omega (arith, c.if-pos-place-2.false))
    c.in_ok-count-2.ensures.bytes

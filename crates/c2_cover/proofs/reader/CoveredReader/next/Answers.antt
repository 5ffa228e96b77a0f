use Rattle.std.proofs.Common.{◌≡◌, ◌≤◌, ◌<◌, ◌-◌, ◌+◌, ◌^◌, ◌∙◌, min, sym, ap, subst, length, arith, ◌++◌, drop}
use Rattle.std.proofs.lemmas.Grind.{common_steps}
use Rattle.c2_cover.specs.Covers.{Reading, AreMerged, ReadsNext}
use Rattle.c2_cover.specs.Stretches.{due_of, range_place, reading, offset_place}
use Rattle.c2_cover.specs.BoxOffsets.{AreBoxOffsets}
use Rattle.c2_cover.proofs.StretchLemmas.{UpTo, due_none, given_next, prefix_filled, ready_stays, stretch_next, up_to}
use Rattle.c2_cover.proofs.reader.CoveredReader.next.Goals as goal

-- where a box offset is begun, the reader's place is one that it may have
pub invariant_of-self : goal.invariant_of-self
invariant_of-self g c =
    let place = c.ready-place.result in
    let stays =
    ready_stays c.args.self.now place.at place.start place.done place.ranges_left.now place.offsets.now
    c.ready-place.ensures in
    subst
    (λ size. (place.at ≤ size) × AreMerged size place.at place.ranges_left.now × AreBoxOffsets size place.ranges_left.now place.at place.offsets.now × (c.self.inside.size < 2 ^ 64))
    (ap (λ (v : Reading). v.size) (sym c.self.view_is)) (stays.0, stays.1, stays.2, c.self.invariant.3)

-- the buffer begins with the next bytes of the box offset
pub returns-then-place-lt-WORD_LEN-clause-piece : goal.returns-then-place-lt-WORD_LEN-clause-piece
returns-then-place-lt-WORD_LEN-clause-piece g c =
    let place = c.ready-place.result in
    let n = c.give-given.result in
    subst
    (λ size. ReadsNext (g.S.Source.known c.args.source.now) c.args.self.now (reading size place.at place.ranges_left.now place.offsets.now place.start (place.done + n)) c.give-given.new.buf n)
    (ap (λ (v : Reading). v.size) (sym c.self.view_is))
    (given_next (g.S.Source.known c.args.source.now) c.args.self.now place.at place.start place.done n place.ranges_left.now place.offsets.now c.args.buf.now c.give-given.new.buf
    (λ file known. g.met.S.Source.known_len c.args.source.now file known ∙ c.requires.size) c.ready-place.ensures c.give-given.ensures c.requires.room)

-- the buffer begins with the next piece of the file, which is empty only at the end
pub returns-clause-piece : goal.returns-clause-piece
returns-clause-piece g c =
    let place = c.ready-place.result in
    let n = c.min-count.result in
    let old = c.args.self.now in
    let end = c.stretch_end-end.result in
    let size : c.self.inside.size ≡ old.size = ap (λ (v : Reading). v.size) c.self.view_is in
    let none : length (due_of place.start place.done) ≡ 0 =
    ap length (due_none place.start place.done c.if-place-lt-WORD_LEN.false) in
    let last : end ≡ min (range_place old.size place.ranges_left.now) (offset_place old.size place.offsets.now) =
    c.stretch_end-end.ensures
    ∙ ap (λ k. min (range_place k place.ranges_left.now) (offset_place k place.offsets.now)) size in
    let up : UpTo old.size place.at end place.ranges_left.now place.offsets.now =
    up_to old.size place.at end place.ranges_left.now place.offsets.now c.ready-place.ensures.inside
    c.ready-place.ensures.merged (c.ready-place.ensures.later none) last in
    let small : n ≤ end - place.at = grind (arith, common_steps) in
    let count : length c.fill_at.new.buf ≡ n = grind (arith, common_steps) in
    let buf = c.fill_at.new.buf ++ drop n c.args.buf.now in
    let room : n ≤ length (c.fill_at.new.buf ++ drop n c.args.buf.now) = grind (arith, common_steps) in
    subst
    (λ k. ReadsNext (g.S.Source.known c.args.source.now) old (reading k (place.at + n) place.ranges_left.now place.offsets.now place.start place.done) buf n)
    (sym size)
    (stretch_next (g.S.Source.known c.args.source.now) old place.at place.start place.done end n place.ranges_left.now place.offsets.now buf
    (λ file known. g.met.S.Source.known_len c.args.source.now file known ∙ c.requires.size) c.ready-place.ensures none
    up small room
    (λ z. grind (arith, common_steps, z, up.ordered))
    (λ file known. prefix_filled _ _ _ n count (c.in_ok-fill_at.ensures.filled file known)))

use Rattle.std.proofs.Common.{◌≡◌, ◌<◌, List, ℕ, length}
use Rattle.std.specs.Option.{ForSome}
use Rattle.c2_base.specs.Source.{StaysSource}
use Rattle.c2_cover.specs.Covers.{text_of, rest_of, left_of}
use Rattle.c2_cover.specs.Digests.{IsHashed}
use Rattle.c2_cover.proofs.digest.digest_cover.Given as goal

-- the state stands for the pieces read so far, the reader for the rest, and the source hasn't failed; whatever the source tells, the state
-- stands for some list
abbrev pub invariant-pieces : goal.invariant-pieces
invariant-pieces g l = record {
  room : 0 < length l.buf;
  size : g.S.Source.len l.fn.source ≡ l.reader.size;
  stays : StaysSource g.S.Source.len g.S.Source.known g.S.Source.faults l.fn.source l.source;
  count : g.S.Source.faults l.source ≡ g.S.Source.faults l.fn.source;
  held : (list : List ℕ) × g.H.Hashing.holds l.state l.fn.alg list;
  hashed : ForSome (g.S.Source.known l.fn.source) (λ file. IsHashed g.H.Hashing.holds l.fn.alg (text_of l.cover file) (rest_of l.reader file) l.state);
}

-- the bytes of the covered text that are still to come, which get fewer with each piece
abbrev pub decreases-pieces : goal.decreases-pieces
decreases-pieces g l = left_of l.reader

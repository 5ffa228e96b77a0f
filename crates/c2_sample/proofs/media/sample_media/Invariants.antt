use Rattle.std.proofs.Common.{◌≡◌}
use Rattle.c2_sample.proofs.Making.{media_begun}
use Rattle.c2_sample.proofs.media.sample_media.Given as goal

-- the media has its first pieces so far
abbrev pub invariant-loop-i : goal.invariant-loop-i
invariant-loop-i l = record { so_far : l.bytes.items ≡ media_begun l.i }

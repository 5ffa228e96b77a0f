use Rattle.std.proofs.Common.{arith}
use Rattle.c2_jpegseg_segments.proofs.WindowLemmas.{shown_byte}
use Rattle.c2_jpegseg.proofs.peek.PeekBytes.byte_at.Goals as goal

pub returns-clause-byte : goal.returns-clause-byte
returns-clause-byte g c file known =
    let shows = c.in_ok-load.ensures.shows in
    let has = c.in_ok-load.ensures.has in
    shown_byte file _ _ _ _ (shows.bytes file known) has.from (omega (arith, has.to))

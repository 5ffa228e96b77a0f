use Rattle.std.proofs.Common.{◌∙◌, ap, get_or, ◌-◌}
use Rattle.c2_jpegseg_segments.proofs.WindowLemmas.{shown_byte}
use Rattle.c2_jpegseg_segments.proofs.window.WindowBytes.byte_at.Goals as goal

pub returns-clause-byte : goal.returns-clause-byte
returns-clause-byte g c file known =
    let shows = c.in_ok-load.ensures.shows in
    let covers = c.in_ok-load.ensures.covers in
    ap (λ b. get_or b (c.args.pos - c.load.new.self.from) 0) c.as_slice-bytes.ensures.value
    ∙ shown_byte file _ _ _ _ (shows.bytes file known) covers.from covers.to

use Rattle.std.proofs.Common.{◌∙◌, subst, refl}
use Rattle.c2_jpegseg_segments.specs.Packets.{Reads, bare}
use Rattle.c2_jpegseg_segments.proofs.WindowLemmas.{shown}
use Rattle.c2_jpegseg_segments.proofs.loading.packet_at.Goals as goal

pub returns-clause-packet : goal.returns-clause-packet
returns-clause-packet c = λ file shows.
    let covers = c.requires.covers c.if-extent-ne-APP11.false in
    subst (λ p. Reads (bare c.args.extent.marker p) c.packet_in.result)
    (c.slice-payload.ensures ∙ shown file _ _ _ _ _ (shows.bytes file refl) covers.from covers.to)
    c.packet_in.ensures.reads

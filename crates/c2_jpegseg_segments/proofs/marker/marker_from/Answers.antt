use Rattle.std.proofs.Common.{length, ◌≡◌, ◌∙◌, sym, arith}
use Rattle.c2_jpegseg_segments.proofs.Markers.{fill_more}
use Rattle.c2_jpegseg_segments.proofs.WindowLemmas.{shows_same}
use Rattle.c2_jpegseg_segments.proofs.marker.marker_from.Goals as goal

pub loop-place-preserved : goal.loop-place-preserved
loop-place-preserved g c =
    let before = c.loop-place.invariant in
    let call = c.in_ok-code.ensures in
    record {
      stays =
          record
          { same_len = call.stays.same_len ∙ before.stays.same_len; same_bytes = call.stays.same_bytes ∙ before.stays.same_bytes; later = omega (arith, call.stays.later, before.stays.later) };
      count = call.cause.ok ∙ before.count;
      shows = shows_same g.W.Bytes.shows _ _ _ _ _ before.stays.same_len before.stays.same_bytes call.shows;
      fill = λ file known.
          let size : length file ≡ g.S.Source.len c.args.source.now =
          g.met.S.Source.known_len c.args.source.now file known in
          fill_more file c.args.at c.loop-place.place (omega arith) (omega arith) (sym (call.byte file (before.stays.same_bytes ∙ known)) ∙ cc) (before.fill file known);
    }

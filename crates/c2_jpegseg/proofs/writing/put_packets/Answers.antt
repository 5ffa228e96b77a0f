use Rattle.std.proofs.Common.{◌≡◌, ◌+◌, ◌-◌, length, take, drop, ap, ◌∙◌, sym, refl, [], arith}
use Rattle.std.proofs.lemmas.Result.{err_from_is_err_and}
use Rattle.std.proofs.lemmas.List.{take_all, length-take-le, length-drop}
use Rattle.std.specs.List.{flat_map}
use Rattle.c2_spec.specs.Jpeg.Segments.{segment_bytes}
use Rattle.c2_spec.specs.Jpeg.Writing.{packets_from, packet_count}
use Rattle.c2_jpegseg.proofs.Appending.{nothing, same, packet_step, between-next, between-stops, between-done}
use Rattle.c2_jpegseg.proofs.writing.put_packets.Goals as goal

pub packets-init : goal.packets-init
packets-init g c =
    let count : c.packet_count-count.result ≡ packet_count (length c.args.store.now) = c.packet_count-count.ensures in
    let behind = drop 8 c.args.store.now in
    let back : take (length c.args.store.now - 8) behind ≡ behind =
    take_all _ _ (omega (arith, length-drop 8 c.args.store.now)) in
    let one : c.packet_count-count.result + 1 - 1 ≡ packet_count (length c.args.store.now) = omega (arith, count) in
    record {
      some = omega arith;
      most = omega arith;
      few = omega (arith, count, c.requires.least, c.requires.most);
      header = length-take-le 8 c.args.store.now (omega (arith, c.requires.least));
      between = record {
        front = [];
        split = ap (λ k. flat_map segment_bytes (packets_from (take 8 c.args.store.now) c.args.en k 1
            (take (length c.args.store.now - 8) behind))) one
            ∙ ap (λ b. flat_map segment_bytes (packets_from (take 8 c.args.store.now) c.args.en
            (packet_count (length c.args.store.now)) 1 b)) back;
        appended = nothing g.K.Sink.written g.K.Sink.spare g.K.Sink.finished g.K.Sink.faults c.args.sink.now tt;
      };
    }

pub returns-in_err-put_packet : goal.returns-in_err-put_packet
returns-in_err-put_packet g c =
    let before = c.packets.invariant in
    let p = err_from_is_err_and c.from_residual.result c.from_residual.ensures.1 in
    let next = packet_step (take 8 c.args.store.now) c.packets.body.now (drop c.min-len.result c.packets.body.now)
    c.args.en c.packets.z (c.packet_count-count.result + 1 - c.packets.z) (c.packet_count-count.result - c.packets.z)
    c.min-len.result c.min-len.ensures (omega arith) refl in
    same g.K.Sink.written g.K.Sink.spare g.K.Sink.finished g.K.Sink.faults _ _ _ _ _ _ refl (sym p.1)
    (between-stops g.K.Sink.written g.K.Sink.spare g.K.Sink.finished g.K.Sink.faults _ _ _ _ _ _ _ _ _ before.between
    next c.in_err-put_packet.ensures)

pub packets-preserved : goal.packets-preserved
packets-preserved g c =
    let before = c.packets.invariant in
    let len = c.min-len.result in
    let body = c.packets.body.now in
    let rest = take_all (length body - len) (drop len body) (omega (arith, length-drop len body)) in
    let next = packet_step (take 8 c.args.store.now) body (take (length body - len) (drop len body))
    c.args.en c.packets.z (c.packet_count-count.result + 1 - c.packets.z)
    (c.packet_count-count.result + 1 - (c.packets.z + 1)) len c.min-len.ensures (omega arith) rest in
    record {
      some = omega arith;
      most = omega arith;
      few = before.few;
      header = before.header;
      between = between-next g.K.Sink.written g.K.Sink.spare g.K.Sink.finished g.K.Sink.faults _ _ _ _ _ _ _ _
          before.between next c.in_ok-put_packet.ensures;
    }

pub returns : goal.returns
returns g c =
    let before = c.packets.invariant in
    let none : c.packet_count-count.result + 1 - c.packets.z ≡ 0 = omega arith in
    between-done g.K.Sink.written g.K.Sink.spare g.K.Sink.finished g.K.Sink.faults _ _ _ _ before.between
    (ap (λ k. flat_map segment_bytes (packets_from (take 8 c.args.store.now) c.args.en k c.packets.z c.packets.body.now))
    none)

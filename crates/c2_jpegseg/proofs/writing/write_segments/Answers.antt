use Rattle.std.proofs.Common.{arith, ◌≡◌, length}
use Rattle.c2_spec.specs.Jpeg.Writing.{IsPacketStore, packets_bytes, segments_len}
use Rattle.c2_jpegseg.proofs.WrittenRuns.{store_len}
use Rattle.c2_jpegseg.proofs.writing.write_segments.Goals as goal

pub returns-clause-within : goal.returns-clause-within
returns-clause-within g c s is fits =
    let store : IsPacketStore c.args.store.now =
    record
    { sized = c.requires.sized; lbox = c.requires.lbox; tbox = c.requires.tbox; described = c.requires.described; of_c2pa = c.requires.of_c2pa } in
    let size : length (packets_bytes c.args.store.now c.args.en) ≡ segments_len (length c.args.store.now) =
    store_len c.args.store.now c.args.en store in
    c.put_packets.ensures.within s is (omega (arith, size, fits))

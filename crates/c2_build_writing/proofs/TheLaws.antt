-- The laws of this crate, for the proofs of the crates above it.
use Rattle.std.proofs.Common.{ℕ, ◌≤◌, List, length, arith}
use Rattle.c2_spec.specs.Jpeg.Writing.{IsPacketStore}
use Rattle.c2_spec.proofs.BmffShared.{c2pa_box_length}
use Rattle.c2_jpegseg.proofs.WrittenRuns.{store_len}
use Rattle.c2_build_refusals.specs.declared.types.Put.{Put}
use Rattle.c2_build_writing.specs.Puts.{most_put, put_of}

-- of no store more is put in than the packets of the longest take
pub put_most : (put : Put) (store : List ℕ) → IsPacketStore store → length (put_of put store) ≤ most_put
put_most (Put.Packets en) store h = omega (arith, store_len store en h, h.sized.most)
put_most Put.Box store h = omega (arith, c2pa_box_length store, h.sized.most)

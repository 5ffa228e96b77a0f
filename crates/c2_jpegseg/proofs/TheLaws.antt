-- The laws of this crate, for the proofs of the crates above it.
use Rattle.c2_jpegseg.proofs.WrittenRuns.{packets_legal, store_len}
use Rattle.c2_jpegseg.proofs.WrittenStores.{packets_hold}
use Rattle.c2_jpegseg.specs.Laws.{PacketsHoldTheStore}
use Rattle.std.proofs.Common.{arith}

-- the packets of a store that is written are a run with this store, wherever they stand among segments that begin none and, behind them, don't have their number
pub packets_hold_the_store : PacketsHoldTheStore
packets_hold_the_store = λ store en before after written fits no_before no_after free. record {
  legal = packets_legal store en written (omega arith);
  holds = packets_hold store en before after written (omega arith) no_before no_after free;
  size = store_len store en written;
}

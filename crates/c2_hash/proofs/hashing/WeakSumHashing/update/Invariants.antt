use Rattle.std.proofs.Common.{◌≡◌, ◌+◌, ◌%◌, ◌^◌, take, sum}
use Rattle.c2_hash.proofs.hashing.WeakSumHashing.update.Given as goal

-- the sum so far, of the bytes before the loop and those that it has taken in
abbrev pub invariant-bytes : goal.invariant-bytes
invariant-bytes l = l.sum ≡ (l.initial.sum + sum (take l.byte-index l.bytes)) % 2 ^ 8

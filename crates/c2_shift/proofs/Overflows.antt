-- The first place that doesn't fit.
use Rattle.std.proofs.Common.{◌≡◌, ◌∙◌, ℕ, List, ◌++◌, ap}
use Rattle.c2_bmff_chunks.specs.declared.table.ShiftError.{ShiftError}
use Rattle.c2_bmff_chunks.specs.declared.table.ShiftError.TheVariants.{OffsetTable, BadTree, BadTable, Overflow, ReadFault, NoMemory}
use Rattle.c2_shift.specs.Causes.{IsFirstOverflow}

-- the first of some places is the first with others behind them
pub first_stays : (xs ys all : List ℕ) (e : ShiftError) → all ≡ xs ++ ys → IsFirstOverflow xs e → IsFirstOverflow all e
first_stays xs ys all (Overflow at) same h =
    record { others = h.others ++ ys; first = same ∙ ap (λ (zs : List ℕ). zs ++ ys) h.first }
first_stays xs ys all ReadFault same h = tt
first_stays xs ys all NoMemory same h = absurd h
first_stays xs ys all (OffsetTable at) same h = absurd h
first_stays xs ys all (BadTree at) same h = absurd h
first_stays xs ys all (BadTable at) same h = absurd h

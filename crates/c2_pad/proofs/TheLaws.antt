-- The laws of this crate, for the proofs of the crates above it.
use Rattle.c2_pad.proofs.Exact.{exact, two_where_needed}
use Rattle.c2_pad.specs.Fill.{FillsAreExact, TwoOnlyWhereNeeded}

-- each fill costs what is needed, and the needs without one are those below the shortest entry's length and above the limit
pub fills_are_exact : FillsAreExact
fills_are_exact = exact

-- the second entry is there only where no number of zero bytes in the first costs what is needed
pub two_entries_only_where_one_is_not_enough : TwoOnlyWhereNeeded
two_entries_only_where_one_is_not_enough = two_where_needed

-- The laws of this crate, for the proofs of the crates above it.
use Rattle.c2_judge.proofs.EachFile.{each_file, one_list}
use Rattle.c2_judge.proofs.OneReading.{apart, one_place}
use Rattle.c2_spec.specs.Judges.VerdictFile.{HasBadLine, HasRows}
use Rattle.std.specs.Prelude.{List, ℕ, ◌≡◌, ◌⊎◌}
use Rattle.c2_spec.specs.declared.panel.VerdictRow as row

-- each file has rows or a first bad line, never both, and never two of either
pub each_file_is_read_one_way_some : (file : List ℕ)
    → ((rows : List row.VerdictRow) × HasRows rows file) ⊎ ((n : ℕ) × HasBadLine n file)
each_file_is_read_one_way_some = each_file

-- each file has rows or a first bad line, never both, and never two of either
pub each_file_is_read_one_way_apart : (file : List ℕ) (rows : List row.VerdictRow) (n : ℕ) → HasRows rows file
    → HasBadLine n file → ⊥
each_file_is_read_one_way_apart = λ file rows n has bad. apart n file rows has bad

-- each file has rows or a first bad line, never both, and never two of either
pub each_file_is_read_one_way_one_list : (file : List ℕ) (rows others : List row.VerdictRow) → HasRows rows file
    → HasRows others file → rows ≡ others
each_file_is_read_one_way_one_list = one_list

-- each file has rows or a first bad line, never both, and never two of either
pub each_file_is_read_one_way_one_line : (file : List ℕ) (m n : ℕ) → HasBadLine m file → HasBadLine n file → m ≡ n
each_file_is_read_one_way_one_line = one_place

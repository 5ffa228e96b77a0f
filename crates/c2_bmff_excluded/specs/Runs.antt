-- Byte tests joined into runs of bytes.
use Rattle.std.specs.Prelude.{◌≡◌, ℕ, ◌+◌, ◌-◌, ◌≤◌, Bool, false, ◌&&◌, List, [], ◌∷◌, length, take, drop, get_or, map, All, Option, Some, None}
use Rattle.std.specs.List.{list_all}
use Rattle.c2_spec.specs.Bmff.Hash.{ByteTest}
use Rattle.c2_bmff_excluded.specs.Marks.{holds_test}
use Rattle.c2_bmff_rows.specs.declared.row.RootBox.{RootBox}
use Rattle.c2_bmff_excluded.specs.declared.runs.Key.{Key}
use Rattle.c2_bmff_excluded.specs.declared.runs.Last.{Last}
use Rattle.c2_bmff_excluded.specs.declared.runs.Run.{Run}
use Rattle.c2_bmff_excluded.specs.declared.runs.Runs.{Runs}

-- the same boxes, of all files, meet all of these tests and all of those
abbrev pub MeetAlike : List ByteTest → List ByteTest → Type 0
MeetAlike tests others = (file : List ℕ) (r : RootBox) → list_all (holds_test file r) tests ≡ list_all (holds_test file r) others

-- the byte test of a key, in a list of offsets and values
abbrev pub key_test : List (ℕ × List ℕ) → Key → ByteTest
key_test tests key = record { offset = key.offset; value = (get_or tests key.index (0, [])).1 }

-- a key is of a test of so many
abbrev pub IsKeyWithin : ℕ → Key → Type 0
IsKeyWithin n key = key.index + 1 ≤ n

-- a run as a byte test, by the bytes of all runs
abbrev pub run_test : List ℕ → Run → ByteTest
run_test bytes run = record { offset = run.offset; value = take (run.end - run.start) (drop run.start bytes) }

-- a run's bytes are among so many
abbrev pub IsRunWithin : ℕ → Run → Type 0
IsRunWithin n run = (run.start ≤ run.end) × (run.end ≤ n)

-- the last run, which ends with the bytes of all runs, as a byte test
abbrev pub last_test : List ℕ → Last → ByteTest
last_test bytes last = record { offset = last.offset; value = drop last.start bytes }

-- the last run begins among so many bytes or at their end
abbrev pub IsLastWithin : ℕ → Last → Type 0
IsLastWithin n last = last.start ≤ n

-- a box meets these runs and the last one
abbrev pub holds_last : List ℕ → RootBox → List ℕ → List Run → Last → Bool
holds_last file r bytes runs last = holds_test file r (last_test bytes last) && list_all (holds_test file r) (map (run_test bytes) runs)

-- a box meets these runs and the last one; without a last one no box does
abbrev pub holds_next : List ℕ → RootBox → List ℕ → List Run → Option Last → Bool
holds_next file r bytes runs None = false
holds_next file r bytes runs (Some last) = holds_last file r bytes runs last

-- a box meets the run from `start` to the end of the new bytes just when it meets that to the end of the old ones, and the value
-- stands `from` bytes after its offset
abbrev pub Join : ℕ → ℕ → List ℕ → List ℕ → List ℕ → Type 0
Join start from value old new = (file : List ℕ) (r : RootBox) (offset : ℕ) → holds_test file r (record { offset = offset; value = drop start new }) ≡ (holds_test file r (record { offset = offset; value = drop start old }) && holds_test file r (record { offset = offset + from; value = value }))

-- no box meets both
abbrev pub Differ : ℕ → ℕ → List ℕ → List ℕ → Type 0
Differ start from value old = (file : List ℕ) (r : RootBox) (offset : ℕ) → (holds_test file r (record { offset = offset; value = drop start old }) && holds_test file r (record { offset = offset + from; value = value })) ≡ false

-- a byte test that only asks for a length
abbrev pub least_test : ℕ → ByteTest
least_test n = record { offset = n; value = [] }

-- two byte tests that ask for different bytes at one place, so that no box meets both
abbrev pub no_box : List ByteTest
no_box = (record { offset = 0; value = 0 ∷ [] }) ∷ (record { offset = 0; value = 1 ∷ [] }) ∷ []

-- what is asked of a box, as byte tests
abbrev pub asked : Option Runs → List ByteTest
asked None = no_box
asked (Some t) = least_test t.least ∷ map (run_test t.bytes.items) t.runs.items

-- the runs are among the bytes
abbrev pub AreRunsWithin : Runs → Type 0
AreRunsWithin t = All (IsRunWithin (length t.bytes.items)) t.runs.items

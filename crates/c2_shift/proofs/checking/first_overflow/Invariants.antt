use Rattle.std.proofs.Common.{◌≡◌, ◌+◌, List, ℕ, length}
use Rattle.c2_bmff_chunks.specs.Fields.{fields_from, places_of}
use Rattle.c2_bmff_chunks.specs.Tables.{fields_len}
use Rattle.c2_shift.specs.Parts.{IsAsRead}
use Rattle.c2_shift.proofs.checking.first_overflow.Given as goal

-- the fields that are left are the last of these bytes, and those before them fit
abbrev pub invariant-fields : goal.invariant-fields
invariant-fields l = record {
  ends : l.done + fields_len l.wide l.left ≡ length l.bytes;
  places : (file : List ℕ) → IsAsRead file l.pos l.pos l.bytes
      → places_of l.shift.from l.shift.by file (fields_from l.wide l.pos l.fn.count) ≡ places_of l.shift.from l.shift.by file (fields_from l.wide (l.pos + l.done) l.left);
}

-- the fields that are left
abbrev pub decreases-fields : goal.decreases-fields
decreases-fields l = l.left

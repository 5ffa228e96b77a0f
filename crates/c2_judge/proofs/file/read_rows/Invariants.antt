use Rattle.std.proofs.Common.{◌≤◌, ◌+◌, List, length}
use Rattle.c2_spec.specs.declared.panel.VerdictRow.{VerdictRow}
use Rattle.c2_judge.specs.Reading.{Progress}
use Rattle.c2_judge.proofs.file.read_rows.Given as goal

abbrev pub invariant-lines : goal.invariant-lines
invariant-lines l = record {
  room : l.number + length l.rest ≤ length l.bytes;
  read : (rows : List VerdictRow) × Progress rows l.bytes l.rest l.number l.verdicts;
}

abbrev pub decreases-lines : goal.decreases-lines
decreases-lines l = length l.rest

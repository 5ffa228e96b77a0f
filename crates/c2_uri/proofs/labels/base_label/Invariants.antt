use Rattle.std.proofs.Common.{◌≡◌, ◌++◌, take, drop}
use Rattle.c2_spec.specs.C2pa.Uri.{base_of}
use Rattle.c2_uri.proofs.labels.base_label.Given as goal

abbrev pub invariant-loop-i : goal.invariant-loop-i
invariant-loop-i l = take l.i l.bytes ++ base_of (drop l.i l.bytes) ≡ base_of l.bytes

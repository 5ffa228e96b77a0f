use Rattle.std.proofs.Common.{take}
use Rattle.c2_read_manifests.specs.Redacted.{AddsTexts}
use Rattle.c2_read_manifests.proofs.redacted.redact_texts.Given as goal

-- since the start, what the first `k` redactions redact came in
abbrev pub invariant-loop-k : goal.invariant-loop-k
invariant-loop-k l = AddsTexts l.all l.n l.initial.sets l.sets (take l.k l.texts)

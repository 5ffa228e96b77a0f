use Rattle.std.proofs.Common.{◌≡◌, ◌++◌, string_bytes}
use Rattle.c2_compare_spec.specs.EvidenceText.{printed}
use Rattle.c2_texts.proofs.control.push_printable.Given as goal

-- what is written so far and the printable rest are the printable text behind the text of the start
abbrev pub invariant-loop-c : goal.invariant-loop-c
invariant-loop-c l = string_bytes l.out ++ printed l.c-iterator.rest.now ≡ string_bytes l.initial.out ++ printed l.text

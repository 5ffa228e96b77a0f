use Rattle.std.proofs.Common.{◌≡◌, ◌++◌, drop, string_bytes}
use Rattle.hex.specs.Hex.{encode_lower}
use Rattle.c2_texts.proofs.tree.push_hex.Given as goal

-- what is written so far and the digits to come are all digits behind the text of the start
abbrev pub invariant-loop-byte : goal.invariant-loop-byte
invariant-loop-byte l =
    string_bytes l.text ++ encode_lower (drop l.byte-index l.bytes) ≡ string_bytes l.initial.text ++ encode_lower
    l.bytes

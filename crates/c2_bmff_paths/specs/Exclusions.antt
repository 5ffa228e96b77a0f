-- What is kept of a byte test.
use Rattle.std.specs.Prelude.{ℕ, List}
use Rattle.c2_spec.specs.Bmff.Hash.{ByteTest}

-- a byte test of its offset and its bytes
abbrev pub byte_test : ℕ × List ℕ → ByteTest
byte_test p = record { offset = p.0; value = p.1 }

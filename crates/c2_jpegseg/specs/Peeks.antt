-- What a peek knows of its source, for private clauses.
use Rattle.std.specs.Prelude.{◌≡◌, ℕ, ◌+◌, ◌<◌, ◌≤◌, List, Option, take, drop, length}
use Rattle.std.specs.Option.{ForSome}
use Rattle.c2_jpegseg.specs.declared.peek.TheConstants.{PEEK_LEN}
use Rattle.c2_jpegseg.specs.declared.peek.Peek.{Peek}

-- the peek's bytes are the source's, where they are known
pub record Peeks (len : ℕ) (known : Option (List ℕ)) (p : Peek) : Type 0 where
  pub size : p.size ≡ len
  pub room : length p.bytes ≡ PEEK_LEN
  pub in_room : p.used ≤ PEEK_LEN
  pub inside : p.from + p.used ≤ len
  pub bytes : ForSome known (λ file. take p.used p.bytes ≡ take p.used (drop p.from file))

-- the peek has the byte at a place
pub record HasByte (p : Peek) (pos : ℕ) : Type 0 where
  pub from : p.from ≤ pos
  pub to : pos < p.from + p.used

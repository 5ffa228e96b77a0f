-- For private clauses: bytes of a covered text that were read and not used yet.
use Rattle.std.specs.Prelude.{◌≡◌, ℕ, ◌+◌, ◌-◌, ◌≤◌, List, [], ◌++◌, Option, length, take, drop}
use Rattle.std.specs.Option.{ForSome}
use Rattle.c2_cover.specs.Covers.{Reading, rest_of, left_of}
use Rattle.c2_cover.specs.declared.same.Pending.{Pending}

-- the pending bytes stand in a buffer of `len` bytes
pub record Lies (p : Pending) (len : ℕ) : Type 0 where
  pub ordered : p.from ≤ p.to
  pub inside : p.to ≤ len

-- the bytes that are still unread: those that are pending, then those that the reader has left
abbrev pub unread : Pending → List ℕ → Reading → List ℕ → List ℕ
unread p buf r file = take (p.to - p.from) (drop p.from buf) ++ rest_of r file

-- how many bytes are still unread: those that are pending, and those that the reader has left
abbrev pub unread_len : Pending → Reading → ℕ
unread_len p r = (p.to - p.from) + left_of r

-- The next piece was read where none was pending: what is unread is as it was, and none is pending only at the end.
pub record Refills (known : Option (List ℕ)) (old : Reading) (pending : Pending)
    (buf : List ℕ) (new : Reading) (now : List ℕ) (p : Pending) : Type 0 where
  pub lies : Lies p (length buf)
  pub same : ForSome known (λ file. unread p now new file ≡ unread pending buf old file)
  pub left : unread_len p new ≡ unread_len pending old
  pub end : p.from ≡ p.to → ForSome known (λ file. rest_of new file ≡ [])
  pub none : p.from ≡ p.to → left_of new ≡ 0

-- The message that fills what is reserved for it (C2PA Technical Specification 2.x, on signing a claim): the wanted message with its
-- tag, in deterministic bytes, and with as much padding as makes it just as long.
use Rattle.std.specs.Prelude.{◌≡◌, ◌⊎◌, ℕ, ◌-◌, ◌≤◌, List, length, Some}
use Rattle.c2_base.specs.declared.limits.TheConstants.{MAX_INPUT_LEN}
use Rattle.c2_spec.specs.Cbor.Item.{Pairs}
use Rattle.c2_spec.specs.C2pa.Message.{bare_bytes, padded_bytes, padded_read, CanBePadded}
use Rattle.c2_spec.specs.C2pa.Sign1.{SignParts, SpellsMessage}
use Rattle.c2_pad.specs.Fill.{fill_of, fill_pairs}
use Rattle.c2_pad.specs.declared.types.Fill.{Fill}
use Rattle.c2_pad.specs.declared.types.TheConstants.{MAX_FILL}
use Rattle.c2_new_signature.specs.Refusals.{reserve_needed}

-- The bytes that a message with these parts fills a reserve with: it fits without padding, the fill is that of the bytes that are
-- left, and what is written is as long as the reserve. It is read as the same message, with its header sorted and the fill's entries
-- in it: the protected header and the signature are the message's own.
pub record IsSigned (p : SignParts) (reserve : ℕ) (message : List ℕ) : Type 0 where
  pub fits : length (bare_bytes p) ≤ reserve
  pub fill : Fill
  pub wanted : fill_of (reserve - length (bare_bytes p)) ≡ Some fill
  pub written : message ≡ padded_bytes p (fill_pairs fill)
  pub filled : length message ≡ reserve
  pub spelled : SpellsMessage message (padded_read p (fill_pairs fill))

-- a message with these parts needs more bytes than are reserved
abbrev pub NeedsMore : SignParts → ℕ → Type 0
NeedsMore p reserve = (needed : ℕ) × (reserve_needed reserve (length (bare_bytes p)) ≡ Some needed)

-- a message with these parts, read of few enough bytes, which can be padded, and a reserve within the limit of padding
pub record IsPaddable (bytes : List ℕ) (p : SignParts) (reserve : ℕ) : Type 0 where
  pub spelled : SpellsMessage bytes p
  pub small : length bytes ≤ MAX_INPUT_LEN
  pub entries : Pairs
  pub can : CanBePadded p entries
  pub most : reserve ≤ MAX_FILL

-- A message fills a reserve in one way, or needs more bytes than are reserved, and never both.
pub record FillsOrNeedsMore : Type 0 where
  pub one : (p : SignParts) (reserve : ℕ) (a b : List ℕ) → IsSigned p reserve a → IsSigned p reserve b → a ≡ b
  pub never_both : (p : SignParts) (reserve : ℕ) (message : List ℕ) → IsSigned p reserve message → NeedsMore p reserve → ⊥
  pub either : (bytes : List ℕ) (p : SignParts) (reserve : ℕ) → IsPaddable bytes p reserve
      → ((message : List ℕ) × IsSigned p reserve message) ⊎ NeedsMore p reserve

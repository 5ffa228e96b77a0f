-- What padding does to a message: which length it gives, and what is read of it.
use Rattle.std.specs.Prelude.{◌≡◌, ℕ, ◌+◌, ◌^◌, ◌<◌, List, length}
use Rattle.c2_spec.specs.Cbor.Item.{Pairs}
use Rattle.c2_spec.specs.Cbor.Deterministic.{sorted}
use Rattle.c2_spec.specs.C2pa.Sign1.{SignParts, SpellsMessage}
use Rattle.c2_spec.specs.C2pa.Message.{bare_bytes, header_without_padding, padded_bytes, padded_read, CanBePadded}
use Rattle.c2_pad.specs.declared.types.Fill.{Fill}
use Rattle.c2_pad.specs.Fill.{fill_pairs, fill_cost}

-- padding makes the message longer by what the fill costs
abbrev pub PaddingAddsItsCost : Type 0
PaddingAddsItsCost = (p : SignParts) (entries : Pairs) (f : Fill) → CanBePadded p entries
    → length (padded_bytes p (fill_pairs f)) ≡ length (bare_bytes p) + fill_cost f

-- a message that was read of some bytes is read again where it is written with a fill
abbrev pub PaddedIsRead : Type 0
PaddedIsRead = (p : SignParts) (entries : Pairs) (f : Fill) (s : List ℕ) → CanBePadded p entries
    → SpellsMessage s p → length s + fill_cost f < 2 ^ 62
    → SpellsMessage (padded_bytes p (fill_pairs f)) (padded_read p (fill_pairs f))

-- but for padding, the header that is read of the padded message is that of the message, sorted
abbrev pub PaddingIsAllThatIsAdded : Type 0
PaddingIsAllThatIsAdded = (p : SignParts) (entries : Pairs) (f : Fill) → CanBePadded p entries
    → header_without_padding (padded_read p (fill_pairs f)).unprotected ≡ sorted p.unprotected

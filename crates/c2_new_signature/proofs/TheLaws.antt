-- The laws of this crate, for the proofs of the crates above it.
use Rattle.c2_new_signature.proofs.Decided.{accepted_or_refused}
use Rattle.c2_new_signature.proofs.SignedLaws.{either_way, not_both, one_signed}
use Rattle.c2_new_signature.proofs.Tests.{none_first, one_first, wanted_parts}
use Rattle.c2_new_signature.specs.Message.{AcceptedAreWanted, IsAccepted, IsRefused, IsWanted, Passes, RefusedForOne, message_tests, IsMessageRead}
use Rattle.c2_new_signature.specs.Signed.{FillsOrNeedsMore, IsPaddable}
use Rattle.c2_new_signature.specs.declared.error.SignaturePart.{SignaturePart}
use Rattle.c2_pad.specs.declared.types.TheConstants.{MAX_FILL}
use Rattle.c2_cbor_spec.proofs.PlainBack.{one_item}
use Rattle.c2_spec.proofs.OneMessage.{same_message}
use Rattle.c2_spec.specs.C2pa.Sign1.{SignParts, SpellsMessage}
use Rattle.std.proofs.Common.{All, Err, List, Ok, Result, ap, inl, inr, ℕ, ◌<◌, ◌^◌, ◌≡◌, ◌≤◌, ◌⊎◌}

-- a list of bytes is accepted as a message, or is refused for one test, and never both
pub each_message_is_accepted_or_refused_for_one_test : RefusedForOne
each_message_is_accepted_or_refused_for_one_test = record {
  one = λ protected bytes a b. one_first (Passes protected bytes) message_tests a b;
  none = λ protected bytes test. none_first (Passes protected bytes) message_tests test;
  either = accepted_or_refused;
}

-- the message that accepted bytes spell has the wanted protected header, and can be padded
pub accepted_messages_can_be_padded : AcceptedAreWanted
accepted_messages_can_be_padded = wanted_parts

-- a message that can be padded fills a reserve in one way, or needs more bytes than are reserved, and never both
pub a_message_fills_its_reserve_or_needs_more : FillsOrNeedsMore
a_message_fills_its_reserve_or_needs_more = record {
  one = one_signed;
  never_both = not_both;
  either = either_way;
}

-- a message is read as one thing: as its parts, where it is accepted, or as the test for which it is refused
pub one_message_read : (protected bytes : List ℕ) (m n : Result SignParts SignaturePart)
    → IsMessageRead protected bytes m
    → IsMessageRead protected bytes n → m ≡ n
one_message_read protected bytes (Ok p) (Ok q) h k =
    ap (λ (x : SignParts). Ok x) (same_message one_item bytes p q h.1 k.1)
one_message_read protected bytes (Ok p) (Err t) h k =
    absurd (each_message_is_accepted_or_refused_for_one_test.none protected bytes t k h.0)
one_message_read protected bytes (Err t) (Ok q) h k =
    absurd (each_message_is_accepted_or_refused_for_one_test.none protected bytes t h k.0)
one_message_read protected bytes (Err t) (Err u) h k =
    ap (λ (x : SignaturePart). Err x) (each_message_is_accepted_or_refused_for_one_test.one protected bytes t u h k)

-- each message is read as something
pub some_message_read : (protected bytes : List ℕ) → All (λ b. b < 2 ^ 8) bytes
    → (m : Result SignParts SignaturePart)
    × IsMessageRead protected bytes m
some_message_read protected bytes are = by (accepted_or_refused protected bytes are)
  where
    by : IsAccepted protected bytes ⊎ ((test : SignaturePart) × IsRefused protected bytes test)
        → (m : Result SignParts SignaturePart)
        × IsMessageRead protected bytes m
    by (inl a) = let form = a.1.0 in (Ok form.0, (a, form.1))
    by (inr r) = (Err r.0, r.1)

-- what accepted bytes spell can be padded to each reserve within the limit of padding
pub accepted_paddable : (protected bytes : List ℕ) (p : SignParts) (reserve : ℕ) → IsAccepted protected bytes
    → SpellsMessage bytes p → reserve ≤ MAX_FILL → IsPaddable bytes p reserve
accepted_paddable protected bytes p reserve accepted spelled most =
    let wanted : IsWanted protected p = wanted_parts protected bytes p accepted spelled in
    record { spelled = spelled; small = accepted.0; entries = wanted.entries; can = wanted.can; most = most }

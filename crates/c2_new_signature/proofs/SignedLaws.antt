-- A message fills a reserve in one way, or needs more bytes.
use Rattle.std.proofs.Common.{◌≡◌, ◌⊎◌, inl, inr, ℕ, ◌+◌, ◌-◌, ◌≤◌, Bool, true, false, List, length, Option, Some, None, refl, sym, ap, ◌∙◌, arith}
use Rattle.std.proofs.lemmas.Bool.{ltb-false, ltb-true}
use Rattle.std.specs.Prelude.{nat_lt}
use Rattle.c2_spec.specs.C2pa.Message.{bare_bytes, padded_bytes}
use Rattle.c2_spec.specs.C2pa.Sign1.{SignParts}
use Rattle.c2_pad.specs.Fill.{fill_of, fill_pairs}
use Rattle.c2_pad.specs.declared.types.Fill.{Fill}
use Rattle.c2_sigstruct.proofs.TheLaws.{padded_messages_are_read_longer, padded_messages_are_read_read}
use Rattle.c2_new_signature.specs.Refusals.{least_padding}
use Rattle.c2_new_signature.specs.Signed.{IsSigned, NeedsMore, IsPaddable}
use Rattle.c2_new_signature.proofs.Padded.{below_bare, enough, is_fill, unfilled, signed}

-- one message at most fills a reserve
pub one_signed : (p : SignParts) (reserve : ℕ) (a b : List ℕ) → IsSigned p reserve a → IsSigned p reserve b → a ≡ b
one_signed p reserve a b h k =
    let wanted = sym h.wanted ∙ k.wanted in
    let same : h.fill ≡ k.fill = cc wanted in
    h.written ∙ ap (λ (f : Fill). padded_bytes p (fill_pairs f)) same ∙ sym k.written

-- a message that fills a reserve needs no more bytes
pub not_both : (p : SignParts) (reserve : ℕ) (message : List ℕ) → IsSigned p reserve message
    → NeedsMore p reserve → ⊥
not_both p reserve message h more =
    let none =
    enough reserve (length (bare_bytes p)) h.fits
    (λ few. (is_fill (reserve - length (bare_bytes p)) h.fill h.wanted).some (inl few)) in
    let wrong = sym none ∙ more.1 in
    cc wrong

-- what fills a reserve, where there is a fill
filled : (s : List ℕ) (p : SignParts) (reserve : ℕ) (f : Fill)
    → IsPaddable s p reserve → length (bare_bytes p) ≤ reserve → fill_of (reserve - length (bare_bytes p)) ≡ Some f
    → IsSigned p reserve (padded_bytes p (fill_pairs f))
filled s p reserve f h fits wanted =
    let cost = (is_fill (reserve - length (bare_bytes p)) f wanted).cost in
    signed p reserve (length (bare_bytes p)) f (padded_bytes p (fill_pairs f)) refl fits wanted refl
    (padded_messages_are_read_longer p h.entries f h.can)
    (padded_messages_are_read_read p h.entries f s h.can h.spelled (omega (arith, cost, h.small, h.most)))

-- a message that fits fills the reserve, or needs more bytes
by_fill : (s : List ℕ) (p : SignParts) (reserve : ℕ) (o : Option Fill) → IsPaddable s p reserve
    → length (bare_bytes p) ≤ reserve → fill_of (reserve - length (bare_bytes p)) ≡ o
    → ((message : List ℕ) × IsSigned p reserve message) ⊎ NeedsMore p reserve
by_fill s p reserve (Some f) h fits wanted =
    inl (padded_bytes p (fill_pairs f), filled s p reserve f h fits wanted)
by_fill s p reserve None h fits wanted =
    inr (length (bare_bytes p) + least_padding, unfilled reserve (length (bare_bytes p)) h.most fits wanted)

-- a message fills the reserve, or needs more bytes, whether or not it fits
by_len : (s : List ℕ) (p : SignParts) (reserve : ℕ) (less : Bool)
    → nat_lt reserve (length (bare_bytes p)) ≡ less → IsPaddable s p reserve
    → ((message : List ℕ) × IsSigned p reserve message) ⊎ NeedsMore p reserve
by_len s p reserve true e h =
    inr (length (bare_bytes p), below_bare reserve (length (bare_bytes p)) (ltb-true reserve (length (bare_bytes p)) e))
by_len s p reserve false e h =
    by_fill s p reserve (fill_of (reserve - length (bare_bytes p))) h
    (ltb-false reserve (length (bare_bytes p)) e) refl

-- each message fills the reserve, or needs more bytes
pub either_way : (s : List ℕ) (p : SignParts) (reserve : ℕ)
    → IsPaddable s p reserve → ((message : List ℕ) × IsSigned p reserve message) ⊎ NeedsMore p reserve
either_way s p reserve h =
    by_len s p reserve (nat_lt reserve (length (bare_bytes p))) refl h

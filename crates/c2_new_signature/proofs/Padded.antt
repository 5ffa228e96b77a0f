-- The fill that is taken fills what is reserved.
use Rattle.std.proofs.Common.{◌≡◌, inl, inr, ℕ, ◌+◌, ◌-◌, ◌<◌, ◌≤◌, List, length, Option, Some, None, subst, arith}
use Rattle.std.proofs.lemmas.Bool.Decides.{nat_tests}
use Rattle.std.specs.Prelude.{MatchOption}
use Rattle.c2_spec.specs.C2pa.Message.{bare_bytes, padded_bytes, padded_read}
use Rattle.c2_spec.specs.C2pa.Sign1.{SignParts, SpellsMessage}
use Rattle.c2_pad.specs.Fill.{fill_of, fill_cost, fill_pairs, HasNoFill, IsFill}
use Rattle.c2_pad.specs.declared.types.Fill.{Fill}
use Rattle.c2_pad.specs.declared.types.TheConstants.{MAX_FILL}
use Rattle.c2_pad.proofs.TheLaws.{fills_are_exact}
use Rattle.c2_new_signature.specs.Refusals.{least_padding, reserve_needed}
use Rattle.c2_new_signature.specs.Signed.{IsSigned}

-- ---- the bytes that are needed

-- a reserve of fewer bytes than the message has needs these
pub below_bare : (reserve bare : ℕ) → reserve < bare → reserve_needed reserve bare ≡ Some bare
below_bare reserve bare less = grind (arith, nat_tests)

-- a reserve that leaves one to four bytes needs five
pub little_left : (reserve bare : ℕ) → bare < reserve → reserve < bare + least_padding
    → reserve_needed reserve bare ≡ Some (bare + least_padding)
little_left reserve bare more less = grind (arith, nat_tests)

-- one that leaves none, or five and more, is enough
pub enough : (reserve bare : ℕ) → bare ≤ reserve → ((1 ≤ reserve - bare) × (reserve - bare ≤ 4) → ⊥)
    → reserve_needed reserve bare ≡ None
enough reserve bare fits other = grind (arith, nat_tests)

-- ---- the fill of what is left

-- the fill of what is left costs what is left
pub is_fill : (need : ℕ) (f : Fill) → fill_of need ≡ Some f → IsFill need f
is_fill need f e = subst (λ (o : Option Fill). MatchOption o (HasNoFill need) (IsFill need)) e (fills_are_exact need)

-- without a fill, what is left is too little or too much
no_fill : (need : ℕ) → fill_of need ≡ None → HasNoFill need
no_fill need e = subst (λ (o : Option Fill). MatchOption o (HasNoFill need) (IsFill need)) e (fills_are_exact need)

-- where nothing fills what is left of a reserve within the limit, it needs as many bytes as leave the shortest padding
pub unfilled : (reserve bare : ℕ) → reserve ≤ MAX_FILL → bare ≤ reserve
    → fill_of (reserve - bare) ≡ None → reserve_needed reserve bare ≡ Some (bare + least_padding)
unfilled reserve bare most fits e = go (no_fill (reserve - bare) e)
  where
    go : HasNoFill (reserve - bare) → reserve_needed reserve bare ≡ Some (bare + least_padding)
    go (inl few) = little_left reserve bare (omega (arith, few.0)) (omega (arith, few.1))
    go (inr many) = absurd (omega arith)

-- the message with the fill of what is left fills the reserve
pub signed : (p : SignParts) (reserve bare : ℕ) (f : Fill) (message : List ℕ)
    → bare ≡ length (bare_bytes p) → bare ≤ reserve → fill_of (reserve - bare) ≡ Some f
    → message ≡ padded_bytes p (fill_pairs f) → length message ≡ length (bare_bytes p) + fill_cost f
    → SpellsMessage message (padded_read p (fill_pairs f)) → IsSigned p reserve message
signed p reserve bare f message is fits wanted written longer spelled = record {
  fits = subst (λ (n : ℕ). n ≤ reserve) is fits;
  fill = f;
  wanted = subst (λ (n : ℕ). fill_of (reserve - n) ≡ Some f) is wanted;
  written = written;
  filled = (let cost = (is_fill (reserve - bare) f wanted).cost in omega (arith, longer, cost, fits, is));
  spelled = spelled;
}

-- A fault of bytes is answered as an error of a claim.
use Rattle.std.proofs.Common.{◌≡◌, ◌⊎◌, inl, inr, ℕ, List, Err, refl, sym, subst}
use Rattle.c2_spec.specs.Cbor.Faults.{HasFault}
use Rattle.c2_spec.specs.Cbor.Answers.{EndsEarly}
use Rattle.c2_spec.specs.Cbor.Fields.{IsUnread, faulty, early}
use Rattle.c2_spec.specs.C2pa.Claim.{RefusesItem}
use Rattle.c2_spec.specs.declared.cbor.CborError.{CborError}
use Rattle.c2_spec.specs.declared.cbor.CborError.TheVariants as faults
use Rattle.c2_spec.specs.declared.claim.ClaimError.{ClaimError}
use Rattle.c2_claim.specs.Unread.{claim_error}

-- each cause as itself
same : (e : CborError) → RefusesItem e (Err (claim_error e))
same (faults.Short at) = refl
same (faults.Reserved at) = refl
same (faults.BadText at) = refl
same (faults.DuplicateKey at) = refl
same (faults.TooDeep at) = refl
same (faults.Trailing at) = refl
same faults.NoMemory = tt

-- the cause that was answered, where it is the one that there is
answered : (fault e : CborError) → (fault ≡ faults.NoMemory) ⊎ (fault ≡ e) → RefusesItem e (Err (claim_error fault))
answered fault e (inl is) = subst (λ f. RefusesItem e (Err (claim_error f))) (sym is) tt
answered fault e (inr is) = subst (λ f. RefusesItem e (Err (claim_error f))) (sym is) (same e)

-- the fault that was answered is the one that there is
pub answered_fault : (bytes : List ℕ) (fault e : CborError) (r : ClaimError) → r ≡ claim_error fault
    → ((w : CborError) → HasFault bytes w → (fault ≡ faults.NoMemory) ⊎ (fault ≡ w))
    → ((w : CborError) → EndsEarly bytes w → (fault ≡ faults.NoMemory) ⊎ (fault ≡ w))
    → IsUnread bytes e → RefusesItem e (Err r)
answered_fault bytes fault e r is by_fault by_end (faulty h) =
    subst (λ x. RefusesItem e (Err x)) (sym is) (answered fault e (by_fault e h))
answered_fault bytes fault e r is by_fault by_end (early h) =
    subst (λ x. RefusesItem e (Err x)) (sym is) (answered fault e (by_end e h))

-- bytes that were read have no fault
pub no_fault : {P : Type 0} (bytes : List ℕ) (e : CborError) → ((w : CborError) → HasFault bytes w → ⊥)
    → ((w : CborError) → EndsEarly bytes w → ⊥) → IsUnread bytes e → P
no_fault bytes e by_fault by_end (faulty h) = absurd (by_fault e h)
no_fault bytes e by_fault by_end (early h) = absurd (by_end e h)

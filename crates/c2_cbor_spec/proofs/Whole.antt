-- A list of bytes as a whole: it is a legal item, or is none for a cause.
use Rattle.std.proofs.Common.{◌≡◌, refl, sym, ap, subst, ◌∙◌, ◌⊎◌, inl, inr, ℕ, zero, suc, ◌-◌, ◌<◌, ◌≤◌, ◌^◌, All, List, length, take, drop, Result, Ok, Err, arith}
use Rattle.std.proofs.lemmas.List.{length-drop, take_all}
use Rattle.c2_spec.specs.Cbor.Item.{Item}
use Rattle.c2_spec.specs.Cbor.Answers.{BeginsWith, EndsEarly}
use Rattle.c2_spec.specs.Cbor.Fields.{HasItem, IsUnread, faulty, early}
use Rattle.c2_spec.specs.Cbor.Spelling.{Spells}
use Rattle.c2_spec.specs.declared.cbor.CborError.{CborError}
use Rattle.c2_spec.specs.declared.cbor.CborError.TheVariants as errors
use Rattle.c2_cbor_spec.specs.Placed.{error_at}
use Rattle.c2_cbor_spec.specs.Reading.{is_known, item_at}
use Rattle.c2_cbor_spec.specs.declared.fault.Fault.{Fault}
use Rattle.c2_cbor_spec.proofs.Decoded.{held_fits, decoded, read_again, only_ok, told_ok, comes}
use Rattle.c2_cbor_spec.proofs.FaultTold.{Fits}
use Rattle.c2_cbor_spec.proofs.Shorter.{under_ok, item_at-under}

-- a prefix that spells an item is the whole, or it ends early
item_or : (s : List ℕ) (v : Item) (r : List ℕ) → BeginsWith s v (length s - length r) → (n : ℕ) → n ≡ length r
    → length r ≤ length s
    → ((w : Item) × HasItem s w) ⊎ ((e : CborError) × IsUnread s e)
item_or s v r b zero is le =
    let all : length s - length r ≡ length s = omega arith in
    let whole : take (length s - length r) s ≡ s = ap (λ k. take k s) all ∙ take_all (length s) s (omega arith) in
    inl (v, record { legal = b.legal; spelled = subst (Spells v) whole b.spelled })
item_or s v r b (suc n) is le =
    let short : length s - length r < length s = omega arith in
    inr (errors.Trailing (length s - length r), early (v, length s - length r, b, short, refl))

-- what a reader answers says which of the two a list is
read_or : (s : List ℕ) → Fits s → (r : Result (Item × List ℕ) Fault) → item_at is_known 64 s ≡ r
    → ((w : Item) × HasItem s w) ⊎ ((e : CborError) × IsUnread s e)
read_or s f (Ok (v, r)) e =
    let less : length r < length s = under_ok (length s) (item_at is_known 64 s) v r e (item_at-under is_known 64 s) in
    item_or s v r (decoded s v r f e) (length r) refl (omega arith)
read_or s f (Err d) e = inr (error_at (length s) d, faulty (comes s d (error_at (length s) d) f e refl))

-- bytes are a legal item, or are none for a cause
pub each_list : (s : List ℕ) → All (λ b. b < 2 ^ 8) s → length s < 2 ^ 64
    → ((v : Item) × HasItem s v) ⊎ ((e : CborError) × IsUnread s e)
each_list s h lt = read_or s (held_fits s h lt) (item_at is_known 64 s) refl

-- an item that the whole spells is an item of a prefix
whole_prefix : (s : List ℕ) (v : Item) → HasItem s v → BeginsWith s v (length s)
whole_prefix s v h =
    record
    { legal = h.legal; inside = omega arith; spelled = subst (Spells v) (sym (take_all (length s) s (omega arith))) h.spelled }

-- a whole that spells an item has no shorter prefix that does
early_not : (s : List ℕ) (v : Item) (e : CborError) → Fits s → HasItem s v → EndsEarly s e → ⊥
early_not s v e f h (w, n, b, short, is) =
    let again = read_again s v (length s) f (whole_prefix s v h) in
    let same : ◌≡◌ {A = Item × ℕ} (v, length s - length (drop (length s) s)) (w, n) =
    only_ok s v w (drop (length s) s) n f again b in
    let place : length s - length (drop (length s) s) ≡ n = ap (λ (p : Item × ℕ). p.1) same in
    omega (arith, place, short, length-drop (length s) s)

-- bytes that are a legal item have no cause for which they are none
pub never_both : (s : List ℕ) → All (λ b. b < 2 ^ 8) s → length s < 2 ^ 64 → (v : Item) (e : CborError) → HasItem s v
    → IsUnread s e → ⊥
never_both s h lt v e has (faulty fault) =
    told_ok s v (drop (length s) s) e (held_fits s h lt)
    (read_again s v (length s) (held_fits s h lt) (whole_prefix s v has)) fault
never_both s h lt v e has (early ends) = early_not s v e (held_fits s h lt) has ends

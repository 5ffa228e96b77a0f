-- What reading at 64 levels means for a list of bytes.
use Rattle.std.proofs.Common.{◌≡◌, ℕ, ◌+◌, ◌-◌, ◌^◌, ◌<◌, true, false, ltb, All, List, ◌++◌, length, take, drop, get_or, Result, Ok, Err, refl, sym, ap, subst, ◌∙◌, ltb-true, ltb-false, arith}
use Rattle.std.proofs.lemmas.List.{length-append, length-drop, take-append-drop, take_at, get_or_past}
use Rattle.c2_spec.specs.Cbor.Item.{Item}
use Rattle.c2_spec.specs.Cbor.Spelling.{Spells}
use Rattle.c2_spec.specs.Cbor.Faults.{HasFault}
use Rattle.c2_spec.specs.Cbor.Answers.{BeginsWith}
use Rattle.c2_spec.specs.declared.cbor.CborError.{CborError}
use Rattle.c2_spec.specs.declared.cbor.CborError.TheVariants as errors
use Rattle.c2_cbor_spec.specs.Placed.{error_at}
use Rattle.c2_cbor_spec.specs.Reading.{is_known, item_at, Fails}
use Rattle.c2_cbor_spec.specs.declared.fault.ReadError.{ReadError}
use Rattle.c2_cbor_spec.specs.declared.fault.ReadError.TheVariants as reads
use Rattle.c2_cbor_spec.specs.declared.fault.Fault.{Fault}
use Rattle.c2_cbor_spec.specs.declared.fault.Fault.TheVariants.{Short, Reserved, BadText, DuplicateKey, TooDeep}
use Rattle.c2_cbor_spec.proofs.Heads.{are_bytes, first_is, rest_is}
use Rattle.c2_cbor_spec.proofs.HeadFaults.{err_is}
use Rattle.c2_cbor_spec.proofs.Sound.{item_takes}
use Rattle.c2_cbor_spec.proofs.Complete.{item_again}
use Rattle.c2_cbor_spec.proofs.Unique.{distinct_from, keyed_from}
use Rattle.c2_cbor_spec.proofs.Fine.{fine}
use Rattle.c2_cbor_spec.proofs.BadSimple.{fine_no_bad}
use Rattle.c2_cbor_spec.proofs.FaultTold.{Fits, fault_told}
use Rattle.c2_cbor_spec.proofs.FaultFound.{fault_found}

-- bytes below 256 fit
pub fits_of : (s : List ℕ) → ((i : ℕ) → get_or s i 0 < 256) → length s < 2 ^ 64 → Fits s
fits_of s h lt = record { bytes = are_bytes s h; short = lt }

-- what was read is a prefix's item
pub decoded : (s : List ℕ) (v : Item) (r : List ℕ) → Fits s → item_at is_known 64 s ≡ Ok (v, r)
    → BeginsWith s v (length s - length r)
decoded s v r fits e =
    let t = item_takes is_known 64 s v r fits.bytes e in
    let whole : length s ≡ length t.spelled.0 + length r = ap length t.spelled.2 ∙ length-append t.spelled.0 r in
    let len : length t.spelled.0 ≡ length s - length r = omega (arith, whole) in
    let short : length t.spelled.0 < 2 ^ 64 = omega (arith, whole, fits.short) in
    let front : take (length s - length r) s ≡ t.spelled.0 =
    ap (take (length s - length r)) t.spelled.2 ∙ take_at t.spelled.0 r (length s - length r) len in
    record {
      legal =
          record
          { shallow = t.shallow; distinct = distinct_from v t.keyed; no_bad_simple = fine_no_bad v (fine v t.spelled.0 short t.spelled.1) };
      inside = omega arith;
      spelled = subst (Spells v) (sym front) t.spelled.1;
    }

-- an item that a prefix spells is read
pub read_again : (s : List ℕ) (v : Item) (n : ℕ) → Fits s → BeginsWith s v n → item_at is_known 64 s ≡ Ok (v, drop n s)
read_again s v n fits b =
    let parts : take n s ++ drop n s ≡ s = take-append-drop n s in
    let lt : length (take n s) < 2 ^ 64 =
    omega (arith, fits.short, ap length parts, length-append (take n s) (drop n s)) in
    ap (item_at is_known 64) (sym parts)
    ∙ item_again is_known v 64 (take n s) (drop n s) b.spelled b.legal.shallow
    (keyed_from v (fine v (take n s) lt b.spelled) b.legal.distinct)

-- so it is what was read
pub only_ok : (s : List ℕ) (w v : Item) (q : List ℕ) (n : ℕ) → Fits s → item_at is_known 64 s ≡ Ok (w, q)
    → BeginsWith s v n → ◌≡◌ {A = Item × ℕ} (w, length s - length q) (v, n)
only_ok s w v q n fits e b =
    let both = sym e ∙ read_again s v n fits b in
    let same : w ≡ v = first_is w v q (drop n s) both in
    let rest : q ≡ drop n s = rest_is w v q (drop n s) both in
    let len : length s - length q ≡ n = omega (arith, ap length rest, length-drop n s, b.inside) in
    cc

-- and reading it is no fault
pub only_err : {P : Type 0} (s : List ℕ) (v : Item) (n : ℕ) (f : Fault) → Fits s → item_at is_known 64 s ≡ Err f
    → BeginsWith s v n → P
only_err s v n f fits e b = let both = sym e ∙ read_again s v n fits b in absurd cc

-- where an item was read there is no fault
pub told_ok : (s : List ℕ) (v : Item) (r : List ℕ) (w : CborError) → Fits s → item_at is_known 64 s ≡ Ok (v, r)
    → HasFault s w → ⊥
told_ok s v r w fits e h =
    let q = fault_told (length s) 64 s w h fits in
    let both = sym e ∙ q.1 in
    cc

-- the fault that was met is the fault
pub told_err : (s : List ℕ) (f : Fault) (e w : CborError) → Fits s → item_at is_known 64 s ≡ Err f
    → e ≡ error_at (length s) f → HasFault s w → e ≡ w
told_err s f e w fits is at h =
    let q = fault_told (length s) 64 s w h fits in
    at ∙ ap (error_at (length s)) (err_is f q.0 (sym is ∙ q.1)) ∙ sym q.2

-- and it is one
pub comes : (s : List ℕ) (f : Fault) (e : CborError) → Fits s → item_at is_known 64 s ≡ Err f
    → e ≡ error_at (length s) f → HasFault s e
comes s f e fits is at = subst (HasFault s) (sym at) (fault_found (length s) 64 s f fits is)

-- a fault of the code is a fault of the definition
pub fails_fault : {Y : Type 0} (e : ReadError) (f : Fault) (read : Result Y Fault) → e ≡ reads.Fault f → Fails e read
    → read ≡ Err f
fails_fault e f read is h = subst (λ d. Fails d read) is h

-- no fault is that bytes follow
pub never_trailing : (n : ℕ) (f : Fault) (at : ℕ) → error_at n f ≡ errors.Trailing at → ⊥
never_trailing n Short at e = cc
never_trailing n (Reserved k) at e = cc
never_trailing n (BadText k) at e = cc
never_trailing n (DuplicateKey k) at e = cc
never_trailing n (TooDeep k) at e = cc

-- ---- the law on faults

-- bytes fit where each is below 256
pub held_fits : (s : List ℕ) → All (λ b. b < 2 ^ 8) s → length s < 2 ^ 64 → Fits s
held_fits s h lt = fits_of s (λ i. elim (ltb i (length s)) as (λ t. ltb i (length s) ≡ t → get_or s i 0 < 256) [
  | true ↦ λ e. omega (arith, h i 0 (ltb-true i (length s) e))
  | false ↦ λ e. omega (arith, get_or_past s i 0 (ltb-false i (length s) e))
] refl) lt

-- a reader's answer for bytes of which no prefix is an item
fault_of : (s : List ℕ) → Fits s → ((v : Item) (n : ℕ) → BeginsWith s v n → ⊥) → (r : Result (Item × List ℕ) Fault)
    → item_at is_known 64 s ≡ r → (e : CborError) × HasFault s e
fault_of s fits none (Ok (v, r)) is = absurd (none v (length s - length r) (decoded s v r fits is))
fault_of s fits none (Err f) is = (error_at (length s) f, comes s f (error_at (length s) f) fits is refl)

-- there is a fault
pub fault_or : (s : List ℕ) → All (λ b. b < 2 ^ 8) s → length s < 2 ^ 64 → ((v : Item) (n : ℕ) → BeginsWith s v n → ⊥)
    → (e : CborError) × HasFault s e
fault_or s h lt none = fault_of s (held_fits s h lt) none (item_at is_known 64 s) refl

-- never both
pub fault_apart : (s : List ℕ) → All (λ b. b < 2 ^ 8) s → length s < 2 ^ 64 → (v : Item) (n : ℕ) (e : CborError)
    → BeginsWith s v n → HasFault s e → ⊥
fault_apart s h lt v n e b f = told_ok s v (drop n s) e (held_fits s h lt) (read_again s v n (held_fits s h lt) b) f

-- never two
pub fault_alone : (s : List ℕ) → All (λ b. b < 2 ^ 8) s → length s < 2 ^ 64 → (d e : CborError) → HasFault s d
    → HasFault s e → d ≡ e
fault_alone s h lt d e f g =
    let q = fault_told (length s) 64 s d f (held_fits s h lt) in
    told_err s q.0 d e (held_fits s h lt) q.1 q.2 g

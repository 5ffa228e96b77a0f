-- Why boxes aren't written, by what is refused of their parts, and which boxes nothing is refused of.
use Rattle.std.proofs.Common.{◌≡◌, ◌⊎◌, inl, inr, ℕ, ◌+◌, ◌-◌, ◌<◌, ◌≤◌, ◌^◌, min, List, length, refl, sym, ap, subst, arith, lit<, codes}
use Rattle.c2_base.specs.declared.limits.TheConstants.{MAX_STORE_LEN}
use Rattle.c2_spec.specs.Jumbf.Writing.{IsWrittenLabel, super_size, SuperRefused, bad_label, too_large}
use Rattle.c2_spec.specs.declared.jumbf.WriteError.{WriteError}
use Rattle.c2_spec.specs.declared.jumbf.WriteError.TheVariants.{BadLabel, TooLarge, NoMemory}
use Rattle.c2_new_file_spec.proofs.Labels.{written_label}
use Rattle.c2_layout.specs.Parts.{manifest_size}
use Rattle.c2_layout.specs.Unwritten.{IsBoxRefused, IsContentRefused, IsManifestRefused, IsSuperboxRefused}

-- ---- what is refused

-- a content box that is too large
pub content_refused : (label : List ℕ) (len : ℕ) (e : WriteError)
    → (e ≡ NoMemory) ⊎ ((e ≡ TooLarge (8 + len)) × (MAX_STORE_LEN < 8 + len))
    → (e ≡ NoMemory) ⊎ IsBoxRefused label len e
content_refused label len e (inl m) = inl m
content_refused label len e (inr both) = inr (inl (subst (IsContentRefused (8 + len)) (sym both.0) (both.1, refl)))

-- a superbox, by its size
pub superbox_refused : (label contents : List ℕ) (e : WriteError) (n : ℕ) → super_size label contents ≡ n
    → (e ≡ NoMemory) ⊎ SuperRefused label contents e → (e ≡ NoMemory) ⊎ IsSuperboxRefused label n e
superbox_refused label contents e n is (inl m) = inl m
superbox_refused label contents e n is (inr (bad_label never)) = inr never
superbox_refused label contents e n is (inr (too_large w big)) =
    inr (w, omega (arith, is, big), ap (λ (k : ℕ). min k (2 ^ 64 - 1)) is)

-- a superbox with one content box, which isn't too large
pub box_refused : (label leaf : List ℕ) (len : ℕ) (e : WriteError) → 8 + len ≤ MAX_STORE_LEN → length leaf ≡ 8 + len
    → (e ≡ NoMemory) ⊎ SuperRefused label leaf e → (e ≡ NoMemory) ⊎ IsBoxRefused label len e
box_refused label leaf len e small long h = by (superbox_refused label leaf e (42 + length label + len) (omega (arith, long)) h)
  where
    by : (e ≡ NoMemory) ⊎ IsSuperboxRefused label (42 + length label + len) e
        → (e ≡ NoMemory) ⊎ IsBoxRefused label len e
    by (inl m) = inl m
    by (inr refused) = inr (inr (small, refused))

-- ---- what nothing is refused of

-- a content box of this length
no_content : (n : ℕ) (e : WriteError) → n ≤ MAX_STORE_LEN → IsContentRefused n e → e ≡ NoMemory
no_content n BadLabel small h = absurd h
no_content n (TooLarge k) small h = absurd (omega (arith, small, h.0))
no_content n NoMemory small h = refl

-- a superbox of this length with a label that may be written
no_superbox : (label : List ℕ) (n : ℕ) (e : WriteError) → IsWrittenLabel label → n ≤ MAX_STORE_LEN
    → IsSuperboxRefused label n e → e ≡ NoMemory
no_superbox label n BadLabel w small h = absurd (h w)
no_superbox label n (TooLarge k) w small h = absurd (omega (arith, small, h.1))
no_superbox label n NoMemory w small h = refl

-- a superbox with one content box
no_box : (label : List ℕ) (len : ℕ) (e : WriteError) → IsWrittenLabel label → 42 + length label + len ≤ MAX_STORE_LEN
    → IsBoxRefused label len e → e ≡ NoMemory
no_box label len e w small (inl h) = no_content (8 + len) e (omega (arith, small)) h
no_box label len e w small (inr h) = no_superbox label (42 + length label + len) e w small h.1

-- nothing but memory fails of a superbox with one content box that isn't too large
pub box_memory : (label : List ℕ) (len : ℕ) (e : WriteError) → IsWrittenLabel label
    → 42 + length label + len ≤ MAX_STORE_LEN → (e ≡ NoMemory) ⊎ IsBoxRefused label len e → e ≡ NoMemory
box_memory label len e w small (inl m) = m
box_memory label len e w small (inr h) = no_box label len e w small h

-- the labels of the boxes of a manifest may be written
assertions_label : IsWrittenLabel (codes "c2pa.assertions")
assertions_label = written_label (codes "c2pa.assertions") (record { some = lit< tt; named = grind arith })

claim_label : IsWrittenLabel (codes "c2pa.claim.v2")
claim_label = written_label (codes "c2pa.claim.v2") (record { some = lit< tt; named = grind arith })

signature_label : IsWrittenLabel (codes "c2pa.signature")
signature_label = written_label (codes "c2pa.signature") (record { some = lit< tt; named = grind arith })

-- the box of a manifest
no_manifest : (label boxes claim message : List ℕ) (e : WriteError) → IsWrittenLabel label
    → manifest_size label boxes claim message ≤ MAX_STORE_LEN → IsManifestRefused label boxes claim message e
    → e ≡ NoMemory
no_manifest label boxes claim message e w small (inl h) =
    no_superbox (codes "c2pa.assertions") (49 + length boxes) e assertions_label (omega (arith, small)) h
no_manifest label boxes claim message e w small (inr (inl h)) = let n : length (codes "c2pa.claim.v2") ≡ 13 = refl in no_box (codes "c2pa.claim.v2") (length claim) e claim_label (omega (arith, small, n)) h
no_manifest label boxes claim message e w small (inr (inr (inl h))) = let n : length (codes "c2pa.signature") ≡ 14 = refl in no_box (codes "c2pa.signature") (length message) e signature_label (omega (arith, small, n)) h
no_manifest label boxes claim message e w small (inr (inr (inr h))) =
    no_superbox label (manifest_size label boxes claim message) e w small h

-- nothing but memory fails of the box of a manifest that isn't too large
pub manifest_memory : (label boxes claim message : List ℕ) (e : WriteError) → IsWrittenLabel label
    → manifest_size label boxes claim message ≤ MAX_STORE_LEN
    → (e ≡ NoMemory) ⊎ IsManifestRefused label boxes claim message e → e ≡ NoMemory
manifest_memory label boxes claim message e w small (inl m) = m
manifest_memory label boxes claim message e w small (inr h) = no_manifest label boxes claim message e w small h

-- ---- the parts of a manifest

-- a manifest is refused where its assertion store is
pub assertions_refused : (label boxes claim message : List ℕ) (e : WriteError)
    → (e ≡ NoMemory) ⊎ SuperRefused (codes "c2pa.assertions") boxes e
    → (e ≡ NoMemory) ⊎ IsManifestRefused label boxes claim message e
assertions_refused label boxes claim message e h = by (superbox_refused (codes "c2pa.assertions") boxes e (49 + length boxes) refl h)
  where
    by : (e ≡ NoMemory) ⊎ IsSuperboxRefused (codes "c2pa.assertions") (49 + length boxes) e
        → (e ≡ NoMemory) ⊎ IsManifestRefused label boxes claim message e
    by (inl m) = inl m
    by (inr refused) = inr (inl refused)

-- the box of its claim is
pub claim_refused : (label boxes claim message : List ℕ) (e : WriteError)
    → (e ≡ NoMemory) ⊎ IsBoxRefused (codes "c2pa.claim.v2") (length claim) e
    → (e ≡ NoMemory) ⊎ IsManifestRefused label boxes claim message e
claim_refused label boxes claim message e (inl m) = inl m
claim_refused label boxes claim message e (inr refused) = inr (inr (inl refused))

-- the box of its signed message is
pub signature_refused : (label boxes claim message : List ℕ) (e : WriteError)
    → (e ≡ NoMemory) ⊎ IsBoxRefused (codes "c2pa.signature") (length message) e
    → (e ≡ NoMemory) ⊎ IsManifestRefused label boxes claim message e
signature_refused label boxes claim message e (inl m) = inl m
signature_refused label boxes claim message e (inr refused) = inr (inr (inr (inl refused)))

-- a manifest is refused where its own box with these contents is
pub manifest_refused : (label contents boxes claim message : List ℕ) (e : WriteError)
    → super_size label contents ≡ manifest_size label boxes claim message
    → (e ≡ NoMemory) ⊎ SuperRefused label contents e → (e ≡ NoMemory) ⊎ IsManifestRefused label boxes claim message e
manifest_refused label contents boxes claim message e is h = by (superbox_refused label contents e (manifest_size label boxes claim message) is h)
  where
    by : (e ≡ NoMemory) ⊎ IsSuperboxRefused label (manifest_size label boxes claim message) e
        → (e ≡ NoMemory) ⊎ IsManifestRefused label boxes claim message e
    by (inl m) = inl m
    by (inr refused) = inr (inr (inr (inr refused)))

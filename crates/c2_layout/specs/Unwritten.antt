-- Why a new box isn't written, but for want of memory: it would be larger than a store may be, or its label may not be written
-- (ISO/IEC 19566-5:2023, B.2 and B.3; that a label isn't empty is this project's own choice).
use Rattle.std.specs.Prelude.{◌≡◌, ◌⊎◌, ℕ, ◌+◌, ◌-◌, ◌<◌, ◌≤◌, ◌^◌, min, List, codes, length}
use Rattle.c2_base.specs.declared.limits.TheConstants.{MAX_STORE_LEN}
use Rattle.c2_spec.specs.Jumbf.Writing.{IsWrittenLabel}
use Rattle.c2_spec.specs.declared.jumbf.WriteError.{WriteError}
use Rattle.c2_spec.specs.declared.jumbf.WriteError.TheVariants.{BadLabel, TooLarge, NoMemory}
use Rattle.c2_definition.specs.declared.types.NewAssertion.{NewAssertion}
use Rattle.c2_layout.specs.Parts.{manifest_size}

-- a content box of this length is too large, and its length is told
abbrev pub IsContentRefused : ℕ → WriteError → Type 0
IsContentRefused len NoMemory = ⊥
IsContentRefused len BadLabel = ⊥
IsContentRefused len (TooLarge n) = (MAX_STORE_LEN < len) × (n ≡ len)

-- the label of a superbox of this length may not be written; or it may, and the box is too large, and its length is told, or the
-- greatest number where 64 bits don't hold the length
abbrev pub IsSuperboxRefused : List ℕ → ℕ → WriteError → Type 0
IsSuperboxRefused label len NoMemory = ⊥
IsSuperboxRefused label len BadLabel = IsWrittenLabel label → ⊥
IsSuperboxRefused label len (TooLarge n) =
    IsWrittenLabel label × (MAX_STORE_LEN < len) × (n ≡ min len (2 ^ 64 - 1))

-- Why a superbox with one content box is refused, which has so many bytes behind its header: the content box is, or else the superbox
-- itself. Its label and 42 bytes are the headers of both, and the description.
abbrev pub IsBoxRefused : List ℕ → ℕ → WriteError → Type 0
IsBoxRefused label len e =
    IsContentRefused (8 + len) e
    ⊎ ((8 + len ≤ MAX_STORE_LEN) × IsSuperboxRefused label (42 + length label + len) e)

-- the box of a new assertion is refused
abbrev pub IsAssertionRefused : NewAssertion → WriteError → Type 0
IsAssertionRefused a e = IsBoxRefused a.label (length a.bytes) e

-- Why the box of a manifest is refused: its assertion store is, the box of its claim, that of its signed message, or the box itself. 49
-- bytes are the header and the description of an assertion store.
abbrev pub IsManifestRefused : List ℕ → List ℕ → List ℕ → List ℕ → WriteError → Type 0
IsManifestRefused label boxes claim message e =
    IsSuperboxRefused (codes "c2pa.assertions") (49 + length boxes) e
    ⊎ (IsBoxRefused (codes "c2pa.claim.v2") (length claim) e
    ⊎ (IsBoxRefused (codes "c2pa.signature") (length message) e
    ⊎ IsSuperboxRefused label (manifest_size label boxes claim message) e))

-- For private clauses: the labels that are redacted in each manifest, kept in a set for each.
use Rattle.std.specs.Prelude.{◌≡◌, ℕ, ◌<◌, nat_eq, Bool, false, ◌&&◌, ◌||◌, List, Option, Some, None, length, slice_get, slice_index_or, bytes_eq}
use Rattle.std.specs.List.{list_any}
use Rattle.c2_label_index.specs.Labels.{is_among}
use Rattle.c2_label_index.specs.declared.labels.Labels.{Labels}
use Rattle.c2_spec.specs.C2pa.Uri.{uri_of}
use Rattle.c2_rules.specs.Chains.{label_in, names_assertion, passes_some, any_below, is_reached, reaches, redacts, is_touched}
use Rattle.c2_rules.specs.Readings.{Reading}
use Rattle.c2_read_manifests.specs.declared.redacted.Aim.{Aim}

-- a label is in the set at a place
abbrev pub has_at : List Labels → ℕ → List ℕ → Bool
has_at sets m label = passes_some (λ (s : Labels). is_among s label) (slice_get sets m)

-- this is what was named: the assertion with this label in the manifest at a place
abbrev pub is_aimed : Option Aim → ℕ → List ℕ → Bool
is_aimed None m label = false
is_aimed (Some aim) m label = nat_eq aim.place m && bytes_eq aim.label.now label

-- a text names the assertion with this label in the manifest at a place
abbrev pub names_at : List Reading → ℕ → List ℕ → List ℕ → Bool
names_at rs m label text =
    passes_some (λ (r : Reading). names_assertion (label_in r) label (uri_of text)) (slice_get rs m)

-- the label came into the set at a place, and nothing else changed
pub record AddsAt (old new : List Labels) (place : ℕ) (label : List ℕ) : Type 0 where
  pub count : length new ≡ length old
  pub says : (m : ℕ) (other : List ℕ) →
      has_at new m other ≡ (has_at old m other || (nat_eq place m && bytes_eq label other))

-- what these redactions of the manifest at `n` redact came in
pub record AddsTexts (rs : List Reading) (n : ℕ) (old new : List Labels) (texts : List (List ℕ)) : Type 0 where
  pub count : length new ≡ length old
  pub says : (m : ℕ) (label : List ℕ) → m < length rs →
      has_at new m label
      ≡ (has_at old m label || list_any (λ (text : List ℕ). reaches rs n m && names_at rs m label text) texts)

-- the manifest at `n` is reached, and redacts this label in the one at `m`, which is reached from it
abbrev pub redacts_at : List Reading → ℕ → List ℕ → ℕ → Bool
redacts_at rs m label n =
    is_reached rs n && reaches rs n m && redacts (slice_get rs n) (slice_get rs m) label

-- what the manifest at `n` redacts came in
pub record AddsOf (rs : List Reading) (n : ℕ) (old new : List Labels) : Type 0 where
  pub count : length new ≡ length old
  pub says : (m : ℕ) (label : List ℕ) → m < length rs →
      has_at new m label ≡ (has_at old m label || redacts_at rs m label n)

-- so many sets, with no label in them
pub record AreNone (count : ℕ) (sets : List Labels) : Type 0 where
  pub many : length sets ≡ count
  pub none : (m : ℕ) (label : List ℕ) → has_at sets m label ≡ false

-- One set for each manifest: it has what is redacted there by those below place `n`.
pub record AreRedactedBelow (rs : List Reading) (n : ℕ) (sets : List Labels) : Type 0 where
  pub count : length sets ≡ length rs
  pub says : (m : ℕ) (label : List ℕ) → m < length rs →
      has_at sets m label ≡ any_below (redacts_at rs m label) n

-- One set for each manifest: it has what is redacted there by any manifest.
abbrev pub AreRedacted : List Reading → List Labels → Type 0
AreRedacted rs sets = AreRedactedBelow rs (length rs) sets

-- One flag for each of the first `n` manifests: whether it is touched.
pub record AreTouchedBelow (rs : List Reading) (n : ℕ) (touched : List Bool) : Type 0 where
  pub count : length touched ≡ n
  pub says : (m : ℕ) → m < n → slice_index_or touched m false ≡ is_touched rs m

-- One flag for each manifest: whether it is touched.
abbrev pub AreTouched : List Reading → List Bool → Type 0
AreTouched rs touched = AreTouchedBelow rs (length rs) touched

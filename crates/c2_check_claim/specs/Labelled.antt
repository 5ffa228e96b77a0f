-- For private clauses: a manifest whose boxes and entries are found by their labels.
use Rattle.std.specs.Prelude.{◌≡◌, ℕ, List, Option, map}
use denote.Ref.{Bor}
use Rattle.c2_label_index.specs.Places.{ArePlaces}
use Rattle.c2_label_index.specs.declared.places.Places.{Places}
use Rattle.c2_spec.specs.C2pa.Manifest.{Manifest}
use Rattle.c2_spec.specs.declared.cbor.Ref.{Ref}
use Rattle.c2_rules.specs.Chains.{entry_label}
use Rattle.c2_rules.specs.Readings.{ReadBox, Reading, entries_in}

-- the labels of assertion boxes
abbrev pub box_labels : List ReadBox → List (Option (List ℕ))
box_labels bs = map (λ (b : ReadBox). b.boxed.label) bs

-- the labels that entries of a manifest list
abbrev pub entry_labels : Manifest → List Ref → List (Option (List ℕ))
entry_labels m es = map (entry_label m) es

-- The entries of a manifest; where each label stands first among its boxes; and where among its entries.
pub record AreLabelled (r : Reading) (entries : List (Bor Ref)) (box_places entry_places : Places) : Type 0 where
  pub all : map (λ (e : Bor Ref). e.now) entries ≡ entries_in r
  pub boxes : ArePlaces (box_labels r.boxes) box_places
  pub listed : ArePlaces (entry_labels r.manifest (entries_in r)) entry_places

-- Worked stores (C2PA Technical Specification 2.x, "Manifest store"), computed. The rows are this project's own.
use Rattle.std.proofs.Common.{◌≡◌, ℕ, true, false, List, [], ◌∷◌, None, Some, refl, codes}
use Rattle.c2_spec.specs.C2pa.Manifest.{type_uuid, store_refusal, item_at, superboxes}
use Rattle.c2_spec.specs.Jumbf.Tree.{Description, Tree, Trees, super, leaf, none, more}
use Rattle.c2_spec.specs.declared.store.StoreError.TheVariants.{NotStore, ManifestType, ManifestLabel, NoManifest}
use Rattle.c2_spec.proofs.JumbfRows.{tree_s, tree_m}

-- A store without a manifest, and one with one manifest, whose first box is at index 2.
two_stores : (store_refusal tree_s ≡ Some NoManifest)
    × (store_refusal tree_m ≡ None)
    × (superboxes tree_m 0 ≡ 2 ∷ [])
    × (item_at tree_m 2 ≡ None)
two_stores = (refl, refl, refl, refl)

-- a description of this type, with this label
abbrev described : List ℕ → List ℕ → Description
described name label = record {
  wide = false;
  uuid = type_uuid name;
  requestable = true;
  label = Some label;
  id = None;
  digest = None;
  private = None;
}

-- a superbox of this type and label, with no box behind its description
abbrev empty : List ℕ → List ℕ → Tree
empty name label = super false (described name label) none

-- a leaf of this kind
abbrev leaf_of : ℕ → List ℕ → Tree
leaf_of kind payload = leaf (record { kind = kind; wide = false; payload = payload })

-- A store with this one box.
abbrev store_of_one : Tree → Tree
store_of_one t = super false (described (codes "c2pa") (codes "c2pa")) (more t none)

-- an empty label, and behind it another type
abbrev two_faults : Tree
two_faults = super false (described (codes "c2pa") (codes "c2pa"))
    (more (empty (codes "c2um") []) (more (empty (codes "c2xx") (codes "m")) none))

-- The first refusal: the root has to be a store; of a manifest the type is tested before the label, and an earlier manifest
-- before a later one.
refusals : (store_refusal (leaf_of 0 []) ≡ Some NotStore)
    × (store_refusal (store_of_one (leaf_of 0 [])) ≡ Some NoManifest)
    × (store_refusal (empty (codes "c2pa") (codes "x")) ≡ Some NotStore)
    × (store_refusal two_faults ≡ Some (ManifestLabel 38))
    × (store_refusal (store_of_one (empty (codes "c2xx") [])) ≡ Some (ManifestType 38))
    × (store_refusal (store_of_one (empty (codes "c2ma") (codes "a/b"))) ≡ Some (ManifestLabel 38))
refusals = (refl, refl, refl, refl, refl, refl)

-- "cbor" and "json"
abbrev cbor_kind : ℕ
cbor_kind = 0x63626F72

-- The box type `json`.
abbrev json_kind : ℕ
json_kind = 0x6A736F6E

-- a claim box with these boxes behind its description
abbrev claim_box : Trees → Tree
claim_box boxes = super false (described (codes "c2cl") []) boxes

-- The item of a box is the payload of its first content box, where that is CBOR.
items : (item_at (claim_box (more (leaf_of cbor_kind (1 ∷ [])) none)) 0 ≡ Some (1 ∷ []))
    × (item_at (claim_box (more (leaf_of json_kind (1 ∷ [])) (more (leaf_of cbor_kind (2 ∷ [])) none))) 0 ≡ None)
    × (item_at (empty (codes "c2cl") []) 0 ≡ None)
items = (refl, refl, refl)

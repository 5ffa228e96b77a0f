-- What a media file is found to be when its manifest store is opened: the first test that fails of the container, of the box tree
-- and of the manifests, in this order (C2PA Technical Specification 2.x, "Embedding manifests into assets" and "Manifest store").
use Rattle.std.specs.Prelude.{◌≡◌, ℕ, List, Some, None}
use Rattle.c2_spec.specs.C2pa.Manifest.{store_refusal}
use Rattle.c2_spec.specs.Container.{IsLocated}
use Rattle.c2_spec.specs.Jumbf.Faults.{JumbfFault}
use Rattle.c2_spec.specs.Jumbf.Tree.{Tree, SpellsTree}
use Rattle.c2_spec.specs.Located.{Opening, Located, refused, absent, here}
use Rattle.c2_spec.specs.Reason.{boxes_refusal, manifests_refusal}
use Rattle.c2_spec.specs.declared.jumbf.JumbfError.{JumbfError}
use Rattle.c2_spec.specs.declared.reason.Reason.{Reason}
use Rattle.c2_spec.specs.declared.store.StoreError.{StoreError}

-- what is refused or absent stays so, and what is here is seen so
abbrev pub Opens : {A B : Type 0} → (ℕ → ℕ → A → Opening B → Type 0) → Opening A → Opening B → Type 0
Opens IsSeen (refused reason number) what = what ≡ refused reason number
Opens IsSeen absent what = what ≡ absent
Opens IsSeen (here start len a) what = IsSeen start len a what

-- the store's bytes spell no legal box tree: the first test that fails refuses them for this reason
abbrev pub IsRefusedTree : List ℕ → Reason → ℕ → Type 0
IsRefusedTree store reason number = (e : JumbfError) × JumbfFault store e × (boxes_refusal e ≡ Some (record { reason = reason; number = number }))

-- the box tree is no store of manifests: the first test that fails refuses it for this reason
abbrev pub IsRefusedStore : Tree → Reason → ℕ → Type 0
IsRefusedStore t reason number = (e : StoreError) × (store_refusal t ≡ Some e) × (manifests_refusal e ≡ Some (record { reason = reason; number = number }))

-- the bytes of a store in this range, as a box tree
abbrev pub IsBoxTree : ℕ → ℕ → List ℕ → Opening Tree → Type 0
IsBoxTree start len store (refused reason number) = IsRefusedTree store reason number
IsBoxTree start len store absent = ⊥
IsBoxTree start len store (here at count t) = SpellsTree store t × (here at count t ≡ here start len t)

-- the box tree of a store in this range, as a store of manifests
abbrev pub IsManifestTree : ℕ → ℕ → Tree → Opening Tree → Type 0
IsManifestTree start len t (refused reason number) = IsRefusedStore t reason number
IsManifestTree start len t absent = ⊥
IsManifestTree start len t (here at count u) = (store_refusal t ≡ None) × (here at count u ≡ here start len t)

-- the bytes of a store in this range, as a store of manifests: the tests of the boxes, then those of the manifests
abbrev pub IsManifestStore : ℕ → ℕ → List ℕ → Opening Tree → Type 0
IsManifestStore start len store what = (tree : Opening Tree) × IsBoxTree start len store tree × Opens IsManifestTree tree what

-- a file as a box tree: the tests of the container, then those of the boxes
abbrev pub IsBoxed : List ℕ → Opening Tree → Type 0
IsBoxed file what = (l : Located) × IsLocated file l × Opens IsBoxTree l what

-- a file as a store of manifests: then also those of the manifests
abbrev pub IsOpened : List ℕ → Opening Tree → Type 0
IsOpened file what = (l : Located) × IsLocated file l × Opens IsManifestStore l what

-- a file is opened as one thing
abbrev pub IsOpenedOnce : List ℕ → Type 0
IsOpenedOnce file = (v w : Opening Tree) → IsOpened file v → IsOpened file w → v ≡ w

-- What the answers of this crate say of a media file and of a store's bytes.
use Rattle.std.specs.Prelude.{◌≡◌, ℕ, ◌+◌, ◌≤◌, ⊤, List, length, Some}
use Rattle.c2_base.specs.Causes.{Rose}
use Rattle.c2_base.specs.declared.limits.TheConstants.{MAX_STORE_LEN}
use Rattle.c2_base.specs.declared.media.Found.{Found}
use Rattle.c2_base.specs.declared.media.MediaError.{MediaError}
use Rattle.c2_base.specs.declared.media.MediaError.TheVariants as media
use Rattle.c2_spec.specs.C2pa.Manifest.{IsStoreOf}
use Rattle.c2_spec.specs.Container.{IsLocated}
use Rattle.c2_spec.specs.Jumbf.Tree.{Tree}
use Rattle.c2_spec.specs.Located.{Opening, Located, refused, absent, here, refusal}
use Rattle.c2_rules.specs.Opened.{IsManifestStore}
use Rattle.c2_container.specs.Contained.{HasRootsInside, IsContainerOf, IsRefusalOf}
use Rattle.c2_opening.specs.declared.error.ValidateError.{ValidateError}
use Rattle.c2_opening.specs.declared.error.ValidateError.TheVariants.{ReadFault, JudgeFault, NoMemory}
use Rattle.c2_opening.specs.declared.types.Opened.{Opened}
use Rattle.c2_opening.specs.declared.types.Opened.TheVariants as opened
use Rattle.c2_opening.specs.declared.types.StoreRead.{StoreRead}
use Rattle.c2_opening.specs.declared.types.StoreRead.TheVariants as read

-- ---- a file as a container

-- what the file is as a container
abbrev pub located_of : Opened → Located
located_of (opened.Here m) = here m.found.start m.found.length m.found.store
located_of (opened.NoStore c) = absent
located_of (opened.Refused reason number) = refused reason number

-- where the file isn't refused, the container that is answered is its own
abbrev pub HasContainer : List ℕ → Opened → Type 0
HasContainer file (opened.Here m) = IsContainerOf file m.container
HasContainer file (opened.NoStore c) = IsContainerOf file c
HasContainer file (opened.Refused reason number) = ⊤

-- this is what the file is as a container, and nothing else is
pub record IsFound (file : List ℕ) (o : Opened) : Type 0 where
  pub located : IsLocated file (located_of o)
  pub only : (what : Located) → IsLocated file what → what ≡ located_of o
  pub container : HasContainer file o

-- The embedded range and root boxes lie inside a file of this length, and the store is no longer than a store may be; a refusal has its number of
-- such a file.
abbrev pub IsWithin : ℕ → Opened → Type 0
IsWithin len (opened.Here m) =
    (m.found.start + m.found.length ≤ len) × (length m.found.store ≤ MAX_STORE_LEN)
    × HasRootsInside len m.container
IsWithin len (opened.NoStore c) = HasRootsInside len c
IsWithin len (opened.Refused reason number) =
    (e : MediaError) × IsRefusalOf len e × (refusal e ≡ Some (refused reason number))

-- the cause of an error, by the source's count of faults before and after: no judge is asked
abbrev pub IsOpeningCause : ℕ → ℕ → ValidateError → Type 0
IsOpeningCause before now ReadFault = Rose before now
IsOpeningCause before now JudgeFault = ⊥
IsOpeningCause before now NoMemory = ⊤

-- for a private clause: the error that an error of the container stands for
abbrev pub IsErrorOf : MediaError → ValidateError → Type 0
IsErrorOf error ReadFault = error ≡ media.ReadFault
IsErrorOf error JudgeFault = ⊥
IsErrorOf error NoMemory = error ≡ media.NoMemory

-- ---- a store's bytes as a store of manifests

-- what the store is seen as, in the range where it was found
abbrev pub tree_of : Found → StoreRead → Opening Tree
tree_of f (read.Here t s) = here f.start f.length t
tree_of f (read.Refused reason number) = refused reason number

-- the boxes of the manifests are those of the tree
abbrev pub HasBoxes : StoreRead → Type 0
HasBoxes (read.Here t s) = IsStoreOf t s
HasBoxes (read.Refused reason number) = ⊤

-- the bytes of a store that was found are this as a store of manifests
pub record IsStoreRead (f : Found) (r : StoreRead) : Type 0 where
  pub store : IsManifestStore f.start f.length f.store (tree_of f r)
  pub boxes : HasBoxes r

-- the bytes are this as a store of manifests, whatever range they are said to stand in
abbrev pub IsReadFrom : List ℕ → StoreRead → Type 0
IsReadFrom bytes r =
    (start len : ℕ) → IsStoreRead (record { start = start; length = len; store = bytes }) r

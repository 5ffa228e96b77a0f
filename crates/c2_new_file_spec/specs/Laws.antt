-- What holds of places, as statements.
use Rattle.std.specs.Prelude.{◌≡◌, ℕ, List, length}
use Rattle.c2_spec.specs.Container.{is_bmff}
use Rattle.c2_spec.specs.Digest.{digest_len}
use Rattle.c2_spec.specs.Jumbf.Tree.{Tree, tree_bytes}
use Rattle.c2_spec.specs.Located.{absent, here}
use Rattle.c2_rules.specs.Opened.{IsOpened}
use Rattle.c2_new_file_spec.specs.Built.{HasDigestLen}
use Rattle.c2_new_file_spec.specs.Store.{Content, new_store, new_alg}
use Rattle.c2_new_file_spec.specs.Unbound.{IsKnownBinding}
use Rattle.c2_new_file_spec.specs.Bases.{IsLeft}
use Rattle.c2_new_file_spec.specs.Places.{IsFreePlace, IsPlace, Place, binding_with, store_len}
use Rattle.c2_spec.specs.declared.digest.Alg.{Alg}

-- a file has one place for a new store
abbrev pub OnePlace : Type 0
OnePlace = (base : List ℕ) (p q : Place) → IsPlace base p → IsPlace base q → p ≡ q

-- one file is left of a media file
abbrev pub OneLeft : Type 0
OneLeft = (media : List ℕ) (start len : ℕ) (a b : List ℕ) → IsLeft media start len a → IsLeft media start len b → a ≡ b

-- a media file without a store has a place for one
abbrev pub FreshHasPlace : Type 0
FreshHasPlace = (media : List ℕ) → IsOpened media absent → (p : Place) × IsFreePlace media p

-- something is left of a media file with a store
abbrev pub SomeLeft : Type 0
SomeLeft = (media : List ℕ) (start len : ℕ) (t : Tree) → IsOpened media (here start len t) → (base : List ℕ) × IsLeft media start len base

-- what is left of a media file with a store has a place for another store
abbrev pub LeftHasPlace : Type 0
LeftHasPlace = (media : List ℕ) (start len : ℕ) (t : Tree) (base : List ℕ) → IsOpened media (here start len t) → IsLeft media start len base
    → (p : Place) × IsFreePlace base p

-- what is left has the container that the file had
abbrev pub LeftHasContainer : Type 0
LeftHasContainer = (media : List ℕ) (start len : ℕ) (t : Tree) (base : List ℕ) → IsOpened media (here start len t) → IsLeft media start len base
    → is_bmff base ≡ is_bmff media

-- A new store's length depends neither on its range nor on digests.
abbrev pub PlaceSizeIsFixed : Type 0
PlaceSizeIsFixed = (hash : List ℕ → List ℕ) (c : Content) (p : Place) (len : ℕ) (digest message : List ℕ)
    → HasDigestLen (new_alg c.definition) hash → length digest ≡ digest_len (new_alg c.definition)
    → length (tree_bytes (new_store hash c (binding_with (new_alg c.definition) p len digest) message)) ≡ store_len p c (length message)

-- The binding of a new store is of a kind that is known.
abbrev pub BindingsAreKnown : Type 0
BindingsAreKnown = (alg : Alg) (p : Place) (len : ℕ) (digest : List ℕ) → IsKnownBinding (binding_with alg p len digest)

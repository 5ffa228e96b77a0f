-- The laws of this crate, for the proofs of the crates above it.
use Rattle.c2_base.specs.declared.media.Found.{Found}
use Rattle.c2_container.specs.Contained.{IsContainerOf}
use Rattle.c2_container.specs.declared.types.Container.{Container}
use Rattle.c2_opening.proofs.OneMedia.{contained_media, store_container}
use Rattle.c2_opening.proofs.OneOpening.{one_manifest_store, one_opened}
use Rattle.c2_opening.specs.Media.{IsMediaOf}
use Rattle.c2_opening.specs.Opened.{IsStoreRead}
use Rattle.c2_opening.specs.declared.types.StoreRead.{StoreRead}
use Rattle.c2_opening.specs.declared.types.StoreRead.TheVariants as read
use Rattle.c2_rules.specs.Opened.{IsManifestStore, IsOpened}
use Rattle.c2_spec.specs.Jumbf.Tree.{Tree}
use Rattle.c2_spec.specs.Located.{Opening, here}
use Rattle.c2_spec.specs.declared.store.ManifestBoxes.{ManifestBoxes}
use Rattle.std.proofs.Common.{subst}
use Rattle.std.specs.Prelude.{List, ℕ, ◌≡◌}
use Rattle.c2_rules.specs.Binding as rules
use Rattle.c2_spec.specs.Container as form
use Rattle.c2_rules.proofs.OneMedia.{media_once}

-- a file is opened as one thing at most, and so is a store that was found
pub one_opening_store : (start len : ℕ) (store : List ℕ) (a b : Opening Tree) → IsManifestStore start len store a
    → IsManifestStore start len store b → a ≡ b
one_opening_store = one_manifest_store

-- a file is opened as one thing at most, and so is a store that was found
pub one_opening_file : (file : List ℕ) (a b : Opening Tree) → IsOpened file a → IsOpened file b → a ≡ b
one_opening_file = one_opened

-- a file is media in one way at most, and that with the container that was read of it
pub one_media_once : (file : List ℕ) (m n : rules.Media) → rules.IsMedia file m → rules.IsMedia file n → m ≡ n
one_media_once = media_once

-- a file is media in one way at most, and that with the container that was read of it
pub one_media_read : (file : List ℕ) (c : Container) (m : rules.Media) → IsContainerOf file c → rules.IsMedia file m
    → IsMediaOf file c m
one_media_read = contained_media

-- a file is media in one way at most, and that with the container that was read of it
pub one_media_stored : (file : List ℕ) (start len : ℕ) (store : List ℕ) → form.IsLocated file (here start len store)
    → (c : form.Container) × form.IsContainer file c
one_media_stored = store_container

-- what a store that was found is read as that isn't refused
pub here_tree : (f : Found) (r : StoreRead) (t : Tree) (s : List ManifestBoxes) → r ≡ read.Here t s → IsStoreRead f r
    → IsManifestStore f.start f.length f.store (here f.start f.length t)
here_tree f r t s is h = (subst (IsStoreRead f) is h).store

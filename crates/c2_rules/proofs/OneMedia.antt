-- A file is media in one way, and its store is read in one.
use Rattle.std.proofs.Common.{◌≡◌, ℕ, List, sym, ap₂, ◌∙◌, subst}
use Rattle.c2_spec.specs.Container.{Container}
use Rattle.c2_spec.proofs.Containers.{one_container}
use Rattle.c2_rules.specs.Binding.{IsMedia, Media}
use Rattle.c2_rules.specs.CheckList.{IsStoreReading, StoreReading}
use Rattle.c2_rules.specs.Validated.{IsFileReading}
use Rattle.c2_spec.specs.C2pa.Manifest.{Manifest, manifests_of}
use Rattle.c2_spec.specs.Jumbf.Tree.{Tree}

-- media of these
abbrev media_of : List ℕ → Container → Media
media_of file c = record { bytes = file; container = c }

-- a file is media in one way
pub media_once : (file : List ℕ) (m n : Media) → IsMedia file m → IsMedia file n → m ≡ n
media_once file m n h k =
    ap₂ media_of (h.bytes ∙ sym k.bytes) (one_container file m.container n.container h.container k.container)

-- where a store of media is read in one way, so is the store of a file
pub one_file_reading :
    ((m : Media) (ms : List Manifest) (a b : StoreReading) → IsStoreReading m ms a → IsStoreReading m ms b → a ≡ b)
    → (file : List ℕ) (t : Tree) (a b : StoreReading) → IsFileReading file t a → IsFileReading file t b → a ≡ b
one_file_reading one file t a b h k =
    one h.media (manifests_of t) a b h.reads
    (subst (λ (m : Media). IsStoreReading m (manifests_of t) b) (media_once file k.media h.media k.is_media h.is_media)
    k.reads)

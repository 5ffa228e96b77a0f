-- The parent of a new manifest by its digests.
use Rattle.std.specs.Prelude.{◌≡◌, ℕ, List}
use Rattle.c2_spec.specs.Jumbf.Tree.{Tree}
use Rattle.c2_new_file_spec.specs.Store.{NamedManifest}
use Rattle.c2_new_file_spec.specs.Parents.{IsParentOf}
use Rattle.c2_parent.specs.declared.parent.ParentDigests.{ParentDigests}

-- These digests are a named manifest's: its label, and the digests of its contents and of those of its signature box, where `hash` gives
-- the digest of a list.
pub record AreDigests (hash : List ℕ → List ℕ) (p : NamedManifest) (d : ParentDigests) : Type 0 where
  pub label : d.label.now ≡ p.label
  pub contents : d.contents ≡ hash p.contents
  pub signed : d.signed ≡ hash p.signed

-- The digests are those of some parent; where these manifests have a parent, it is that.
pub record HasParent (hash : List ℕ → List ℕ) (manifests : List Tree) (d : ParentDigests) : Type 0 where
  pub parent : NamedManifest
  pub digests : AreDigests hash parent d
  pub only : (p : NamedManifest) → IsParentOf p manifests → p ≡ parent

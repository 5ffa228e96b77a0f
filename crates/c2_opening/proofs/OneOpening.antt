-- A file is opened as one thing at most.
use Rattle.c2_container.proofs.TheLaws.{each_media_file_is_located_once}
use Rattle.std.proofs.Common.{◌≡◌, sym, ◌∙◌, ap, ℕ, List, Option, Some, None}
use Rattle.c2_spec.specs.C2pa.Manifest.{store_refusal}
use Rattle.c2_spec.specs.Container.{IsLocated}
use Rattle.c2_spec.specs.Jumbf.Tree.{Tree}
use Rattle.c2_spec.specs.Located.{Opening, refused, absent, here}
use Rattle.c2_spec.specs.Reason.{manifests_refusal}
use Rattle.c2_rules.specs.Opened.{Opens, IsBoxTree, IsManifestTree, IsManifestStore, IsOpened}
use Rattle.c2_lemmas.proofs.Numbers.{one_after}
use Rattle.c2_lemmas.proofs.Options.{same_some}
use Rattle.c2_rules.proofs.OneAnswer.{one_opens}
use Rattle.c2_rules.proofs.OneBoxTree.{one_box_tree, opening_of}

-- no value is there and not there
none_some : {A : Type 0} (a : A) (o : Option A) → o ≡ Some a → o ≡ None → ⊥
none_some a o p q = let bad = sym p ∙ q in cc (bad)

-- ---- openings

-- a box tree is one store of manifests or one refusal at most
one_manifest_tree : (start len : ℕ) (t : Tree) (x y : Opening Tree) → IsManifestTree start len t x
    → IsManifestTree start len t y → x ≡ y
one_manifest_tree start len t (refused r n) (refused q m) h k =
    ap opening_of (sym h.2 ∙ ap manifests_refusal (same_some h.0 k.0 (sym h.1 ∙ k.1)) ∙ k.2)
one_manifest_tree start len t (refused r n) absent h k = absurd k
one_manifest_tree start len t (refused r n) (here s l u) h k = absurd (none_some h.0 (store_refusal t) h.1 k.0)
one_manifest_tree start len t absent y h k = absurd h
one_manifest_tree start len t (here s l u) (refused r n) h k = absurd (none_some k.0 (store_refusal t) k.1 h.0)
one_manifest_tree start len t (here s l u) absent h k = absurd k
one_manifest_tree start len t (here s l u) (here p m v) h k = h.1 ∙ sym k.1

-- a store's bytes are one store of manifests or one refusal at most
pub one_manifest_store : (start len : ℕ) (store : List ℕ) (x y : Opening Tree) → IsManifestStore start len store x
    → IsManifestStore start len store y → x ≡ y
one_manifest_store start len store x y h k =
    one_after (IsBoxTree start len store) (Opens IsManifestTree) (one_box_tree start len store)
    (one_opens IsManifestTree one_manifest_tree) x y h k

-- a file is opened as one thing at most
pub one_opened : (file : List ℕ) (x y : Opening Tree) → IsOpened file x → IsOpened file y → x ≡ y
one_opened file x y h k =
    one_after (IsLocated file) (Opens IsManifestStore) (each_media_file_is_located_once file)
    (one_opens IsManifestStore one_manifest_store) x y h k

-- The store that a file is opened as, or that it is opened as a file without one.
use Rattle.std.proofs.Common.{◌≡◌, ℕ, List, None, refl, sym, ap, ◌∙◌, subst}
use Rattle.c2_spec.specs.C2pa.Manifest.{store_refusal}
use Rattle.c2_spec.specs.Jumbf.Tree.{IsLegalTree, Tree}
use Rattle.c2_spec.specs.Located.{Located, Opening, absent, here, refused}
use Rattle.c2_rules.specs.Opened.{IsBoxTree, IsManifestStore, IsManifestTree, IsOpened, Opens}

-- two stores that are opened are one tree
pub same_here : (a n b m : ℕ) (t u : Tree) → ◌≡◌ {A = Opening Tree} (here a n t) (here b m u) → t ≡ u
same_here a n b m t u e = cc (e)

-- What is known of the store that a file is opened as.
pub record IsOpenedStore (t : Tree) : Type 0 where
  pub legal : IsLegalTree 1 t
  pub accepted : store_refusal t ≡ None

-- it is legal and a store
pub opened_store : (file : List ℕ) (start len : ℕ) (t : Tree) → IsOpened file (here start len t) → IsOpenedStore t
opened_store file start len t h = by_place h.0 h.2
  where
    by_tree : (at n : ℕ) (store : List ℕ) (what : Opening Tree) → IsBoxTree at n store what
        → Opens IsManifestTree what (here start len t) → IsOpenedStore t
    by_tree at n store (refused reason number) g e = absurd (cc (e))
    by_tree at n store absent g e = absurd g
    by_tree at n store (here b m u) g e =
        let same : t ≡ u = same_here start len b m t u e.1 in
        record { legal = subst (IsLegalTree 1) (sym same) g.0.legal; accepted = ap store_refusal same ∙ e.0 }

    by_place : (l : Located) → Opens IsManifestStore l (here start len t) → IsOpenedStore t
    by_place (refused reason number) e = absurd (cc (e))
    by_place absent e = absurd (cc (e))
    by_place (here at n store) e = by_tree at n store e.0 e.1 e.2

-- a file without a store as its manifests are read has none as a container
pub located_absent : (l : Located) → Opens IsManifestStore l absent → l ≡ absent
located_absent (refused reason number) h = absurd (cc (h))
located_absent absent h = refl
located_absent (here start len store) h = absurd (by h.0 h.1 h.2)
  where
    by : (tree : Opening Tree) → IsBoxTree start len store tree → Opens IsManifestTree tree absent → ⊥
    by (refused reason number) a b = cc (b)
    by absent a b = a
    by (here place count t) a b = b

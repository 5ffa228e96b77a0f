-- A store's bytes that were read, and those that are refused.
use Rattle.std.proofs.Common.{◌≡◌, refl, sym, ◌∙◌, ap, subst, ◌⊎◌, inl, inr, List, ℕ, Option, Some, None, Ok, Err, IfOk}
use Rattle.std.specs.declared.result.Result.{Result}
use Rattle.c2_base.specs.declared.media.Found.{Found}
use Rattle.c2_spec.specs.C2pa.Manifest.{store_of, store_refusal}
use Rattle.c2_spec.specs.Jumbf.Faults.{JumbfFault}
use Rattle.c2_spec.specs.Jumbf.Tree.{Tree, SpellsTree}
use Rattle.c2_spec.specs.Located.{refused, here}
use Rattle.c2_spec.specs.Reason.{boxes_refusal, manifests_refusal}
use Rattle.c2_spec.specs.declared.jumbf.JumbfError.{JumbfError}
use Rattle.c2_spec.specs.declared.jumbf.JumbfError.TheVariants as boxes
use Rattle.c2_spec.specs.declared.reason.Refusal.{Refusal}
use Rattle.c2_spec.specs.declared.store.ManifestBoxes.{ManifestBoxes}
use Rattle.c2_spec.specs.declared.store.StoreError.{StoreError}
use Rattle.c2_spec.specs.declared.store.StoreError.TheVariants as store
use Rattle.c2_opening.specs.Opened.{IsStoreRead, IsReadFrom}
use Rattle.c2_opening.specs.declared.types.StoreRead.{StoreRead}
use Rattle.c2_opening.specs.declared.types.StoreRead.TheVariants.{Here, Refused}
use Rattle.c2_spec.proofs.JumbfRefusals.{faulty}

-- an error that refuses a store is not that memory ran out
bad_store : (t : Tree) (e : StoreError) (r : Refusal) → manifests_refusal e ≡ Some r
    → (e ≡ store.NoMemory) ⊎ (store_refusal t ≡ Some e) → store_refusal t ≡ Some e
bad_store t e r refuses (inl memory) = absurd (let both = sym refuses ∙ ap manifests_refusal memory in cc (both))
bad_store t e r refuses (inr fault) = fault

-- the first test of the boxes that fails
pub refused_boxes : (bytes : List ℕ) (e : JumbfError) (o : Option Refusal) (r : Refusal)
    → (e ≡ boxes.NoMemory) ⊎ JumbfFault bytes e → o ≡ boxes_refusal e → o ≡ Some r
    → IsReadFrom bytes (Refused r.reason r.number)
refused_boxes bytes e o r fault is some start len =
    let refuses : boxes_refusal e ≡ Some r = sym is ∙ some in
    record {
      store = (refused r.reason r.number, (e, faulty bytes e r refuses fault, refuses), refl);
      boxes = tt;
    }

-- the first test of the manifests that fails
pub refused_manifests : (bytes : List ℕ) (t : Tree) (e : StoreError) (o : Option Refusal) (r : Refusal)
    → SpellsTree bytes t → (e ≡ store.NoMemory) ⊎ (store_refusal t ≡ Some e) → o ≡ manifests_refusal e → o ≡ Some r
    → IsReadFrom bytes (Refused r.reason r.number)
refused_manifests bytes t e o r spells fault is some start len =
    let refuses : manifests_refusal e ≡ Some r = sym is ∙ some in
    record {
      store = (here start len t, (spells, refl), (e, bad_store t e r refuses fault, refuses));
      boxes = tt;
    }

-- a store of manifests
pub read_here : (bytes : List ℕ) (t : Tree) (s : List ManifestBoxes) → SpellsTree bytes t → store_refusal t ≡ None
    → s ≡ store_of t → IsReadFrom bytes (Here t s)
read_here bytes t s spells none is start len = record {
  store = (here start len t, (spells, refl), (none, refl));
  boxes = record { accepted = none; same = is };
}

-- bytes that were read are those of a store that was found
pub read_found : {E : Type 0} (f : Found) (bytes : List ℕ) (r : Result StoreRead E) → bytes ≡ f.store
    → IfOk r (IsReadFrom bytes) → IfOk r (IsStoreRead f)
read_found f bytes (Err e) same h = tt
read_found f bytes (Ok r) same h =
    subst (λ (l : List ℕ). IsStoreRead (record { start = f.start; length = f.length; store = l }) r) same
    (h f.start f.length)

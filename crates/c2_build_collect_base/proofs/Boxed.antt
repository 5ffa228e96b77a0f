-- What is known of the stores that are joined, by their boxes; and how many manifests are joined.
use Rattle.std.proofs.Common.{◌≡◌, ℕ, ◌<◌, Bool, not, ◌&&◌, List, length, map, Option, None, Some, sym, ap, ◌∙◌, subst}
use Rattle.std.specs.List.{AllByRecursion, AllZip}
use Rattle.c2_spec.specs.C2pa.Manifest.{IsStoreOf, Manifest, manifests_of}
use Rattle.c2_spec.specs.Jumbf.Tree.{Tree, Trees}
use Rattle.c2_rules.specs.Claims.{Chained}
use Rattle.c2_rules.specs.Readings.{AreReadings, Reading}
use Rattle.c2_build_base.specs.declared.media.OlderStore.{OlderStore}
use Rattle.c2_chain_spec.specs.Joined.{is_carried, picked}
use Rattle.c2_new_file_spec.specs.Manifests.{manifest_of, supers_in, supers_of}
use Rattle.c2_new_file_spec.specs.Written.{IsStoreBox}
use Rattle.c2_new_file_spec.proofs.ByIndex.{same_manifests}
use Rattle.c2_new_file_spec.proofs.Stores.{read_len, some_boxes, store_boxes, supers_are}
use Rattle.c2_collect_spec.specs.Sides.{carried_trees, is_carried_box}
use Rattle.c2_collect_spec.proofs.Zips.{Reads, box_label, reads_zip, zip_picked}
use Rattle.c2_build_collect_base.specs.Steps.{IsReadOrNone, IsReadStore, boxes_of, old_boxes, old_readings, readings_of}
use Rattle.c2_build_collect_base.specs.declared.stores.ReadStore.{ReadStore}
use Rattle.c2_lemmas.proofs.Each.{zip_length}

-- a store with its chain was read
pub read_store : (o : OlderStore) (chain : Chained) (s : ReadStore) → s.older.now ≡ o → s.chain.now ≡ chain
    → IsStoreOf o.tree o.store → AreReadings (manifests_of o.tree) chain.readings → IsReadStore s
read_store o chain s older is boxes reads = record {
  boxes = subst (λ (x : OlderStore). IsStoreOf x.tree x.store) (sym older) boxes;
  reads = subst (λ (x : OlderStore). AreReadings (manifests_of x.tree) s.chain.now.readings) (sym older)
      (subst (λ (x : Chained). AreReadings (manifests_of o.tree) x.readings) (sym is) reads);
}

-- Boxes of a store, and what its manifests are read as.
pub record AreBoxed (boxes : Trees) (rs : List Reading) : Type 0 where
  pub reads : AreReadings (map manifest_of (supers_in boxes)) rs
  pub stores : AllByRecursion IsStoreBox (supers_in boxes)

-- the boxes of a store that was read come with their readings
pub read_boxed : (s : ReadStore) → IsReadStore s → AreBoxed (boxes_of s) (readings_of s)
read_boxed s h =
    let t : Tree = s.older.now.tree in
    let supers : supers_of t ≡ supers_in (boxes_of s) = supers_are t in
    record {
      reads =
          subst (λ (ms : List Manifest). AreReadings ms (readings_of s))
          (same_manifests t ∙ ap (map manifest_of) supers) h.reads;
      stores = subst (AllByRecursion IsStoreBox) supers (store_boxes t h.boxes.accepted);
    }

-- the boxes of an older store, where there is one, come with their readings
pub old_boxed : (o : Option ReadStore) → IsReadOrNone o → AreBoxed (old_boxes o) (old_readings o)
old_boxed None h = record { reads = tt; stores = tt }
old_boxed (Some s) h = read_boxed s h

-- a store has a manifest
pub some_read : (s : ReadStore) → IsReadStore s → 0 < length (readings_of s)
some_read s h =
    let t : Tree = s.older.now.tree in
    subst (λ k. 0 < k)
    (ap length (supers_are t) ∙ read_len (supers_in (boxes_of s)) (readings_of s) (read_boxed s h).reads)
    (some_boxes t h.boxes.accepted)

-- as many boxes are carried as readings
pub carried_len : (old other : Trees) (old_rs other_rs : List Reading) (reached : ℕ → Bool) → AreBoxed old old_rs
    → AreBoxed other other_rs
    → length (carried_trees (supers_in old) reached (supers_in other)) ≡ length (picked (is_carried old_rs reached) 0 other_rs)
carried_len old other old_rs other_rs reached a b =
    let zips : AllZip Reads (carried_trees (supers_in old) reached (supers_in other)) (picked (is_carried old_rs reached) 0 other_rs) =
    zip_picked Reads (is_carried_box (supers_in old) reached) (is_carried old_rs reached) 0 (supers_in other) other_rs
    (λ i t r h. ap (λ x. reached i && not x) (box_label (supers_in old) old_rs t r (reads_zip (supers_in old) old_rs a.reads a.stores) h)) (reads_zip (supers_in other) other_rs b.reads b.stores) in
    zip_length Reads (carried_trees (supers_in old) reached (supers_in other))
    (picked (is_carried old_rs reached) 0 other_rs) zips

-- Two stores that can be joined and don't clash join to one; a valid store can be joined, and so can that of an accepted file; and a
-- store that can be joined is taken over by a new one.
use Rattle.c2_read_manifests.proofs.TheLaws.{one_reading_manifest}
use Rattle.c2_chain_spec.proofs.ChainLaws.{a_store_is_rooted_at_its_last_manifest, chains_join}
use Rattle.c2_new_file_spec.proofs.ParentLaws.{a_redacted_store_is_read_less}
use Rattle.std.proofs.Common.{◌≡◌, ℕ, ◌+◌, ◌<◌, Bool, true, false, not, ◌&&◌, cond, List, [], ◌∷◌, ◌++◌, length, map, Some, None, refl, sym, ap, ◌∙◌, subst, arith, bytes_eq, lit≤}
use Rattle.std.specs.Prelude.{unwrap_or}
use Rattle.std.specs.List.{AllByRecursion, AllZip}
use Rattle.std.proofs.lemmas.Slice.Eq.{bytes_eq-Decides}
use Rattle.c2_base.specs.declared.limits.TheConstants.{MAX_MANIFESTS}
use Rattle.c2_base.specs.declared.values.Question.{Question}
use Rattle.c2_spec.specs.C2pa.Manifest.{Manifest, manifests_of}
use Rattle.c2_spec.specs.Jumbf.Tree.{AreDistinctLabels, IsLegalTree, IsNewLabel, Tree, Trees, leaf, super, tree_bytes, tree_label}
use Rattle.c2_spec.specs.declared.digest.Alg.{Alg}
use Rattle.c2_spec.specs.declared.panel.Verdict.{Verdict}
use Rattle.c2_rules.specs.CheckList.{StoreReading, active_in, active_tests, chain_tests, check_list, judged_tests, last_tests}
use Rattle.c2_rules.specs.Readings.{AreReadings, IsReading, Reading}
use Rattle.c2_rules.specs.Rules.{unjudged_tests}
use Rattle.c2_rules.specs.Tests.{AllHold}
use Rattle.c2_chain_spec.specs.Joined.{NoneClashes, has_manifest, is_carried, joined, picked}
use Rattle.c2_chain_spec.specs.Rooted.{AllReadKinds, is_reached_from, last_roots}
use Rattle.c2_definition.specs.declared.types.Definition.{Definition}
use Rattle.c2_new_file_spec.specs.Manifests.{is_super, manifest_of, supers_in, supers_of}
use Rattle.c2_new_file_spec.specs.Written.{IsStoreBox}
use Rattle.c2_new_file_spec.proofs.ByIndex.{same_manifests}
use Rattle.c2_rules.proofs.Conditions.{Holds, all_each, all_hold}
use Rattle.c2_new_file_spec.specs.Less.{IsReadLess}
use Rattle.c2_new_file_spec.specs.Redacting.{boxes_in, redacted_boxes}
use Rattle.c2_new_file_spec.proofs.Places.{less_len}
use Rattle.c2_new_file_spec.proofs.Stores.{label_some, legal_at, legal_inside, none_taken, read_label, read_len, some_boxes, store_boxes, store_differs, supers_are}
use Rattle.c2_new_content_spec.specs.Taken.{IsTakenFrom}
use Rattle.c2_collect_spec.specs.Refusals.{AreAcceptedBy, redaction_refusal_by}
use Rattle.c2_collect_spec.specs.Sides.{DoNotClash, carried_trees, has_same_label, is_carried_box, joined_boxes}
use Rattle.c2_collect_spec.specs.Stores.{AcceptedFileIsRooted, IsRootedStore, NoStoreIsRooted, RootedStoreIsTaken, RootedStoresJoin, ValidStoreIsRooted}
use Rattle.c2_collect_spec.proofs.Accepted.{accepted}
use Rattle.c2_collect_spec.proofs.Zips.{IsFree, Reads, ZipAt, all_picked, are_supers, box_label, free_of, higher, legal_supers, picked_distinct, reads_zip, supers_distinct, then_distinct, then_legal, then_supers, zip_at, zip_picked, zip_reads}
use Rattle.c2_lemmas.proofs.Bools.{both_true, not_true_is_false}
use Rattle.c2_lemmas.proofs.Each.{each_append, each_back, each_front, zip_append}
use Rattle.c2_new_file_spec.proofs.Valid.{boxes_kinds, unjudged_all}
use Rattle.c2_spec.proofs.JumbfOneTree.{spells_once}
use Rattle.c2_rules.proofs.OpenedStore.{IsOpenedStore, opened_store}

-- ---- stores that join

-- two boxes of one spelling are one
same_tree : (t u : Tree) → IsLegalTree 2 t → IsLegalTree 2 u → tree_bytes t ≡ tree_bytes u → t ≡ u
same_tree t u a b e =
    spells_once (tree_bytes t) t u (record { whole = refl; legal = higher 1 2 t (lit≤ tt) a })
    (record { whole = e; legal = higher 1 2 u (lit≤ tt) b })

-- two stores that don't clash by their bytes don't by what they are read as
pub none_clashes : (hash : Alg → List ℕ → List ℕ) (old other : Trees) (old_rs other_rs : List Reading) (old_roots other_roots : List ℕ)
    → IsRootedStore hash old old_rs old_roots → IsRootedStore hash other other_rs other_roots
    → DoNotClash (supers_in old) (is_reached_from old_rs old_roots) (supers_in other) (is_reached_from other_rs other_roots)
    → NoneClashes old_rs (is_reached_from old_rs old_roots) other_rs (is_reached_from other_rs other_roots)
none_clashes hash old other old_rs other_rs old_roots other_roots a b apart i p r s reached is at same =
    (both.0, one_reading_manifest (manifest_of theirs.it) s r (subst (λ (x : Tree). IsReading (manifest_of x) s) one ours.corresponds.0) theirs.corresponds.0)
  where
    theirs : ZipAt Reads (supers_in other) i r
    theirs = zip_at Reads (supers_in other) other_rs i r (reads_zip (supers_in other) other_rs b.reads b.stores) is

    ours : ZipAt Reads (supers_in old) p s
    ours = zip_at Reads (supers_in old) old_rs p s (reads_zip (supers_in old) old_rs a.reads a.stores) at

    label : tree_label ours.it ≡ tree_label theirs.it
    label =
        read_label ours.it s ours.corresponds.0 ours.corresponds.1 ∙ ap Some (sym same)
        ∙ sym (read_label theirs.it r theirs.corresponds.0 theirs.corresponds.1)

    sure : (x : Bool) → (is_reached_from old_rs old_roots p && bytes_eq (tree_bytes ours.it) (tree_bytes theirs.it)) ≡ x
        → (is_reached_from old_rs old_roots p && bytes_eq (tree_bytes ours.it) (tree_bytes theirs.it)) ≡ true
    sure true e = e
    sure false e =
        absurd
        (apart i (record { is_reached = reached; theirs = theirs.it; is_theirs = theirs.is; place = p; ours = ours.it; is_ours = ours.is; label = label; differs = e }))

    both : (is_reached_from old_rs old_roots p ≡ true) × (bytes_eq (tree_bytes ours.it) (tree_bytes theirs.it) ≡ true)
    both =
        both_true (is_reached_from old_rs old_roots p) (bytes_eq (tree_bytes ours.it) (tree_bytes theirs.it))
        (sure (is_reached_from old_rs old_roots p && bytes_eq (tree_bytes ours.it) (tree_bytes theirs.it)) refl)

    one : ours.it ≡ theirs.it
    one =
        same_tree ours.it theirs.it (legal_at old 2 p ours.it a.legal ours.is)
        (legal_at other 2 i theirs.it b.legal theirs.is)
        ((bytes_eq-Decides (tree_bytes ours.it) (tree_bytes theirs.it)).0 both.1)

-- a manifest has a label
pub label_there : (t : Tree) → IsStoreBox t → (l : List ℕ) × (tree_label t ≡ Some l)
label_there (leaf b) h = absurd (cc (h.label))
label_there (super wide d us) h = (unwrap_or d.label [], label_some d.label h.label)

-- the label of what is carried is free
carried_free : (old : Trees) (reached : ℕ → Bool) (i : ℕ) (t : Tree)
    → is_carried_box (supers_in old) reached i t ≡ true → IsStoreBox t → IsFree old t
carried_free old reached i t e k =
    let l = label_there t k in
    free_of old t l.0 l.1
    (not_true_is_false (has_same_label (supers_in old) t) (both_true (reached i) (not (has_same_label (supers_in old) t)) e).1)

-- the label of each carried manifest is free
all_free : (old : Trees) (reached : ℕ → Bool) (k : ℕ) (ts : List Tree) → AllByRecursion IsStoreBox ts
    → AllByRecursion (IsFree old) (picked (is_carried_box (supers_in old) reached) k ts)
all_free old reached k [] h = tt
all_free old reached k (t ∷ ts) h = step (is_carried_box (supers_in old) reached k t) refl (all_free old reached (k + 1) ts h.1)
  where
    step : (b : Bool) → is_carried_box (supers_in old) reached k t ≡ b
        → AllByRecursion (IsFree old) (picked (is_carried_box (supers_in old) reached) (k + 1) ts)
        → AllByRecursion (IsFree old)
        (cond b (t ∷ picked (is_carried_box (supers_in old) reached) (k + 1) ts) (picked (is_carried_box (supers_in old) reached) (k + 1) ts))
    step true e rest = (carried_free old reached k t e h.0, rest)
    step false e rest = rest

-- two stores that don't clash join to one
pub rooted_join : RootedStoresJoin
rooted_join hash old other old_rs other_rs old_roots other_roots a b apart =
    let reached : ℕ → Bool = is_reached_from other_rs other_roots in
    let cs : List Tree = carried_trees (supers_in old) reached (supers_in other) in
    let picks : ℕ → Tree → Bool = is_carried_box (supers_in old) reached in
    let supers : supers_in (joined_boxes old reached other) ≡ supers_in old ++ cs =
    then_supers old cs (all_picked (λ (x : Tree). is_super x ≡ true) picks 0 (supers_in other) (are_supers other)) in
    let old_zip = reads_zip (supers_in old) old_rs a.reads a.stores in
    let zips : AllZip Reads cs (picked (is_carried old_rs reached) 0 other_rs) =
    zip_picked Reads picks (is_carried old_rs reached) 0 (supers_in other) other_rs
    (λ i t r h. ap (λ x. reached i && not x) (box_label (supers_in old) old_rs t r old_zip h)) (reads_zip (supers_in other) other_rs b.reads b.stores) in
    record {
      legal =
          then_legal 2 old cs a.legal
          (all_picked (IsLegalTree 2) picks 0 (supers_in other) (legal_supers 2 other b.legal));
      distinct =
          then_distinct old cs a.distinct (picked_distinct picks 0 (supers_in other) (supers_distinct other b.distinct))
          (all_free old reached 0 (supers_in other) b.stores);
      stores =
          subst (AllByRecursion IsStoreBox) (sym supers)
          (each_append IsStoreBox (supers_in old) cs a.stores (all_picked IsStoreBox picks 0 (supers_in other) b.stores));
      reads = subst (λ (ts : List Tree). AreReadings (map manifest_of ts) (joined old_rs reached other_rs)) (sym supers)
          (zip_reads (supers_in old ++ cs) (joined old_rs reached other_rs) (zip_append Reads (supers_in old) cs old_rs (picked (is_carried old_rs reached) 0 other_rs) old_zip zips));
      rooted =
          (chains_join hash old_rs other_rs old_roots other_roots a.rooted b.rooted (none_clashes hash old other old_rs other_rs old_roots other_roots a b apart)).rooted;
    }

-- ---- a valid store

-- the rules but the verdicts hold of the manifests of a valid store
valid_chain : (hash : Alg → List ℕ → List ℕ) (said : Question → Verdict) (s : StoreReading)
    → AllHold (check_list hash said s) → AllHold (chain_tests (unjudged_tests hash) s.readings)
valid_chain hash said s h =
    let rs : List Reading = s.readings in
    all_hold (chain_tests (unjudged_tests hash) rs)
    (unjudged_all hash said rs (length rs)
    (each_front Holds (chain_tests (judged_tests hash said) rs) (last_tests hash s.binding (active_in rs)) (each_back Holds (active_tests (active_in rs)) _ (all_each (check_list hash said s) h))))

-- each of a chain
all_kinds : (ms : List Manifest) (rs : List Reading) → AreReadings ms rs → AllReadKinds rs
all_kinds ms rs h i r is = let at = zip_at IsReading ms rs i r h is in boxes_kinds at.it.assertions r.boxes at.corresponds.boxes

-- a valid store can be joined
pub valid_rooted : ValidStoreIsRooted
valid_rooted hash said t s h =
    let rs : List Reading = s.readings in
    let boxes : Trees = boxes_in t in
    let inside = legal_inside t h.legal in
    let supers : supers_of t ≡ supers_in boxes = supers_are t in
    let stores : AllByRecursion IsStoreBox (supers_in boxes) =
    subst (AllByRecursion IsStoreBox) supers (store_boxes t h.store) in
    let ms : manifests_of t ≡ map manifest_of (supers_in boxes) = same_manifests t ∙ ap (map manifest_of) supers in
    let reads : AreReadings (map manifest_of (supers_in boxes)) rs =
    subst (λ (x : List Manifest). AreReadings x rs) ms h.reads in
    record {
      legal = inside.legal;
      distinct = inside.distinct;
      stores = stores;
      reads = reads;
      rooted =
          a_store_is_rooted_at_its_last_manifest hash rs (store_differs boxes rs reads stores inside.distinct)
          (all_kinds (map manifest_of (supers_in boxes)) rs reads) (valid_chain hash said s h.valid);
    }

-- no boxes, as of a file without a store, can be joined
pub none_rooted : NoStoreIsRooted
none_rooted hash = record {
  legal = tt;
  distinct = tt;
  stores = tt;
  reads = tt;
  rooted =
      record
      { differ = λ i j r s e f g. absurd (cc (e)); kinds = λ i r e. absurd (cc (e)); within = tt; holds = λ i r e is. absurd (cc (is)) };
}

-- ---- an accepted file

-- the store of an accepted file can be joined
pub accepted_rooted : AcceptedFileIsRooted
accepted_rooted hash said file start len t s h =
    let o : IsOpenedStore t = opened_store file start len t h.opened in
    let sided : IsRootedStore hash (boxes_in t) s.readings (last_roots s.readings) =
    valid_rooted hash said t s
    (record { legal = o.legal; store = o.accepted; reads = h.reads.reads.each; valid = h.valid }) in (
      sided,
      subst (λ k. 0 < k) (ap length (supers_are t) ∙ read_len (supers_in (boxes_in t)) s.readings sided.reads)
          (some_boxes t o.accepted),
    )

-- ---- what is taken over

-- a store is taken over as what is left of it is read
pub taken_less : (hash : Alg → List ℕ → List ℕ) (d : Definition) (boxes : Trees) (rs : List Reading) (roots : List ℕ)
    → (k : IsReadLess d.redact boxes rs)
    → IsRootedStore hash boxes rs roots → has_manifest rs d.label ≡ false → length rs < MAX_MANIFESTS
    → redaction_refusal_by (is_reached_from rs roots) d.label rs d.redact ≡ None
    → IsTakenFrom hash d (redacted_boxes d.redact boxes) roots rs k.ss
taken_less hash d boxes rs roots k h free room refusal =
    let may : AreAcceptedBy (is_reached_from rs roots) d.label rs d.redact =
    accepted (is_reached_from rs roots) d.label rs d.redact h.rooted.differ refusal in
    let vs : Trees = redacted_boxes d.redact boxes in
    let left : length (supers_in vs) ≡ length rs =
    read_len (supers_in vs) k.ss k.reads ∙ less_len d.redact rs k.ss k.less in
    record {
      can_be = record {
        legal = k.legal;
        distinct = subst AreDistinctLabels (sym k.labels) h.distinct;
        new =
            subst (λ os. IsNewLabel (Some d.label) os) (sym k.labels)
            (none_taken d.label boxes rs h.reads h.stores free);
        manifests = k.stores;
        few = omega (arith, left, room);
      };
      reads = k.reads;
      less = k.less;
      rooted = h.rooted;
      can = may.can;
      redactions = may.rules;
    }

-- a rooted store is taken over
pub rooted_taken : RootedStoreIsTaken
rooted_taken hash d boxes rs roots h free room refusal =
    let k : IsReadLess d.redact boxes rs = a_redacted_store_is_read_less d.redact boxes rs h.legal h.stores h.reads in
    (k.ss, taken_less hash d boxes rs roots k h free room refusal)

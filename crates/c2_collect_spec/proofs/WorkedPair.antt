-- Worked files that collect: of the JPEG file without a store, and of the first file itself, the other file being the first file.
use Rattle.c2_new_file_spec.proofs.FileLaws.{a_new_store_has_one_length_in_its_place}
use Rattle.c2_new_content_spec.proofs.SplitLaws.{a_base_stays}
use Rattle.std.proofs.Common.{◌≡◌, ℕ, ◌+◌, ◌<◌, ◌≤◌, Bool, true, false, cond, bytes_eq, List, [], ◌∷◌, ◌++◌, length, replicate, Some, None, refl, sym, ap, ◌∙◌, subst, arith, codes, lit<, slice_get, zero, suc, ◌&&◌, ◌||◌, length-append}
use Rattle.std.specs.Prelude.{nat_le, nat_lt, not}
use Rattle.std.specs.List.{AllZip, cons_option}
use Rattle.std.proofs.lemmas.Bool.{both_ways, leb-false, ltb-false}
use Rattle.std.proofs.lemmas.Option.{same_Some}
use Rattle.std.proofs.lemmas.Slice.Eq.{bytes_eq-Decides}
use Rattle.c2_base.specs.declared.limits.TheConstants.{FILE_LEN_LIMIT, MAX_MANIFESTS, MAX_STORE_LEN}
use Rattle.c2_base.specs.declared.values.Question.{Question}
use Rattle.c2_spec.specs.Cbor.Deterministic.{shortest_head}
use Rattle.c2_spec.specs.Digest.{zero_digest}
use Rattle.c2_spec.specs.Jpeg.Writing.{packets_bytes, segments_len}
use Rattle.c2_spec.specs.Jumbf.Tree.{Tree, Trees, more, none, tree_bytes}
use Rattle.c2_spec.specs.Located as located
use Rattle.c2_spec.specs.declared.digest.Alg.{Alg}
use Rattle.c2_spec.specs.declared.digest.Alg.TheVariants.{Sha256}
use Rattle.c2_spec.specs.declared.panel.Verdict.{Verdict}
use Rattle.c2_rules.specs.Chains.{LabelsDiffer, is_reached, label_in}
use Rattle.c2_rules.specs.CheckList.{answer_of, check_list, store_answer, summary_of}
use Rattle.c2_rules.specs.Readings.{Reading}
use Rattle.c2_rules.specs.Tests.{first_failing}
use Rattle.c2_rules.proofs.FirstLemmas.{none_fails}
use Rattle.c2_rules.proofs.ReachLemmas.{place_is}
use Rattle.c2_chain_spec.specs.Joined.{has_manifest, joined_roots}
use Rattle.c2_chain_spec.specs.Rooted.{last_roots}
use Rattle.c2_definition.specs.declared.types.NewAssertion.{NewAssertion}
use Rattle.c2_new_signature.specs.Signed.{IsSigned}
use Rattle.c2_new_file_spec.specs.Built.{no_digest, store_size}
use Rattle.c2_new_file_spec.specs.Fresh.{GivesDigests}
use Rattle.c2_new_file_spec.specs.FreshBoxes.{contents_of, item_box, store_box}
use Rattle.c2_new_file_spec.specs.Manifests.{supers_in}
use Rattle.c2_new_file_spec.specs.Store.{Content, NamedManifest, data_binding, new_manifest}
use Rattle.c2_new_file_spec.proofs.StoreSize.{store_len}
use Rattle.c2_new_file_spec.specs.Redacting.{boxes_in}
use Rattle.c2_new_file_spec.specs.Bases.{IsLeft}
use Rattle.c2_new_file_spec.specs.Places.{CanPut, bound_text, place_file, place_start, place_store, range_len}
use Rattle.c2_new_file_spec.specs.Places as places
use Rattle.c2_collect_spec.specs.Collected.{CollectsFrom, IsCollected, IsNamedAt, collected_ingredients, collected_readings, collected_roots}
use Rattle.c2_collect_spec.specs.Order.{CanCollectPair, FilePair, IsCollectedFile, IsCollectedFrom, IsFilePair, IsValidAnswer, OtherFile, SomeFileIsCollected}
use Rattle.c2_collect_spec.specs.Sides.{DoNotClash}
use Rattle.c2_collect_spec.specs.Stores.{IsRootedStore}
use Rattle.c2_collect_spec.proofs.Stores.{accepted_rooted, none_rooted}
use Rattle.c2_collect_spec.proofs.Worked.{IsFirst, can_put, defined, first, first_file, first_label, first_len, is_absent, is_first, is_place, manifest, media, none_begins, parts, place, second_label, second_written, signed, store}
use Rattle.c2_lemmas.proofs.Bools.{and_true}

-- ---- the manifest that the ingredients name

-- the signature box of the manifest that the ingredients name
abbrev signature : List ℕ → Tree
signature filled = item_box (codes "c2cs") (codes "c2pa.signature") filled

-- the first manifest, as it stands in the new store
abbrev named : (List ℕ → List ℕ) → List ℕ → NamedManifest
named hash filled =
    record
    { label = first_label; contents = contents_of (manifest hash filled); signed = contents_of (signature filled) }

-- the boxes that are carried: the first manifest alone
abbrev carried : (List ℕ → List ℕ) → List ℕ → Trees
carried hash filled = more (manifest hash filled) none

-- the manifest that is carried stands at the one place
is_named : (hash : List ℕ → List ℕ) (filled : List ℕ)
    → IsNamedAt (named hash filled) (supers_in (carried hash filled)) 0
is_named hash filled =
    record
    { manifest = manifest hash filled; is_manifest = refl; label = refl; contents = refl; signature = signature filled; is_signature = refl; signed = refl }

-- ---- the joined chain

-- the labels of one manifest differ
one_differs : (r : Reading) → LabelsDiffer (r ∷ [])
one_differs r zero zero s t e f g = refl
one_differs r zero (suc j) s t e f g = absurd (cc (f))
one_differs r (suc i) j s t e f g = absurd (cc (e))

-- over no store the chain is that of the other file
alone_readings : (r : Reading) → collected_readings [] (r ∷ []) ≡ r ∷ []
alone_readings r = refl

-- over no store the root of the joined chain is its one manifest
alone_roots : (r : Reading) → collected_roots [] (r ∷ []) ≡ 0 ∷ []
alone_roots r = ap (λ o. cons_option o []) (place_is (r ∷ []) 0 r (one_differs r) refl)

-- over the same store the chain is that store's
twice_readings : (r : Reading) → collected_readings (r ∷ []) (r ∷ []) ≡ r ∷ []
twice_readings r =
    ap (λ b. (r ∷ []) ++ cond (not (b || false)) (r ∷ []) []) ((bytes_eq-Decides (label_in r) (label_in r)).1 refl)

-- both roots of a store that is collected over itself are its one manifest
twice_roots : (r : Reading) → collected_roots (r ∷ []) (r ∷ []) ≡ 0 ∷ 0 ∷ []
twice_roots r =
    ap (λ js. joined_roots (0 ∷ []) (r ∷ []) (0 ∷ []) js) (twice_readings r)
    ∙ ap (λ o. 0 ∷ cons_option o []) (place_is (r ∷ []) 0 r (one_differs r) refl)

-- the second label is free
second_free : (r : Reading) → label_in r ≡ first_label → has_manifest (r ∷ []) second_label ≡ false
second_free r e = ap (λ l. bytes_eq l second_label || false) e

-- ---- what goes into the new store

-- over no store: the first manifest is a component
abbrev alone : (List ℕ → List ℕ) → List ℕ → Content
alone hash filled =
    record
    { definition = defined second_label; carried = carried hash filled; ingredients = collected_ingredients (named hash filled ∷ []) }

-- over a store that is collected as well the first manifest is a component and the parent
abbrev twice : (List ℕ → List ℕ) → List ℕ → Content
twice hash filled =
    record
    { definition = defined second_label; carried = carried hash filled; ingredients = collected_ingredients (named hash filled ∷ named hash filled ∷ []) }

-- this goes in over no store
alone_collects : (hash : List ℕ → List ℕ) (filled : List ℕ) (r : Reading)
    → CollectsFrom (defined second_label) none (boxes_in (store hash filled)) [] (r ∷ []) (alone hash filled)
alone_collects hash filled r = record {
  definition = refl;
  carried = refl;
  named = named hash filled ∷ [];
  are =
      subst
      (λ (roots : List ℕ). AllZip (λ (p : NamedManifest) root. IsNamedAt p (supers_in (carried hash filled)) root) (named hash filled ∷ []) roots)
      (sym (alone_roots r)) (is_named hash filled, tt);
  ingredients = refl;
}

-- this content goes into a new store over a store that is collected as well
twice_collects : (hash : List ℕ → List ℕ) (filled : List ℕ) (r : Reading)
    → CollectsFrom (defined second_label) (boxes_in (store hash filled)) (boxes_in (store hash filled)) (r ∷ []) (r ∷ []) (twice hash filled)
twice_collects hash filled r = record {
  definition = refl;
  carried = refl;
  named = named hash filled ∷ named hash filled ∷ [];
  are =
      subst
      (λ (roots : List ℕ). AllZip (λ (p : NamedManifest) root. IsNamedAt p (supers_in (carried hash filled)) root) (named hash filled ∷ named hash filled ∷ []) roots)
      (sym (twice_roots r)) (is_named hash filled, (is_named hash filled, tt));
  ingredients = refl;
}

-- ---- how long the new store is

-- a binding without a digest
abbrev no_binding : NewAssertion
no_binding = data_binding Sha256 0 0 (zero_digest Sha256)

-- the first manifest without digests
abbrev bare_manifest : Tree
bare_manifest = new_manifest (no_digest Sha256) first no_binding (replicate 64 0)

-- the first manifest as an ingredient's, where only its label counts
abbrev bare : NamedManifest
bare = record { label = first_label; contents = []; signed = [] }

-- what goes into a new store over the first manifest without digests, with ingredients that name such manifests
abbrev bare_content : List NamedManifest → Content
bare_content ps =
    record
    { definition = defined second_label; carried = more bare_manifest none; ingredients = collected_ingredients ps }

-- the new manifest of a content without digests
abbrev bare_new : List NamedManifest → Tree
bare_new ps = new_manifest (no_digest Sha256) (bare_content ps) no_binding (replicate 64 0)

-- how many bytes the store has over no store
abbrev one_total : ℕ
one_total = store_size (bare_content (bare ∷ [])) 64

-- how many bytes the new store has over a store that is collected as well
abbrev two_total : ℕ
two_total = store_size (bare_content (bare ∷ bare ∷ [])) 64

-- the new stores aren't too large
one_small : nat_lt MAX_STORE_LEN one_total ≡ false
unfolding shortest_head
one_small = refl

two_small : nat_lt MAX_STORE_LEN two_total ≡ false
unfolding shortest_head
two_small = refl

-- the new files aren't too large
one_fits : nat_le FILE_LEN_LIMIT (length media + segments_len one_total) ≡ false
unfolding shortest_head
one_fits = refl

two_fits : nat_le FILE_LEN_LIMIT (length media + segments_len two_total) ≡ false
unfolding shortest_head
two_fits = refl

-- stores of one carried manifest and the same new one are as long as each other where the carried ones are
same_store : (m n new : Tree) → length (tree_bytes m) ≡ length (tree_bytes n)
    → length (tree_bytes (store_box (more m none) new)) ≡ length (tree_bytes (store_box (more n none) new))
same_store m n new same =
    omega (
      arith,
      same,
      store_len (more m none) new,
      store_len (more n none) new,
      length-append (tree_bytes m) [],
      length-append (tree_bytes n) [],
    )

-- the first manifest is as long as one without digests
manifest_same : (hash : Alg → List ℕ → List ℕ) → GivesDigests hash → (filled : List ℕ) → length filled ≡ 64
    → length (tree_bytes (manifest (hash Sha256) filled)) ≡ length (tree_bytes bare_manifest)
manifest_same hash digests filled e =
    let whole : length (tree_bytes (store (hash Sha256) filled)) ≡ places.store_len place first (length filled) =
    a_new_store_has_one_length_in_its_place (hash Sha256) first place (first_len filled)
    (hash Sha256 (bound_text media place)) filled (λ text. (digests Sha256 text).sized) (digests Sha256 (bound_text media place)).sized in
    by (manifest (hash Sha256) filled) bare_manifest (whole ∙ ap (places.store_len place first) e)
  where
    by : (m n : Tree) → length (tree_bytes (store_box none m)) ≡ length (tree_bytes (store_box none n))
        → length (tree_bytes m) ≡ length (tree_bytes n)
    by m n same = omega (arith, same, store_len none m, store_len none n)

-- a store of so many bytes can be put in
can_put_in : (x : Content) (n : ℕ) (filled : List ℕ) → store_size x 64 ≡ n → nat_lt MAX_STORE_LEN n ≡ false
    → nat_le FILE_LEN_LIMIT (length media + segments_len n) ≡ false → length filled ≡ 64
    → CanPut x (length filled) media place
can_put_in x n filled size small fits e = record {
  place = record { is = is_place; free = none_begins };
  room = (0x0211, refl);
  small =
      subst (λ k. places.store_len place x k ≤ MAX_STORE_LEN) (sym e)
      (subst (λ k. k ≤ MAX_STORE_LEN) (sym size) (ltb-false MAX_STORE_LEN n small));
  fits = subst (λ k. length media + range_len place x k < FILE_LEN_LIMIT) (sym e)
      (subst (λ k. length media + segments_len k < FILE_LEN_LIMIT) (sym size) (leb-false FILE_LEN_LIMIT (length media + segments_len n) fits));
}

-- the store can be put in, over no store
alone_can : (hash : Alg → List ℕ → List ℕ) → GivesDigests hash → (filled : List ℕ) → length filled ≡ 64
    → CanPut (alone (hash Sha256) filled) (length filled) media place
alone_can hash digests filled e =
    can_put_in (alone (hash Sha256) filled) one_total filled
    (same_store (manifest (hash Sha256) filled) bare_manifest (bare_new (bare ∷ [])) (manifest_same hash digests filled e))
    one_small one_fits e

-- the new store can be put in, over a store that is collected as well
twice_can : (hash : Alg → List ℕ → List ℕ) → GivesDigests hash → (filled : List ℕ) → length filled ≡ 64
    → CanPut (twice (hash Sha256) filled) (length filled) media place
twice_can hash digests filled e =
    can_put_in (twice (hash Sha256) filled) two_total filled
    (same_store (manifest (hash Sha256) filled) bare_manifest (bare_new (bare ∷ bare ∷ [])) (manifest_same hash digests filled e))
    two_small two_fits e

-- ---- the two files

-- what stands at a place of one is it
one_at : {X : Type 0} (x y : X) (i : ℕ) → slice_get (x ∷ []) i ≡ Some y → (i ≡ 0) × (x ≡ y)
one_at x y zero e = (refl, same_Some x y e)
one_at x y (suc i) e = absurd (cc (e))

-- the first store doesn't clash with itself
twice_apart : (m : Tree) (r : Reading) → DoNotClash (m ∷ []) (is_reached (r ∷ [])) (m ∷ []) (is_reached (r ∷ []))
twice_apart m r i c =
    let ours = one_at m c.ours c.place c.is_ours in
    let theirs = one_at m c.theirs i c.is_theirs in
    let alike : bytes_eq (tree_bytes c.ours) (tree_bytes c.theirs) ≡ true =
    (bytes_eq-Decides (tree_bytes c.ours) (tree_bytes c.theirs)).1 (ap tree_bytes (sym ours.1 ∙ theirs.1)) in
    both_ways (is_reached (r ∷ []) c.place && bytes_eq (tree_bytes c.ours) (tree_bytes c.theirs)) c.differs
    (and_true (is_reached (r ∷ []) c.place) (bytes_eq (tree_bytes c.ours) (tree_bytes c.theirs)) (ap (is_reached (r ∷ [])) ours.0) alike)

-- no store clashes with another
alone_apart : (ts : List Tree) (f g : ℕ → Bool) → DoNotClash [] f ts g
alone_apart ts f g i c = let none = c.is_ours in absurd (cc (none))

-- ---- the file

-- a file is built where a store of the second definition can be put into that JPEG file
builds : (hash : Alg → List ℕ → List ℕ) (pair : FilePair) (c : Content) (filled : List ℕ)
    → pair.media.base ≡ media → CanCollectPair hash (defined second_label) pair
    → IsCollected hash (defined second_label) pair.media.boxes pair.other.boxes pair.media.readings pair.other.readings c
    → IsSigned parts 64 filled → CanPut c (length filled) media place
    → (file : List ℕ) × IsCollectedFile hash (defined second_label) pair parts place file
builds hash pair c filled base collects is s can =
    let bytes : List ℕ = packets_bytes (tree_bytes (place_store (hash Sha256) c filled pair.media.base place)) 0x0211 in (
      place_file pair.media.base place bytes,
      record {
        own = refl;
        collects = collects;
        content = c;
        collected = is;
        message = filled;
        signed = s;
        can = subst (λ (x : List ℕ). CanPut c (length filled) x place) (sym base) can;
        bytes = bytes;
        put = refl;
        is = refl;
      },
    )

-- The file of the second definition over these two files, with both as they are read.
pub record IsSecond (hash : Alg → List ℕ → List ℕ) (said : Question → Verdict) (media other : List ℕ) : Type 0 where
  pub file : List ℕ
  pub pair : FilePair
  pub read : IsFilePair hash said media other pair
  pub is : IsCollectedFile hash (defined second_label) pair parts place file

-- a file is built of two files that go together so
built_from :
    (hash : Alg → List ℕ → List ℕ) (said : Question → Verdict) (own other : List ℕ) (k : IsSecond hash said own other)
    → IsCollectedFrom hash said own other k.file
built_from hash said own other k =
    record { definition = defined second_label; pair = k.pair; read = k.read; parts = parts; place = place; is = k.is }

module _ (hash : Alg → List ℕ → List ℕ) (said : Question → Verdict) (digests : GivesDigests hash) (filled : List ℕ)
    (s : IsSigned parts 64 filled) (k : IsFirst hash said filled) where
  -- the first store and file
  abbrev t : Tree
  t = store (hash Sha256) filled

  abbrev file : List ℕ
  file = first_file (hash Sha256) filled

  -- what the first file is as the other file
  abbrev other : OtherFile
  other =
      record
      { answer = store_answer hash said (length file) (place_start place) (first_len filled) k.reading; boxes = boxes_in t; readings = k.own ∷ [] }

  -- no rule of it fails
  no_failing : first_failing (check_list hash said k.reading) ≡ None
  no_failing = none_fails (check_list hash said k.reading) k.accepted.valid

  -- the other file is valid
  valid : IsValidAnswer other.answer
  valid =
      (summary_of (length file) (place_start place) (first_len filled) k.reading, ap (answer_of (summary_of (length file) (place_start place) (first_len filled) k.reading)) no_failing)

  -- the store of the other file can be joined
  rooted : IsRootedStore hash (boxes_in t) (k.own ∷ []) (last_roots (k.own ∷ []))
  rooted = subst (λ (rs : List Reading). IsRootedStore hash (boxes_in t) rs (last_roots rs)) k.one
      (accepted_rooted hash said file (place_start place) (first_len filled) t k.reading k.accepted).0

  -- with the JPEG file
  abbrev alone_pair : FilePair
  alone_pair =
      record
      { media = record { boxes = none; readings = []; failing = None; base = media }; other = other; clash = None }

  -- which is that
  alone_read : IsFilePair hash said media file alone_pair
  alone_read = record {
    opened = located.absent;
    is_opened = is_absent;
    is_media = refl;
    found = located.here (place_start place) (first_len filled) t;
    is_found = k.accepted.opened;
    is_other =
        record { reading = k.reading; reads = k.accepted.reads; answer = refl; boxes = refl; readings = sym k.one };
    is_clash = alone_apart (supers_in (boxes_in t)) (is_reached []) (is_reached (k.own ∷ []));
  }

  -- a new store may collect from both
  alone_may : CanCollectPair hash (defined second_label) alone_pair
  alone_may = record {
    media = refl;
    other = valid;
    can = record {
      joins =
          record
          { old_store = none_rooted hash; other_store = rooted; some = lit< tt; apart = alone_apart (supers_in (boxes_in t)) (is_reached []) (is_reached (k.own ∷ [])) };
      label = second_free k.own k.label;
      redactions = refl;
    };
  }

  -- a file is built that collects the first file over no store
  pub alone_file : IsSecond hash said media file
  alone_file =
      let b = builds hash alone_pair (alone (hash Sha256) filled) filled refl alone_may
      (record { can = alone_may.can; few = lit< tt; written = second_written; content = alone_collects (hash Sha256) filled k.own })
      s
      (alone_can hash digests filled s.filled) in
      record { file = b.0; pair = alone_pair; read = alone_read; is = b.1 }

  -- with itself
  abbrev twice_pair : FilePair
  twice_pair =
      record
      { media = record { boxes = boxes_in t; readings = k.own ∷ []; failing = first_failing (check_list hash said k.reading); base = media }; other = other; clash = None }

  -- the first file less its range is the JPEG file
  left : IsLeft file (place_start place) (first_len filled) media
  left =
      sym
      (a_base_stays (hash Sha256) first filled media (packets_bytes (tree_bytes t) 0x0211) place (λ text. (digests Sha256 text).sized) (can_put filled s.filled) refl)

  -- which is that
  twice_read : IsFilePair hash said file file twice_pair
  twice_read = record {
    opened = located.here (place_start place) (first_len filled) t;
    is_opened = k.accepted.opened;
    is_media =
        record
        { reading = k.reading; reads = k.accepted.reads; boxes = refl; readings = sym k.one; failing = refl; left = left };
    found = located.here (place_start place) (first_len filled) t;
    is_found = k.accepted.opened;
    is_other =
        record { reading = k.reading; reads = k.accepted.reads; answer = refl; boxes = refl; readings = sym k.one };
    is_clash = twice_apart (manifest (hash Sha256) filled) k.own;
  }

  -- a new store may collect from both
  twice_may : CanCollectPair hash (defined second_label) twice_pair
  twice_may = record {
    media = no_failing;
    other = valid;
    can = record {
      joins =
          record
          { old_store = rooted; other_store = rooted; some = lit< tt; apart = twice_apart (manifest (hash Sha256) filled) k.own };
      label =
          ap (λ (js : List Reading). has_manifest js second_label) (twice_readings k.own) ∙ second_free k.own k.label;
      redactions = refl;
    };
  }

  -- a file is built that collects the first file over itself
  pub twice_file : IsSecond hash said file file
  twice_file =
      let few : length (collected_readings (k.own ∷ []) (k.own ∷ [])) < MAX_MANIFESTS =
      subst (λ (js : List Reading). length js < MAX_MANIFESTS) (sym (twice_readings k.own)) (lit< tt) in
      let b = builds hash twice_pair (twice (hash Sha256) filled) filled refl twice_may
      (record { can = twice_may.can; few = few; written = second_written; content = twice_collects (hash Sha256) filled k.own })
      s
      (twice_can hash digests filled s.filled) in
      record { file = b.0; pair = twice_pair; read = twice_read; is = b.1 }

-- some file that collects is built
pub some_file : SomeFileIsCollected
some_file false hash said digests all =
    let s = signed in
    let k : IsFirst hash said s.0 = is_first hash said digests all s.0 s.1 in
    let b = alone_file hash said digests s.0 s.1 k in
    (media, first_file (hash Sha256) s.0, b.file, is_absent, built_from hash said media (first_file (hash Sha256) s.0) b)
some_file true hash said digests all =
    let s = signed in
    let k : IsFirst hash said s.0 = is_first hash said digests all s.0 s.1 in
    let first : List ℕ = first_file (hash Sha256) s.0 in
    let b = twice_file hash said digests s.0 s.1 k in
    (first, first, b.file, (place_start place, first_len s.0, store (hash Sha256) s.0, k.accepted.opened), built_from hash said first first b)

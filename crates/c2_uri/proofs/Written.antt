-- The text of a URI that can be written is read as that URI.
use Rattle.std.proofs.Common.{◌≡◌, ◌≢◌, ℕ, suc, ◌+◌, ◌==◌, Bool, true, false, not, ◌||◌, cond, eqb, List, [], ◌∷◌, ◌++◌, length, take, drop, get_or, Option, Some, None, option_and_then, refl, sym, ap, ◌∙◌, arith, append-nil, append_assoc, eq-eqb}
use Rattle.std.specs.Prelude.{All, codes}
use Rattle.std.specs.List.{starts_with, position_or_len, before_first, after_first, list_any}
use Rattle.std.specs.Str.{bytes_eq}
use Rattle.std.proofs.lemmas.Bool.{ne_eqb}
use Rattle.std.proofs.lemmas.Bool.Decides.{Decides-eqb}
use Rattle.std.proofs.lemmas.Slice.Eq.{starts_is, bytes_eq-Decides}
use Rattle.std.proofs.lemmas.List.{take_at, drop_at, length-append}
use Rattle.std.proofs.lemmas.List.Elements.{All-nil, All-cons, All-head, All-tail}
use Rattle.std.proofs.lemmas.List.Splits.{slice_split_none, slice_split_at}
use Rattle.c2_spec.specs.C2pa.Uri.{
  PlainTarget,
  whole,
  assertion,
  signature,
  other,
  PlainUri,
  scheme,
  store_path,
  signature_path,
  assertions_path,
  is_slash,
  target_path,
  path_text,
  uri_text,
  after_piece,
  is_one_label,
  has_empty_label,
  assertion_or_path,
  target_of,
  absolute_uri,
  relative_uri,
  uri_of_labels,
  uri_of_path,
  uri_of,
}
use Rattle.c2_uri.specs.Writing.{IsLabel, IsWritableTarget, IsWritable}
use Rattle.c2_spec.proofs.TextPrefixes.{behind}

-- a piece and what follows it
after_own : (piece rest : List ℕ) → after_piece piece (piece ++ rest) ≡ Some rest
after_own piece rest =
    let starts : starts_with eqb (piece ++ rest) piece ≡ true =
    (starts_is Decides-eqb (piece ++ rest) piece _ refl).1 rest refl in
    ap (λ b. cond b (Some (drop (length piece) (piece ++ rest))) None) starts
    ∙ ap (λ r. Some r) (drop_at piece rest (length piece) refl)

-- what doesn't begin with a piece
after_other : (piece text : List ℕ) → ((rest : List ℕ) → text ≢ piece ++ rest) → after_piece piece text ≡ None
after_other piece text none = go (after_piece piece text) refl
  where
    go : (o : Option (List ℕ)) → after_piece piece text ≡ o → o ≡ None
    go None e = refl
    go (Some rest) e = absurd (none rest (behind piece text rest e))

-- in a label no byte is a slash
no_slash : (label : List ℕ) → is_one_label label ≡ true → All (λ b. is_slash b ≡ false) label
no_slash [] one = All-nil (λ b. is_slash b ≡ false)
no_slash (b ∷ label) one = go (no_slash label) (is_slash b) refl
  where
    go : (is_one_label label ≡ true → All (λ c. is_slash c ≡ false) label) → (t : Bool) → is_slash b ≡ t
        → All (λ c. is_slash c ≡ false) (b ∷ label)
    go rest true e =
        absurd (let bad : false ≡ true = sym (ap (λ s. not (s || list_any is_slash label)) e) ∙ one in cc (bad))
    go rest false e =
        All-cons (λ c. is_slash c ≡ false) b label e (rest (sym (ap (λ s. not (s || list_any is_slash label)) e) ∙ one))

-- a label isn't of no length
some_length : (label : List ℕ) → label ≢ [] → (length label == 0) ≡ false
some_length [] some = absurd (some refl)
some_length (b ∷ label) some = ne_eqb (length (b ∷ label)) 0 (λ e. omega arith)

-- one label alone is no empty one
lone_label : (label : List ℕ) → IsLabel label → has_empty_label label ≡ false
lone_label label h =
    ap (λ ls. list_any (λ l. length l == 0) ls) (slice_split_none is_slash label (no_slash label h.one))
    ∙ ap (λ b. b || false) (some_length label h.some)

-- a label before a slash and further labels
next_label : (label path : List ℕ) → IsLabel label → has_empty_label path ≡ false
    → has_empty_label (label ++ 0x2F ∷ path) ≡ false
next_label label path h rest =
    ap (λ ls. list_any (λ l. length l == 0) ls) (slice_split_at is_slash label 0x2F path (no_slash label h.one) refl)
    ∙ ap (λ b. b || has_empty_label path) (some_length label h.some) ∙ rest

-- the label of a store of assertions
assertions_label : IsLabel (codes "c2pa.assertions")
assertions_label = record { some = λ e. let bad : 99 ≡ 0 = ap (λ l. get_or l 0 0) e in cc (bad); one = refl }

-- what a target's path leads to
target_read : (manifest : Option (List ℕ)) (t : PlainTarget) → t ≢ whole → IsWritableTarget manifest t
    → target_of (target_path t) ≡ t
target_read manifest whole some h = absurd (some refl)
target_read manifest signature some h = refl
target_read manifest (assertion label) some h =
    let path = assertions_path ++ label in
    let differs : bytes_eq path signature_path ≡ false =
    other_bytes path signature_path (λ e. let bad : 97 ≡ 115 = ap (λ l. get_or l 5 0) e in cc (bad)) in
    ap (λ b. cond b signature (assertion_or_path path (after_piece assertions_path path))) differs
    ∙ ap (λ o. assertion_or_path path o) (after_own assertions_path label)
    ∙ ap (λ b. cond b (assertion label) (other path)) h.one
  where
    other_bytes : (xs ys : List ℕ) → xs ≢ ys → bytes_eq xs ys ≡ false
    other_bytes xs ys ne = go (bytes_eq xs ys) refl
      where
        go : (t : Bool) → bytes_eq xs ys ≡ t → t ≡ false
        go true e = absurd (ne ((bytes_eq-Decides xs ys).0 e))
        go false e = refl
target_read manifest (other path) some h = go (bytes_eq path signature_path) refl
  where
    named : (o : Option (List ℕ)) → after_piece assertions_path path ≡ o → assertion_or_path path o ≡ other path
    named None e = refl
    named (Some label) e = label_by (is_one_label label) refl
      where
        label_by : (b : Bool) → is_one_label label ≡ b → cond b (assertion label) (other path) ≡ other path
        label_by true one = absurd (h.no_assertion label one (behind assertions_path path label e))
        label_by false one = refl

    go : (b : Bool) → bytes_eq path signature_path ≡ b
        → cond b signature (assertion_or_path path (after_piece assertions_path path)) ≡ other path
    go true e = absurd (h.no_signature ((bytes_eq-Decides path signature_path).0 e))
    go false e = named (after_piece assertions_path path) refl

-- no label of a target's path is empty
path_labels : (manifest : Option (List ℕ)) (t : PlainTarget) → t ≢ whole → IsWritableTarget manifest t
    → has_empty_label (target_path t) ≡ false
path_labels manifest whole some h = absurd (some refl)
path_labels manifest signature some h = refl
path_labels manifest (assertion label) some h =
    next_label (codes "c2pa.assertions") label assertions_label (lone_label label h)
path_labels manifest (other path) some h = h.labels

-- a path without an empty label doesn't begin with a slash
no_store : (path : List ℕ) → has_empty_label path ≡ false → after_piece store_path path ≡ None
no_store path full =
    after_other store_path path
    (λ rest e. let bad : true ≡ false = sym (ap has_empty_label e) ∙ full in cc (bad))

-- a relative path is read
relative_read : (t : PlainTarget) → t ≢ whole → IsWritableTarget None t
    → uri_of_path (target_path t) ≡ Some (record { manifest = None; target = t })
relative_read t some h =
    let path = target_path t in
    let full = path_labels None t some h in
    ap (uri_of_labels path) (no_store path full) ∙ ap (λ b. cond b None (Some (relative_uri path))) full
    ∙ ap (λ u. Some (record { manifest = None; target = u })) (target_read None t some h)

-- where the first slash is, after a label
first_slash : (label path : List ℕ) → All (λ b. is_slash b ≡ false) label
    → position_or_len is_slash (label ++ 0x2F ∷ path) ≡ length label
first_slash [] path clean = refl
first_slash (b ∷ label) path clean =
    ap (λ t. cond (not t) (1 + position_or_len is_slash (label ++ 0x2F ∷ path)) 0)
    (All-head (λ c. is_slash c ≡ false) b label clean)
    ∙ ap (λ n. 1 + n) (first_slash label path (All-tail (λ c. is_slash c ≡ false) b label clean))
    ∙ one_more (length label)
  where
    one_more : (n : ℕ) → 1 + n ≡ suc n
    one_more n = omega arith

-- a label alone has no slash
no_first_slash : (label : List ℕ) → All (λ b. is_slash b ≡ false) label → position_or_len is_slash label ≡ length label
no_first_slash [] clean = refl
no_first_slash (b ∷ label) clean =
    ap (λ t. cond (not t) (1 + position_or_len is_slash label) 0) (All-head (λ c. is_slash c ≡ false) b label clean)
    ∙ ap (λ n. 1 + n) (no_first_slash label (All-tail (λ c. is_slash c ≡ false) b label clean))
    ∙ one_more (length label)
  where
    one_more : (n : ℕ) → 1 + n ≡ suc n
    one_more n = omega arith

-- a manifest and a path in it are read
absolute_read : (m : List ℕ) (t : PlainTarget) → t ≢ whole → IsLabel m → IsWritableTarget (Some m) t
    → uri_of_path (store_path ++ (m ++ 0x2F ∷ target_path t)) ≡ Some (record { manifest = Some m; target = t })
absolute_read m t some is h =
    let path = target_path t in
    let labels = m ++ 0x2F ∷ path in
    let full : has_empty_label labels ≡ false = next_label m path is (path_labels (Some m) t some h) in
    let place : position_or_len is_slash labels ≡ length m = first_slash m path (no_slash m is.one) in
    let sizes : length labels ≡ length m + suc (length path) = length-append m (0x2F ∷ path) in
    let inside : (position_or_len is_slash labels == length labels) ≡ false = ne_eqb _ _ (λ e. omega arith) in
    let first : before_first is_slash labels ≡ m =
    ap (λ n. take n labels) place ∙ take_at m (0x2F ∷ path) (length m) refl in
    let rest : after_first is_slash labels ≡ path =
    ap (λ n. drop (n + 1) labels) place ∙ ap (λ xs. drop (length m + 1) xs) (sym (append_assoc m (0x2F ∷ []) path))
    ∙ drop_at (m ++ 0x2F ∷ []) path (length m + 1) (length-append m (0x2F ∷ [])) in
    ap (uri_of_labels (store_path ++ labels)) (after_own store_path labels)
    ∙ ap (λ b. cond b None (Some (absolute_uri labels))) full
    ∙ ap
    (λ b. Some (cond b (record { manifest = Some labels; target = whole }) (record { manifest = Some (before_first is_slash labels); target = target_of (after_first is_slash labels) })))
    inside
    ∙ ap (λ f. Some (record { manifest = Some f; target = target_of (after_first is_slash labels) })) first
    ∙ ap (λ r. Some (record { manifest = Some m; target = target_of r })) rest
    ∙ ap (λ u. Some (record { manifest = Some m; target = u })) (target_read (Some m) t some h)

-- a manifest alone is read
manifest_read : (m : List ℕ) → IsLabel m
    → uri_of_path (store_path ++ m) ≡ Some (record { manifest = Some m; target = whole })
manifest_read m is =
    let place : position_or_len is_slash m ≡ length m = no_first_slash m (no_slash m is.one) in
    ap (uri_of_labels (store_path ++ m)) (after_own store_path m)
    ∙ ap (λ b. cond b None (Some (absolute_uri m))) (lone_label m is)
    ∙ ap
    (λ n. Some (cond (n == length m) (record { manifest = Some m; target = whole }) (record { manifest = Some (before_first is_slash m); target = target_of (after_first is_slash m) })))
    place
    ∙ ap
    (λ b. Some (cond b (record { manifest = Some m; target = whole }) (record { manifest = Some (before_first is_slash m); target = target_of (after_first is_slash m) })))
    (eq-eqb (length m) (length m) refl)

-- the path of a URI that can be written is read as that URI
path_read : (manifest : Option (List ℕ)) (t : PlainTarget) → IsWritable (record { manifest = manifest; target = t })
    → uri_of_path (path_text manifest t) ≡ Some (record { manifest = manifest; target = t })
path_read None whole h = cc (h.target)
path_read None (assertion label) h = relative_read (assertion label) (λ e. cc (e)) h.target
path_read None signature h = relative_read signature (λ e. cc (e)) h.target
path_read None (other path) h = relative_read (other path) (λ e. cc (e)) h.target
path_read (Some m) whole h = ap uri_of_path (append-nil (store_path ++ m)) ∙ manifest_read m (h.manifest m refl)
path_read (Some m) (assertion label) h =
    ap uri_of_path (append_assoc store_path m (0x2F ∷ target_path (assertion label)))
    ∙ absolute_read m (assertion label) (λ e. cc (e)) (h.manifest m refl) h.target
path_read (Some m) signature h =
    ap uri_of_path (append_assoc store_path m (0x2F ∷ target_path signature))
    ∙ absolute_read m signature (λ e. cc (e)) (h.manifest m refl) h.target
path_read (Some m) (other path) h =
    ap uri_of_path (append_assoc store_path m (0x2F ∷ path))
    ∙ absolute_read m (other path) (λ e. cc (e)) (h.manifest m refl) h.target

-- the text of a URI that can be written is read as that URI
pub written_read : (u : PlainUri) → IsWritable u → uri_of (uri_text u) ≡ Some u
written_read u h =
    ap (option_and_then uri_of_path) (after_own scheme (path_text u.manifest u.target))
    ∙ path_read u.manifest u.target h

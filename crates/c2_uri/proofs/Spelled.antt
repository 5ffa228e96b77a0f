-- A text that is read as a URI is the text of that URI.
use Rattle.std.proofs.Common.{◌≡◌, ℕ, ◌<◌, ◌≤◌, ◌==◌, Bool, true, false, not, cond, List, ◌∷◌, ◌++◌, length, get_or, Option, Some, None, option_and_then, refl, sym, ap, ◌∙◌, arith, append-nil, append_assoc, eq-eqb, if◌then◌else◌}
use Rattle.std.specs.List.{position_or_len, before_first, after_first}
use Rattle.std.specs.Str.{bytes_eq}
use Rattle.std.proofs.lemmas.Bool.Decides.{Decides-eqb}
use Rattle.std.proofs.lemmas.Slice.Eq.{bytes_eq-Decides}
use Rattle.std.proofs.lemmas.List.Sums.{split_at_first, passes_at_first, prefix_len-le-length}
use Rattle.c2_spec.proofs.TextPrefixes.{behind as after_spelled}
use Rattle.c2_spec.specs.C2pa.Uri.{
  PlainTarget,
  whole,
  assertion,
  signature,
  other,
  PlainUri,
  scheme,
  store_path,
  signature_path,
  assertions_path,
  is_slash,
  target_path,
  behind_manifest,
  path_text,
  uri_text,
  after_piece,
  is_one_label,
  has_empty_label,
  assertion_or_path,
  target_of,
  absolute_uri,
  relative_uri,
  uri_of_labels,
  uri_of_path,
  uri_of,
}

-- a target that a path names has this path, and is no whole manifest
record Names (path : List ℕ) (target : PlainTarget) : Type 0 where
  own : target_path target ≡ path
  behind : behind_manifest target ≡ 0x2F ∷ path

-- a path of an assertion whose label is one names it, and any other stays a path
named_label : (path label : List ℕ) (b : Bool) → path ≡ assertions_path ++ label
    → Names path (cond b (assertion label) (other path))
named_label path label true e = record { own = sym e; behind = ap (λ (x : List ℕ). 0x2F ∷ x) (sym e) }
named_label path label false e = record { own = refl; behind = refl }

-- a path that begins so, of an assertion whose label is one, names it, and any other stays a path
named_path : (path : List ℕ) (o : Option (List ℕ)) → after_piece assertions_path path ≡ o
    → Names path (assertion_or_path path o)
named_path path None e = record { own = refl; behind = refl }
named_path path (Some label) e =
    named_label path label (is_one_label label) (after_spelled assertions_path path label e)

-- the path of the signature names it, and any other goes on so
named_by : (path : List ℕ) (b : Bool) → bytes_eq path signature_path ≡ b
    → Names path (cond b signature (assertion_or_path path (after_piece assertions_path path)))
named_by path true e = let same : path ≡ signature_path = (bytes_eq-Decides path signature_path).0 e in record { own = sym same; behind = ap (λ (x : List ℕ). 0x2F ∷ x) (sym same) }
named_by path false e = named_path path (after_piece assertions_path path) refl

-- each path names the target that it is read as
named : (path : List ℕ) → Names path (target_of path)
named path = named_by path (bytes_eq path signature_path) refl

-- the first slash of a text is found by its end
at_most : (xs : List ℕ) → position_or_len is_slash xs ≤ length xs
at_most xs = prefix_len-le-length (λ x. not (is_slash x)) xs

-- the path of an absolute URI, put together again
abbrev text_by : List ℕ → PlainUri → Type 0
text_by path u = path_text u.manifest u.target ≡ store_path ++ path

-- the manifest's label and what follows it spell the path again
absolute_by : (path : List ℕ) (b : Bool) → (position_or_len is_slash path == length path) ≡ b
    → text_by path (if b then record { manifest = Some path; target = whole } else record { manifest = Some (before_first is_slash path); target = target_of (after_first is_slash path) })
absolute_by path true e = append-nil (store_path ++ path)
absolute_by path false e =
    let some : position_or_len is_slash path < length path = omega (arith, at_most path, differs) in
    let slash : get_or path (position_or_len is_slash path) 0 ≡ 0x2F =
    (Decides-eqb (get_or path (position_or_len is_slash path) 0) 0x2F).0 (passes_at_first is_slash path 0 some) in
    let split : path ≡ before_first is_slash path ++ (0x2F ∷ after_first is_slash path) =
    split_at_first is_slash path 0 some ∙ ap (λ c. before_first is_slash path ++ (c ∷ after_first is_slash path)) slash in
    ap (λ (x : List ℕ). (store_path ++ before_first is_slash path) ++ x) (named (after_first is_slash path)).behind
    ∙ append_assoc store_path (before_first is_slash path) (0x2F ∷ after_first is_slash path)
    ∙ ap (λ (x : List ℕ). store_path ++ x) (sym split)
  where
    differs : position_or_len is_slash path ≡ length path → ⊥
    differs same = let is = eq-eqb (position_or_len is_slash path) (length path) same in let bad = sym e ∙ is in cc (bad)

-- the manifest's label and what follows it spell the path again, without looking where the slash is
absolute_spelled : (path : List ℕ) → text_by path (absolute_uri path)
absolute_spelled path = absolute_by path (position_or_len is_slash path == length path) refl

-- two values that are there and equal are equal
some_same : (x u : PlainUri) → Some x ≡ Some u → x ≡ u
some_same x u e = cc (e)

-- a path whose labels aren't empty gives this URI
unless_empty : (empty : Bool) (x u : PlainUri) → cond empty None (Some x) ≡ Some u → x ≡ u
unless_empty true x u e = absurd (cc (e))
unless_empty false x u e = some_same x u e

-- a path is spelled by the URI that it is read as
path_spelled : (path : List ℕ) (o : Option (List ℕ)) (u : PlainUri) → after_piece store_path path ≡ o
    → uri_of_labels path o ≡ Some u → path ≡ path_text u.manifest u.target
path_spelled path None u e h =
    let is : relative_uri path ≡ u = unless_empty (has_empty_label path) (relative_uri path) u h in
    sym (named path).own ∙ ap (λ (v : PlainUri). path_text v.manifest v.target) is
path_spelled path (Some labels) u e h =
    let is : absolute_uri labels ≡ u = unless_empty (has_empty_label labels) (absolute_uri labels) u h in
    after_spelled store_path path labels e ∙ sym (absolute_spelled labels)
    ∙ ap (λ (v : PlainUri). path_text v.manifest v.target) is

-- a text is spelled by the URI that its path is read as
text_spelled : (text : List ℕ) (o : Option (List ℕ)) (u : PlainUri) → after_piece scheme text ≡ o
    → option_and_then uri_of_path o ≡ Some u → text ≡ uri_text u
text_spelled text None u e h = absurd (cc (h))
text_spelled text (Some path) u e h =
    after_spelled scheme text path e
    ∙ ap (λ (x : List ℕ). scheme ++ x) (path_spelled path (after_piece store_path path) u refl h)

-- a text is the text of the URI that it is read as
pub spelled : (text : List ℕ) (u : PlainUri) → uri_of text ≡ Some u → text ≡ uri_text u
spelled text u h = text_spelled text (after_piece scheme text) u refl h

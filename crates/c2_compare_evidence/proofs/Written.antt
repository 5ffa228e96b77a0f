-- Texts that are written in pieces.
use Rattle.std.proofs.Common.{◌≡◌, ℕ, ◌+◌, ◌/◌, ◌%◌, ◌<◌, ◌≤◌, min, List, [], ◌∷◌, ◌++◌, Option, Result, Ok, Err, OnOk, get_or, length, map, take, drop, slice_index, refl, sym, ap, ◌∙◌, subst, arith}
use Rattle.std.specs.List.{flat_map}
use Rattle.std.proofs.Math.Seq.{take-add, take-append-add}
use Rattle.std.proofs.lemmas.List.{append-nil, drop_more, take_all, take-append-le, take-append-drop}
use Rattle.hex.specs.Hex.{encode_lower, encode_with, lower_digits}
use Rattle.c2_base.specs.Sink.{Appends, HasWrittenPrefix, TakesPrefix, then_written}
use Rattle.c2_compare_evidence.specs.Writing.{IsWritten}
use Rattle.c2_base.proofs.Written.{appended_twice, then_nothing}
use Rattle.c2_lemmas.proofs.Lists.{take_at_most}

-- what was written after a text
pub appends_after : (a b c : Option (List ℕ)) (s t : List ℕ) → Appends a b s → Appends b c t → Appends a c (s ++ t)
appends_after a b c s t e f = f ∙ ap (λ x. then_written x t) e ∙ appended_twice a s t

-- a prefix after a text is a prefix of both, whatever follows
pub prefix_after : (a b c : Option (List ℕ)) (s t u all : List ℕ) → Appends a b s → HasWrittenPrefix b c t
    → all ≡ s ++ (t ++ u) → HasWrittenPrefix a c all
prefix_after a b c s t u all e h is =
    let k = min h.0 (length t) in
    let le : k ≤ length t = omega arith in
    let same : take h.0 t ≡ take k t = take_at_most h.0 t in
    let take_at_most : take (length s + k) (s ++ (t ++ u)) ≡ s ++ take h.0 t =
    take-append-add s (t ++ u) k ∙ ap (λ x. s ++ x) (take-append-le k t u le ∙ sym same) in (
      length s + k,
      h.1 ∙ ap (λ x. then_written x (take h.0 t)) e ∙ appended_twice a s (take h.0 t)
          ∙ ap (then_written a) (sym (ap (take (length s + k)) is ∙ take_at_most)),
    )

-- what a call took of a piece is a prefix of it
pub taken_prefix : {K : Type 0} (written : K → Option (List ℕ)) (spare : K → Option ℕ) (bytes : List ℕ) (old new : K)
    → TakesPrefix written spare bytes old new
    → HasWrittenPrefix (written old) (written new) bytes
taken_prefix written spare bytes old new h = (h.count, h.prefix)

-- a prefix of the first text, whatever follows
pub prefix_first : (b c : Option (List ℕ)) (t u all : List ℕ) → HasWrittenPrefix b c t → all ≡ t ++ u
    → HasWrittenPrefix b c all
prefix_first b c t u all h is = prefix_after b b c [] t u all (then_nothing b) h is

-- all of a text is a prefix of it
pub prefix_all : (a b : Option (List ℕ)) (t : List ℕ) → Appends a b t → HasWrittenPrefix a b t
prefix_all a b t e = (length t, e ∙ ap (then_written a) (sym (take_all (length t) t (omega arith))))

-- a text that was written whole
pub written_whole : {T E : Type 0} (x : T) (a b : Option (List ℕ)) (t : List ℕ) → Appends a b t
    → IsWritten {T = T} {E = E} t a b (Ok x)
written_whole {T} {E} x a b t e = record { whole = e; prefix = prefix_all a b t e }

-- a text of which a prefix was written
pub written_prefix : {T E : Type 0} (e : E) (a b : Option (List ℕ)) (t : List ℕ) → HasWrittenPrefix a b t
    → IsWritten {T = T} {E = E} t a b (Err e)
written_prefix {T} {E} e a b t h = record { whole = tt; prefix = h }

-- the last of two texts, where the first was written whole
pub written_last : {T E : Type 0} (r : Result T E) (a b c : Option (List ℕ)) (s t all : List ℕ) → Appends a b s
    → IsWritten t b c r → all ≡ s ++ t → IsWritten all a c r
written_last {T} {E} r a b c s t all e h is = record {
  whole = by r h.whole;
  prefix = prefix_after a b c s t [] all e h.prefix (is ∙ ap (λ x. s ++ x) (sym (append-nil t)));
}
  where
    by : (q : Result T E) → OnOk q (Appends b c t) → OnOk q (Appends a c all)
    by (Ok x) f = appends_after a b c s t e f ∙ ap (then_written a) (sym is)
    by (Err x) f = tt

-- the last text of all
pub written_same : {T E : Type 0} (r : Result T E) (a b : Option (List ℕ)) (t u : List ℕ) → IsWritten t a b r → u ≡ t
    → IsWritten u a b r
written_same {T} {E} r a b t u h is = subst (λ x. IsWritten {T = T} {E = E} x a b r) (sym is) h

-- ---- hex digits

-- the digits of one list and of another
pub hex_append : (xs ys : List ℕ) → encode_lower (xs ++ ys) ≡ encode_lower xs ++ encode_lower ys
unfolding encode_with
hex_append [] ys = refl
hex_append (x ∷ xs) ys =
    ap (λ zs. slice_index lower_digits (x / 16) ∷ slice_index lower_digits (x % 16) ∷ zs) (hex_append xs ys)

-- no digits
pub hex_none : encode_lower [] ≡ []
unfolding encode_with
hex_none = refl

-- ---- a list of which a front is written

module _ {X : Type 0} (f : List X → List ℕ) (hom : (xs ys : List X) → f (xs ++ ys) ≡ f xs ++ f ys) where
  -- nothing
  pub front_none : (xs : List X) (a : Option (List ℕ)) → f [] ≡ [] → Appends a a (f (take 0 xs))
  front_none xs a none = then_nothing a ∙ ap (then_written a) (sym none)

  -- some more
  pub front_more : (xs : List X) (d n : ℕ) (a b c : Option (List ℕ)) → Appends a b (f (take d xs))
      → Appends b c (f (take n (drop d xs)))
      → Appends a c (f (take (d + n) xs))
  front_more xs d n a b c e g =
      appends_after a b c (f (take d xs)) (f (take n (drop d xs))) e g
      ∙ ap (then_written a) (sym (ap f (take-add d n xs) ∙ hom (take d xs) (take n (drop d xs))))

  -- all
  pub front_all : (xs : List X) (d : ℕ) (a b : Option (List ℕ)) → length xs ≤ d → Appends a b (f (take d xs))
      → Appends a b (f xs)
  front_all xs d a b le e = e ∙ ap (λ ys. then_written a (f ys)) (take_all d xs le)

  -- a prefix of some more
  pub front_part : (xs : List X) (d n : ℕ) (a b c : Option (List ℕ)) → Appends a b (f (take d xs))
      → HasWrittenPrefix b c (f (take n (drop d xs)))
      → HasWrittenPrefix a c (f xs)
  front_part xs d n a b c e h =
      prefix_after a b c (f (take d xs)) (f (take n (drop d xs))) (f (drop n (drop d xs))) (f xs) e h
      (ap f (sym (take-append-drop d xs)) ∙ hom (take d xs) (drop d xs)
      ∙ ap (λ y. f (take d xs) ++ y) (ap f (sym (take-append-drop n (drop d xs))) ∙ hom (take n (drop d xs)) (drop n (drop d xs))))

-- the part of a list that is one member
pub one_member : {X : Type 0} (f : X → List ℕ) (xs : List X) (i : ℕ) (d : X) → i < length xs
    → flat_map f (take 1 (drop i xs)) ≡ f (get_or xs i d)
one_member f xs i d lt = ap (λ ys. flat_map f (take 1 ys)) (drop_more xs i d lt) ∙ append-nil (f (get_or xs i d))

-- the part of a list that is one byte
pub one_byte : (f : ℕ → ℕ) (xs : List ℕ) (i d y : ℕ) → i < length xs → y ≡ f (get_or xs i d)
    → map f (take 1 (drop i xs)) ≡ y ∷ []
one_byte f xs i d y lt e = ap (λ ys. map f (take 1 ys)) (drop_more xs i d lt) ∙ ap (λ z. z ∷ []) (sym e)

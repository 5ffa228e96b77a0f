-- A path that was read is written as the text that it was read from.
use Rattle.std.proofs.Common.{◌≡◌, ℕ, ◌-◌, ◌^◌, ◌<◌, ◌≤◌, Bool, true, false, not, cond, ◌&&◌, ◌==◌, leb, List, [], ◌∷◌, ◌++◌, length, get_or, take, drop, option_map, Option, Some, None, refl, sym, ap, ap₂, ◌∙◌, subst, arith}
use Rattle.std.specs.Prelude.{eqb, option_and_then}
use Rattle.std.specs.Char.{is_ascii_digit}
use Rattle.std.specs.Fmt.{decimal}
use Rattle.std.specs.List.{flat_map, list_all, onto_first, slice_split}
use Rattle.std.specs.Str.{all_ascii_digits, bytes_eq}
use Rattle.std.specs.Str.Parse.{digits_value}
use Rattle.std.proofs.lemmas.Bool.{and_parts}
use Rattle.std.proofs.lemmas.Option.{same_Some}
use borrow.Author.Tests.{leb-true, eqb-true}
use Rattle.std.proofs.lemmas.Fmt.{decimal-digits_value}
use Rattle.std.proofs.lemmas.List.{take-append-drop}
use Rattle.std.proofs.lemmas.Slice.Eq.{bytes_eq-Decides}
use Rattle.std.proofs.lemmas.Str.Parse.{numerals_by_value, tells_all_ascii_digits}
use Rattle.c2_spec.specs.Bmff.Paths.{PathStep, each_step, is_step_kind, max_child_index, nth_number, nth_of_text, nth_text, path_of, step_of, step_text, steps_text}
use Rattle.c2_spec.specs.C2pa.Uri.{after_piece, is_slash}
use Rattle.c2_spec.specs.Cbor.Fields.{joined}

-- ---- numbers in brackets

-- two words for digits
digits_same : (ds : List ℕ) → list_all is_ascii_digit ds ≡ all_ascii_digits ds
digits_same [] = refl
digits_same (c ∷ cs) = ap (λ (b : Bool). is_ascii_digit c && b) (digits_same cs)

-- a list with a first byte other than the default isn't empty
some_of : (ds : List ℕ) → not (get_or ds 0 0x30 == 0x30) ≡ true → 0 < length ds
some_of [] h = absurd (cc (h))
some_of (d ∷ ds) h = omega arith

-- a list whose first byte isn't the default doesn't begin with it
not_zero : (ds : List ℕ) → not (get_or ds 0 0x30 == 0x30) ≡ true → get_or ds 0 0 ≡ 48 → length ds ≡ 1
not_zero [] h e = absurd (cc (h))
not_zero (d ∷ ds) h e = absurd (cc (h, ap (λ (b : ℕ). not (b == 0x30)) e))

-- the number that is read is written as these digits
nth_digits : (k : ℕ) (ds : List ℕ) (nth : Option ℕ) → k ≡ digits_value 10 ds → nth_number k ds ≡ Some nth
    → nth_text nth ≡ 0x5B ∷ ds ++ 0x5D ∷ []
nth_digits k ds nth e h = go (list_all is_ascii_digit ds && not (get_or ds 0 0x30 == 0x30) && leb 1 k && leb k max_child_index) refl h
  where
    by : list_all is_ascii_digit ds ≡ true → not (get_or ds 0 0x30 == 0x30) ≡ true → leb k max_child_index ≡ true
        → nth_text (Some k) ≡ 0x5B ∷ ds ++ 0x5D ∷ []
    by all first small =
        ap (λ (xs : List ℕ). 0x5B ∷ xs ++ 0x5D ∷ [])
        (ap decimal e
        ∙ decimal-digits_value (numerals_by_value (λ (xs : List ℕ). all_ascii_digits xs ≡ true) tells_all_ascii_digits)
        ds
        (sym (digits_same ds) ∙ all) (some_of ds first) (not_zero ds first)
        (let s : k ≤ max_child_index = leb-true k max_child_index small in
        let t : k < 2 ^ 64 = omega (arith, s) in
        subst (λ (n : ℕ). n < 2 ^ 64) e t))

    go : (t : Bool)
        → (list_all is_ascii_digit ds && not (get_or ds 0 0x30 == 0x30) && leb 1 k && leb k max_child_index) ≡ t
        → cond t (Some (Some k)) None ≡ Some nth → nth_text nth ≡ 0x5B ∷ ds ++ 0x5D ∷ []
    go false t n = absurd (cc (n))
    go true t n =
        let a =
        and_parts (list_all is_ascii_digit ds && not (get_or ds 0 0x30 == 0x30) && leb 1 k)
        (leb k max_child_index) t in
        let b = and_parts (list_all is_ascii_digit ds && not (get_or ds 0 0x30 == 0x30)) (leb 1 k) a.0 in
        let c = and_parts (list_all is_ascii_digit ds) (not (get_or ds 0 0x30 == 0x30)) b.0 in
        ap nth_text (sym (same_Some (Some k) nth n)) ∙ by c.0 c.1 a.1

-- what stands after a type is written as it was read
nth_is : (text : List ℕ) (nth : Option ℕ) → nth_of_text text ≡ Some nth → nth_text nth ≡ text
nth_is [] nth h = ap nth_text (sym (same_Some None nth h))
nth_is (b ∷ bs) nth h = go ((b == 0x5B) && bytes_eq (drop (length bs - 1) bs) (0x5D ∷ [])) refl h
  where
    go : (t : Bool) → ((b == 0x5B) && bytes_eq (drop (length bs - 1) bs) (0x5D ∷ [])) ≡ t
        → cond t (nth_number (digits_value 10 (take (length bs - 1) bs)) (take (length bs - 1) bs)) None ≡ Some nth
        → nth_text nth ≡ b ∷ bs
    go false t n = absurd (cc (n))
    go true t n =
        let a = and_parts (b == 0x5B) (bytes_eq (drop (length bs - 1) bs) (0x5D ∷ [])) t in
        nth_digits (digits_value 10 (take (length bs - 1) bs)) (take (length bs - 1) bs) nth refl n
        ∙ ap₂ (λ (x : ℕ) (xs : List ℕ). x ∷ take (length bs - 1) bs ++ xs) (sym (eqb-true b 0x5B a.0))
        (sym ((bytes_eq-Decides (drop (length bs - 1) bs) (0x5D ∷ [])).0 a.1))
        ∙ ap (λ (xs : List ℕ). b ∷ xs) (take-append-drop (length bs - 1) bs)

-- ---- steps

-- a step is written as a slash and its text
step_is : (part : List ℕ) (s : PathStep) → step_of part ≡ Some s → step_text s ≡ 0x2F ∷ part
step_is part s h = go (is_step_kind (take 4 part)) (nth_of_text (drop 4 part)) refl h
  where
    go : (t : Bool) (o : Option (Option ℕ)) → nth_of_text (drop 4 part) ≡ o
        → cond t (option_map (λ (nth : Option ℕ). record { kind = take 4 part; nth = nth }) o) None ≡ Some s
        → step_text s ≡ 0x2F ∷ part
    go false o e n = absurd (cc (n))
    go true None e n = absurd (cc (n))
    go true (Some nth) e n =
        ap step_text (sym (same_Some (record { kind = take 4 part; nth = nth }) s n))
        ∙ ap (λ (xs : List ℕ). 0x2F ∷ take 4 part ++ xs) (nth_is (drop 4 part) nth e)
        ∙ ap (λ (xs : List ℕ). 0x2F ∷ xs) (take-append-drop 4 part)

-- a slash and a text
abbrev slashed : List ℕ → List ℕ
slashed part = 0x2F ∷ part

-- steps are written as their texts, each after a slash
steps_are : (parts : List (List ℕ)) (steps : List PathStep) → each_step parts ≡ Some steps
    → steps_text steps ≡ flat_map slashed parts
steps_are [] steps h = ap steps_text (sym (same_Some [] steps h))
steps_are (part ∷ parts) steps h = go (step_of part) (each_step parts) refl refl h (λ ss e. steps_are parts ss e)
  where
    go : (o : Option PathStep) (p : Option (List PathStep)) → step_of part ≡ o → each_step parts ≡ p
        → joined o p ≡ Some steps
        → ((ss : List PathStep) → each_step parts ≡ Some ss → steps_text ss ≡ flat_map slashed parts)
        → steps_text steps ≡ flat_map slashed (part ∷ parts)
    go None p e f n others = absurd (cc (n))
    go (Some s) None e f n others = absurd (cc (n))
    go (Some s) (Some ss) e f n others =
        ap steps_text (sym (same_Some (s ∷ ss) steps n))
        ∙ ap₂ (λ (xs ys : List ℕ). xs ++ ys) (step_is part s e) (others ss f)

-- texts that slashes part, each after a slash, are the text after a slash
joined_again : (xs : List ℕ) → flat_map slashed (slice_split is_slash xs) ≡ 0x2F ∷ xs
joined_again [] = refl
joined_again (x ∷ xs) = go (is_slash x) refl (slice_split is_slash xs) (joined_again xs)
  where
    go : (t : Bool) → is_slash x ≡ t → (parts : List (List ℕ)) → flat_map slashed parts ≡ 0x2F ∷ xs
        → flat_map slashed (cond t ([] ∷ parts) (onto_first x parts)) ≡ 0x2F ∷ x ∷ xs
    go true e parts all = ap (λ (ys : List ℕ). 0x2F ∷ ys) (all ∙ ap (λ (b : ℕ). b ∷ xs) (sym (eqb-true x 0x2F e)))
    go false e [] all = absurd (cc (all))
    go false e (part ∷ parts) all = ap (λ (ys : List ℕ). 0x2F ∷ x ∷ drop 1 ys) all

-- ---- paths

-- what begins with a slash is a slash and what follows it
after_slash : (text rest : List ℕ) → after_piece (0x2F ∷ []) text ≡ Some rest → text ≡ 0x2F ∷ rest
after_slash [] rest h = absurd (cc (h))
after_slash (x ∷ xs) rest h = go (eqb 0x2F x) refl h
  where
    go : (t : Bool) → eqb 0x2F x ≡ t → cond (t && true) (Some xs) None ≡ Some rest → x ∷ xs ≡ 0x2F ∷ rest
    go true e n = ap₂ (λ (b : ℕ) (ys : List ℕ). b ∷ ys) (sym (eqb-true 0x2F x e)) (same_Some xs rest n)
    go false e n = absurd (cc (n))

-- a path is written as the text that it was read from
pub text_is : (text : List ℕ) (steps : List PathStep) → path_of text ≡ Some steps → steps_text steps ≡ text
text_is text steps h = go (after_piece (0x2F ∷ []) text) refl h
  where
    go : (o : Option (List ℕ)) → after_piece (0x2F ∷ []) text ≡ o
        → option_and_then (λ (parts : List ℕ). each_step (slice_split is_slash parts)) o ≡ Some steps
        → steps_text steps ≡ text
    go None e n = absurd (cc (n))
    go (Some rest) e n =
        steps_are (slice_split is_slash rest) steps n ∙ joined_again rest ∙ sym (after_slash text rest e)

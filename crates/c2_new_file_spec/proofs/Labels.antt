-- The labels of manifests and of new assertions can stand in boxes and in URIs, and those of a new manifest's assertions differ.
use Rattle.std.specs.Prelude.{◌==◌, nat_lt, not, ◌&&◌, ◌||◌}
use Rattle.std.proofs.Common.{◌≡◌, ◌≢◌, ⊎_elim, ℕ, zero, suc, ◌+◌, ◌-◌, ◌<◌, ◌≤◌, Bool, true, false, cond, List, [], ◌∷◌, ◌++◌, length, Option, Some, None, refl, sym, ap, ◌∙◌, subst, arith, codes, bytes_eq}
use Rattle.std.specs.List.{AllByRecursion, list_any}
use Rattle.std.specs.Option.{option_map_or}
use Rattle.std.specs.Str.{IsUtf8}
use Rattle.std.proofs.lemmas.Bool.{and_parts, and_from, or_parts, not-true, eqb-false, ne_eqb, cases_lt, lt-ltb, le-ltb, false≢true}
use Rattle.std.proofs.lemmas.Slice.Eq.{bytes_eq-Decides}
use Rattle.uuid.specs.Text.{by_index, hyphenated_text, hex_digit, nibble, digit_place, is_hyphen_place, hyphen, lower, parsed}
use Rattle.c2_spec.specs.C2pa.Assertion.{kind_of}
use Rattle.c2_spec.specs.C2pa.Manifest.{is_manifest_label}
use Rattle.c2_spec.specs.C2pa.Uri.{after_piece}
use Rattle.c2_spec.specs.Jumbf.Tree.{IsLabel, IsLabelByte}
use Rattle.c2_spec.specs.Jumbf.Writing.{IsWrittenLabel}
use Rattle.c2_definition.specs.DefinitionFile as file
use Rattle.c2_lemmas.proofs.Each.{each_append}
use Rattle.c2_spec.proofs.TextPrefixes.{behind}

-- ---- bytes of labels

-- a byte of a label that can be named: no control byte and no `/`
pub record IsNamedByte (b : ℕ) : Type 0 where
  pub low : 0x20 ≤ b
  pub no_delete : b ≢ 0x7F
  pub no_slash : b ≢ 0x2F

-- each byte of a text is one
abbrev pub IsNamed : List ℕ → Type 0
IsNamed t = AllByRecursion IsNamedByte t

-- each byte of a label's text is a byte of a label
pub label_bytes : (t : List ℕ) → IsNamed t → AllByRecursion IsLabelByte t
label_bytes [] h = tt
label_bytes (b ∷ bs) h = ((h.0.low, h.0.no_delete), label_bytes bs h.1)

-- a label's text can stand in a box
pub label_of : (t : List ℕ) → IsUtf8 t → IsNamed t → IsLabel t
label_of t u h = (u, label_bytes t h)

-- a label's text can stand in a URI
pub no_slash : (t : List ℕ) → IsNamed t → list_any (λ b. b == 0x2F) t ≡ false
no_slash [] h = refl
no_slash (b ∷ bs) h = ap (λ c. c || list_any (λ b. b == 0x2F) bs) (ne_eqb b 0x2F h.0.no_slash) ∙ no_slash bs h.1

-- a text that isn't empty and has such bytes
pub record IsLabelText (t : List ℕ) : Type 0 where
  pub some : 0 < length t
  pub named : IsNamed t

-- a label's text may be written
pub written_label : (t : List ℕ) → IsLabelText t → IsWrittenLabel t
written_label t h = (h.some, label_bytes t h.named)

-- a manifest with a label's text as label can be named
pub can_be_named : (t : List ℕ) → IsLabelText t → is_manifest_label (Some t) ≡ true
can_be_named t h =
    and_from (not (length t == 0)) (not (list_any (λ b. b == 0x2F) t))
    (not_from (length t == 0) (ne_eqb (length t) 0 (λ e. omega (arith, e, h.some))))
    (not_from (list_any (λ b. b == 0x2F) t) (no_slash t h.named))
  where
    not_from : (b : Bool) → b ≡ false → not b ≡ true
    not_from b e = ap not e

-- ---- labels of manifests

-- a hexadecimal digit is a byte of a label that can be named
hex_named : (d : ℕ) → d < 16 → IsNamedByte (hex_digit lower d)
hex_named d small = ⊎_elim (few d) (many d small) (cases_lt d 10)
  where
    few : (d : ℕ) → d < 10 → IsNamedByte (hex_digit lower d)
    few d h =
        subst IsNamedByte (sym (ap (λ b. cond b (48 + d) (97 + d - 10)) (lt-ltb d 10 h)))
        (record { low = omega (arith, h); no_delete = λ e. omega (arith, e, h); no_slash = λ e. omega (arith, e, h) })

    many : (d : ℕ) → d < 16 → 10 ≤ d → IsNamedByte (hex_digit lower d)
    many d m h =
        subst IsNamedByte (sym (ap (λ b. cond b (48 + d) (97 + d - 10)) (le-ltb d 10 h)))
        (record { low = omega (arith, h); no_delete = λ e. omega (arith, e, h, m); no_slash = λ e. omega (arith, e, h, m) })

-- half a byte is below 16
nibble_small : (xs : List ℕ) (k : ℕ) → nibble xs k < 16
nibble_small xs k = grind arith

-- each byte of a UUID's text, a digit or a hyphen, is a byte of a label that can be named
uuid_byte : (u : List ℕ) (k : ℕ)
    → IsNamedByte (cond (is_hyphen_place k) hyphen (hex_digit lower (nibble u (digit_place k))))
uuid_byte u k = go (is_hyphen_place k)
  where
    go : (b : Bool) → IsNamedByte (cond b hyphen (hex_digit lower (nibble u (digit_place k))))
    go true = record { low = omega arith; no_delete = λ e. omega (arith, e); no_slash = λ e. omega (arith, e) }
    go false = hex_named (nibble u (digit_place k)) (nibble_small u (digit_place k))

-- a text is of such bytes, where the byte at each of its indices is one
indexed : (n : ℕ) (f : ℕ → ℕ) → ((k : ℕ) → IsNamedByte (f k)) → IsNamed (by_index n f)
unfolding by_index
indexed zero f h = tt
indexed (suc n) f h = each_append IsNamedByte (by_index n f) (f n ∷ []) (indexed n f h) (h n, tt)

-- the text of a UUID is of such bytes
uuid_named : (u : List ℕ) → IsNamed (hyphenated_text lower u)
uuid_named u = indexed 36 _ (uuid_byte u)

-- a text that is told to be a UUID is of such bytes
is_uuid_named : (t : List ℕ) → file.is_uuid t ≡ true → IsNamed t
is_uuid_named t h = go (parsed t) h
  where
    go : (o : Option (List ℕ)) → option_map_or (λ u. bytes_eq t (hyphenated_text lower u)) o false ≡ true → IsNamed t
    go None e = absurd (false≢true e)
    go (Some u) e = subst IsNamed (sym ((bytes_eq-Decides t (hyphenated_text lower u)).0 e)) (uuid_named u)

-- what stands before the UUID in a manifest's label is of such bytes
scheme_named : IsNamed (codes "urn:c2pa:")
scheme_named = grind arith

-- the label of a manifest
pub manifest_label : (t : List ℕ) → file.is_manifest_label t ≡ true → IsLabelText t
manifest_label t h = go (after_piece (codes "urn:c2pa:") t) refl h
  where
    go : (o : Option (List ℕ)) → after_piece (codes "urn:c2pa:") t ≡ o → option_map_or file.is_uuid o false ≡ true
        → IsLabelText t
    go None at e = absurd (false≢true e)
    go (Some r) at e =
        let is : t ≡ codes "urn:c2pa:" ++ r = behind (codes "urn:c2pa:") t r at in
        subst IsLabelText (sym is)
        (record { some = omega arith; named = each_append IsNamedByte (codes "urn:c2pa:") r scheme_named (is_uuid_named r e) })

-- ---- labels of new assertions

-- the test on the bytes
no_barred : (t : List ℕ) → list_any file.is_barred t ≡ false → IsNamed t
no_barred [] h = tt
no_barred (b ∷ bs) h =
    let both = or_parts (file.is_barred b) (list_any file.is_barred bs) h in
    let two = or_parts ((b == 0x2F) || nat_lt b 0x20) (b == 0x7F) both.0 in
    let one = or_parts (b == 0x2F) (nat_lt b 0x20) two.0 in
    (record { low = at_least b one.1; no_delete = eqb-false b 0x7F two.1; no_slash = eqb-false b 0x2F one.0 }, no_barred bs both.1)
  where
    at_least : (b : ℕ) → nat_lt b 0x20 ≡ false → 0x20 ≤ b
    at_least b e = ⊎_elim (λ m. absurd (false≢true (sym e ∙ lt-ltb b 0x20 m))) (λ m. m) (cases_lt b 0x20)

-- a text that is told not to be empty has some byte
positive : (t : List ℕ) → file.is_filled t ≡ true → 0 < length t
positive t h = go (length t) (eqb-false (length t) 0 (not-true (length t == 0) h))
  where
    go : (n : ℕ) → (n ≡ 0 → ⊥) → 0 < n
    go n e = omega (arith, e)

-- what the test of a new label says
pub record IsNewLabel (t : List ℕ) : Type 0 where
  pub text : IsLabelText t
  pub kind : file.is_new_kind (kind_of t) ≡ true

-- a label that passes the test can be named and is of a kind that a definition may have
pub new_label : (t : List ℕ) → file.is_new_label t ≡ true → IsNewLabel t
new_label t h =
    let both = and_parts (file.is_filled t && not (list_any file.is_barred t)) (file.is_new_kind (kind_of t)) h in
    let one = and_parts (file.is_filled t) (not (list_any file.is_barred t)) both.0 in
    record
    { text = record { some = positive t one.0; named = no_barred t (not-true (list_any file.is_barred t) one.1) }; kind = both.1 }

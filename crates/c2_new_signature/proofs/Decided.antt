-- Each message is accepted or refused.
use Rattle.std.proofs.Common.{◌≡◌, ◌⊎◌, inl, inr, ℕ, ◌<◌, ◌≤◌, ◌^◌, Bool, true, false, List, length, All, Option, Some, None, refl, subst, arith, codes, is_some}
use Rattle.std.proofs.lemmas.Bool.{ltb-false, ltb-true}
use Rattle.std.proofs.lemmas.Slice.Eq.{bytes_eq-Decides}
use Rattle.std.specs.Prelude.{nat_lt}
use Rattle.std.specs.Str.{bytes_eq}
use Rattle.c2_base.specs.declared.limits.TheConstants.{MAX_CBOR_DEPTH, MAX_HEADER_ENTRIES, MAX_INPUT_LEN}
use Rattle.c2_spec.specs.C2pa.Message.{IsPlainMessage, tagged_message}
use Rattle.c2_spec.specs.C2pa.Sign1.{IsMessage, SignParts, SpellsMessage, message_list}
use Rattle.c2_spec.specs.Cbor.Deterministic.{deterministic}
use Rattle.c2_spec.specs.Cbor.Fields.{HasItem, IsUnread}
use Rattle.c2_spec.specs.Cbor.Item.{Item, uint, nint, bytes, text, list, dict, tag, simple, half, single, double, Items, no_items, item, Pairs, no_pairs, pair, pairs_len}
use Rattle.c2_spec.specs.Cbor.Legal.{IsLegal, depth}
use Rattle.c2_spec.specs.Cbor.Lookup.{first_value}
use Rattle.c2_spec.specs.Cbor.Plain.{DiffersFrom, HasPlainKeys, ItemsHavePlainKeys, PairsHavePlainKeys}
use Rattle.c2_spec.specs.declared.cbor.CborError.{CborError}
use Rattle.c2_spec.proofs.OneMessage.{same_message}
use Rattle.c2_cbor_spec.proofs.PlainBack.{one_item}
use Rattle.c2_cbor_spec.proofs.TheLaws.{each_list_is_an_item_or_not_one, each_list_is_an_item_or_not_some}
use Rattle.c2_sigstruct.proofs.TheLaws.{each_item_is_a_message_or_not}
use Rattle.c2_new_signature.specs.Message.{IsAccepted, IsRefused}
use Rattle.c2_new_signature.specs.Tested.{EntriesTested, HeaderTested, PartsTested}
use Rattle.c2_new_signature.specs.declared.error.SignaturePart.{SignaturePart}
use Rattle.c2_new_signature.specs.declared.error.SignaturePart.TheVariants as part
use Rattle.c2_new_signature.proofs.HeaderEntries.{has_first, has_second, has_neither}
use Rattle.c2_new_signature.proofs.Tests.{accepted_parts, header_tested, refused_parts}

-- ---- facts that hold or don't

-- a fact holds, or it doesn't
abbrev Known : Type 0 → Type 0
Known P = P ⊎ (P → ⊥)

-- two facts both hold, or one of them doesn't
known_both : {P Q : Type 0} → Known P → Known Q → Known (P × Q)
known_both (inl p) (inl q) = inl (p, q)
known_both (inl p) (inr isnt) = inr (λ h. isnt h.1)
known_both (inr isnt) q = inr (λ h. isnt h.0)

-- that a fact doesn't hold is known where the fact is known to hold or not
known_not : {P : Type 0} → Known P → Known (P → ⊥)
known_not (inl p) = inr (λ isnt. isnt p)
known_not (inr isnt) = inl isnt

-- two lists of numbers are the same or not
known_same : (a b : List ℕ) → Known (a ≡ b)
known_same a b = by (bytes_eq a b) refl
  where
    by : (t : Bool) → bytes_eq a b ≡ t → Known (a ≡ b)
    by true e = inl ((bytes_eq-Decides a b).0 e)
    by false e = inr (λ same. let is = (bytes_eq-Decides a b).1 same in cc (is, e))

-- a number is at most another or not
known_most : (a b : ℕ) → Known (a ≤ b)
known_most a b = by (nat_lt b a) refl
  where
    by : (t : Bool) → nat_lt b a ≡ t → Known (a ≤ b)
    by true e = let more = ltb-true b a e in inr (λ h. omega (arith, more, h))
    by false e = inl (ltb-false b a e)

-- ---- plain items

-- a key's bytes differ from those of others or not
known_differs : (k : Item) (ps : Pairs) → Known (DiffersFrom k ps)
known_differs k no_pairs = inl tt
known_differs k (pair l v ps) =
    known_both (known_not (known_same (deterministic k) (deterministic l))) (known_differs k ps)

-- the four facts of a pair in a map hold, or one doesn't
known_pair : (k v : Item) (ps : Pairs) → Known (HasPlainKeys k) → Known (HasPlainKeys v) → Known (DiffersFrom k ps)
    → Known (PairsHavePlainKeys ps) → Known (PairsHavePlainKeys (pair k v ps))
known_pair k v ps (inl a) (inl b) (inl c) (inl d) = inl (a, b, c, d)
known_pair k v ps (inr isnt) b c d = inr (λ h. isnt h.0)
known_pair k v ps (inl a) (inr isnt) c d = inr (λ h. isnt h.1)
known_pair k v ps (inl a) (inl b) (inr isnt) d = inr (λ h. isnt h.2)
known_pair k v ps (inl a) (inl b) (inl c) (inr isnt) = inr (λ h. isnt h.3)

mutual
  -- the keys in an item are plain or not
  known_keys : (v : Item) → Known (HasPlainKeys v)
  known_keys (uint n) = inl tt
  known_keys (nint n) = inl tt
  known_keys (bytes b) = inl tt
  known_keys (text t) = inl tt
  known_keys (list vs) = known_items vs
  known_keys (dict ps) = known_pairs ps
  known_keys (tag n v) = known_keys v
  known_keys (simple a) = inl tt
  known_keys (half n) = inl tt
  known_keys (single n) = inl tt
  known_keys (double n) = inl tt

  -- the keys in the items of a list are plain or not
  known_items : (vs : Items) → Known (ItemsHavePlainKeys vs)
  known_items no_items = inl tt
  known_items (item v vs) = known_both (known_keys v) (known_items vs)

  -- the keys of the pairs of a map are plain or not
  known_pairs : (ps : Pairs) → Known (PairsHavePlainKeys ps)
  known_pairs no_pairs = inl tt
  known_pairs (pair k v ps) = known_pair k v ps (known_keys k) (known_keys v) (known_differs k ps) (known_pairs ps)

-- a message is legal with its tag or not, where it is legal as it was read
known_legal : (m : Item) (p : SignParts) → IsLegal m → IsMessage m p → Known (IsLegal (tagged_message p))
known_legal m p legal is = by is.form
  where
    deep : IsLegal (message_list p) → Known (depth (tagged_message p) ≤ MAX_CBOR_DEPTH)
        → Known (IsLegal (tagged_message p))
    deep own (inl shallow) =
        inl (record { shallow = shallow; distinct = own.distinct; no_bad_simple = own.no_bad_simple })
    deep own (inr isnt) = inr (λ h. isnt h.shallow)

    by : (m ≡ message_list p) ⊎ (m ≡ tag 18 (message_list p)) → Known (IsLegal (tagged_message p))
    by (inl e) = deep (subst IsLegal e legal) (known_most (depth (tagged_message p)) MAX_CBOR_DEPTH)
    by (inr e) = inl (subst IsLegal e legal)

-- a message is plain or not
known_plain : (p : SignParts) → Known (IsLegal (tagged_message p)) → Known (HasPlainKeys (tagged_message p))
    → Known (IsPlainMessage p)
known_plain p (inl legal) (inl keys) = inl (record { legal = legal; plain = keys })
known_plain p (inl legal) (inr isnt) = inr (λ h. isnt h.plain)
known_plain p (inr isnt) keys = inr (λ h. isnt h.legal)

-- ---- the tests of the parts

-- which test of a header's entries fails first, where they are few
few_tested : (entries : Pairs) → pairs_len entries ≤ MAX_HEADER_ENTRIES → (first second : Bool)
    → first ≡ is_some (first_value (codes "pad") entries) → second ≡ is_some (first_value (codes "pad2") entries)
    → (t : Option SignaturePart) × EntriesTested entries t
few_tested entries few true second e f = (Some part.Pad, (few, has_first entries true e refl))
few_tested entries few false true e f = (Some part.Pad, (few, has_second entries true f refl))
few_tested entries few false false e f = (None, (few, has_neither entries false false e refl f refl))

-- which test of a header's entries fails first
entries_tested : (entries : Pairs) → Known (pairs_len entries ≤ MAX_HEADER_ENTRIES)
    → (t : Option SignaturePart) × EntriesTested entries t
entries_tested entries (inl few) =
    few_tested entries few (is_some (first_value (codes "pad") entries)) (is_some (first_value (codes "pad2") entries))
    refl refl
entries_tested entries (inr many) = (Some part.Entries, many)

-- which test of a header fails first
some_header : (v : Item) → (t : Option SignaturePart) × HeaderTested v t
some_header (uint n) = (None, tt)
some_header (nint n) = (None, tt)
some_header (bytes b) = (None, tt)
some_header (text t) = (None, tt)
some_header (list vs) = (None, tt)
some_header (dict ps) = entries_tested ps (known_most (pairs_len ps) MAX_HEADER_ENTRIES)
some_header (tag n v) = (None, tt)
some_header (simple a) = (None, tt)
some_header (half n) = (None, tt)
some_header (single n) = (None, tt)
some_header (double n) = (None, tt)

-- which test of the parts fails first
some_parts : (protected : List ℕ) (p : SignParts) → Known (IsPlainMessage p) → Known (p.protected ≡ protected)
    → (t : Option SignaturePart) × PartsTested protected p t
some_parts protected p (inr isnt) own = (Some part.Plain, inl (refl, isnt))
some_parts protected p (inl plain) (inr other) = (Some part.Protected, inr (plain, inl (refl, other)))
some_parts protected p (inl plain) (inl own) = let tested = some_header p.unprotected in (tested.0, header_tested protected p tested.0 plain own tested.1)

-- ---- the message of bytes

-- bytes that are an item spell a message or none
known_item : (s : List ℕ) (v : Item) → HasItem s v
    → ((p : SignParts) × IsMessage v p) ⊎ ((p : SignParts) → IsMessage v p → ⊥)
    → ((p : SignParts) × SpellsMessage s p) ⊎ ((p : SignParts) → SpellsMessage s p → ⊥)
known_item s v has (inl (p, is)) =
    inl (p, record { message = v; legal = has.legal; spelled = has.spelled; is = is })
known_item s v has (inr none) =
    inr (λ p h. none p (subst (λ (w : Item). IsMessage w p) (one_item h.message v s h.spelled has.spelled) h.is))

-- bytes spell a message or none
known_message : (s : List ℕ) → All (λ b. b < 2 ^ 8) s → length s < 2 ^ 64
    → ((p : SignParts) × SpellsMessage s p) ⊎ ((p : SignParts) → SpellsMessage s p → ⊥)
known_message s all short = by (each_list_is_an_item_or_not_some s all short)
  where
    by : ((v : Item) × HasItem s v) ⊎ ((e : CborError) × IsUnread s e)
        → ((p : SignParts) × SpellsMessage s p) ⊎ ((p : SignParts) → SpellsMessage s p → ⊥)
    by (inl (v, has)) = known_item s v has (each_item_is_a_message_or_not v)
    by (inr (e, unread)) =
        inr (λ p h. each_list_is_an_item_or_not_one s all short h.message e
        (record { legal = h.legal; spelled = h.spelled }) unread)

-- ---- all tests

-- bytes that spell a message are accepted, or refused for a test
of_parts : (protected s : List ℕ) (p : SignParts) → length s ≤ MAX_INPUT_LEN → SpellsMessage s p
    → (t : Option SignaturePart) → PartsTested protected p t
    → IsAccepted protected s ⊎ ((test : SignaturePart) × IsRefused protected s test)
of_parts protected s p small spelled None h =
    inl (accepted_parts protected s p small spelled (λ q k. same_message one_item s p q spelled k) h)
of_parts protected s p small spelled (Some test) h =
    inr (test, refused_parts protected s p test small spelled (λ q k. same_message one_item s p q spelled k) h)

-- bytes that aren't too many are accepted, or refused for a test, whether or not they spell a message
of_message : (protected s : List ℕ) → length s ≤ MAX_INPUT_LEN
    → ((p : SignParts) × SpellsMessage s p) ⊎ ((p : SignParts) → SpellsMessage s p → ⊥)
    → IsAccepted protected s ⊎ ((test : SignaturePart) × IsRefused protected s test)
of_message protected s small (inl (p, spelled)) =
    let tested =
    some_parts protected p
    (known_plain p (known_legal spelled.message p spelled.legal spelled.is) (known_keys (tagged_message p)))
    (known_same p.protected protected) in
    of_parts protected s p small spelled tested.0 tested.1
of_message protected s small (inr none) = inr (part.Form, inr (small, inl (refl, λ some. none some.0 some.1)))

-- bytes are accepted, or refused for a test, whether or not they are few
of_size : (protected s : List ℕ) → All (λ b. b < 2 ^ 8) s → Known (length s ≤ MAX_INPUT_LEN)
    → IsAccepted protected s ⊎ ((test : SignaturePart) × IsRefused protected s test)
of_size protected s all (inl small) =
    of_message protected s small (known_message s all (omega (arith, small)))
of_size protected s all (inr large) = inr (part.Size, inl (refl, large))

-- bytes are accepted, or refused for a test
pub accepted_or_refused : (protected s : List ℕ) → All (λ b. b < 2 ^ 8) s
    → IsAccepted protected s ⊎ ((test : SignaturePart) × IsRefused protected s test)
accepted_or_refused protected s all = of_size protected s all (known_most (length s) MAX_INPUT_LEN)

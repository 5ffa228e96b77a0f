-- Whether an item is a message follows from its members.
use Rattle.std.proofs.Common.{◌≡◌, refl, sym, ap, subst, ◌∙◌, ◌⊎◌, inl, inr, ℕ, Bool, true, false, ◌&&◌, ◌==◌, cond, List, Option, Some, None}
use Rattle.std.proofs.lemmas.Bool.{eqb-true}
use Rattle.c2_spec.specs.Cbor.Item.{Item, bytes, list, dict, tag, simple, Items, no_items, item}
use Rattle.c2_spec.specs.C2pa.Sign1.{SignParts, message_list, IsMap, IsMessage}
use Rattle.c2_sigstruct.specs.Parts.{bytes_in, is_null_item, is_dict, untagged, parts_if, parts_in_four, parts_in_items, parts_in_list}
use Rattle.c2_lemmas.proofs.Bools.{both_true}

-- an item that has bytes as a byte string is one
bytes_is : (v : Item) (b : List ℕ) → bytes_in v ≡ Some b → v ≡ bytes b
bytes_is (bytes x) b e = ap bytes (let same = e in cc (same))
bytes_is v b e = absurd (let wrong = e in cc (wrong))

-- an item that passes as a map is one
dict_is : (v : Item) → is_dict v ≡ true → IsMap v
dict_is (dict ps) e = (ps, refl)
dict_is v e = absurd (let wrong = e in cc (wrong))

-- an item that passes as null is null
null_is : (v : Item) → is_null_item v ≡ true → v ≡ simple 22
null_is (simple a) e = ap simple (eqb-true a 22 e)
null_is v e = absurd (let wrong = e in cc (wrong))

-- the parts that a test lets through are these
pub record AreParts (test : Bool) (a : Option (List ℕ)) (u : Item) (d : Option (List ℕ)) (p : SignParts) : Type 0 where
  pub passes : test ≡ true
  pub protected : a ≡ Some p.protected
  pub header : u ≡ p.unprotected
  pub signature : d ≡ Some p.signature

-- parts that come of a test passed it
parts_are : (test : Bool) (a : Option (List ℕ)) (u : Item) (d : Option (List ℕ)) (p : SignParts)
    → parts_if test a u d ≡ Some p → AreParts test a u d p
parts_are true (Some x) u (Some y) p e =
    let same : ◌≡◌ {A = SignParts} (record { protected = x; unprotected = u; signature = y }) p = cc (e) in
    record
    { passes = refl; protected = ap (λ (q : SignParts). Some q.protected) same; header = ap (λ (q : SignParts). q.unprotected) same; signature = ap (λ (q : SignParts). Some q.signature) same }
parts_are true (Some x) u None p e = absurd (cc (e))
parts_are true None u d p e = absurd (cc (e))
parts_are false a u d p e = absurd (cc (e))

-- four members that have parts are the list of a message with these parts
four_are : (a b c d : Item) (p : SignParts) → parts_in_four a b c d ≡ Some p
    → IsMap p.unprotected × (list (item a (item b (item c (item d no_items)))) ≡ message_list p)
four_are a b c d p e =
    let h = parts_are (is_dict b && is_null_item c) (bytes_in a) b (bytes_in d) p e in
    let tests = both_true (is_dict b) (is_null_item c) h.passes in
    let pa : a ≡ bytes p.protected = bytes_is a p.protected h.protected in
    let pb : b ≡ p.unprotected = h.header in
    let pc : c ≡ simple 22 = null_is c tests.1 in
    let pd : d ≡ bytes p.signature = bytes_is d p.signature h.signature in
    (subst IsMap pb (dict_is b tests.0), cc (pa, pb, pc, pd))

-- members that have parts are the list of a message with these parts
items_are : (vs : Items) (p : SignParts) → parts_in_items vs ≡ Some p → IsMap p.unprotected × (list vs ≡ message_list p)
items_are (item a (item b (item c (item d no_items)))) p e = four_are a b c d p e
items_are vs p e = absurd (let wrong = e in cc (wrong))

-- an item that has parts is the list of a message with these parts
list_are : (v : Item) (p : SignParts) → parts_in_list v ≡ Some p → IsMap p.unprotected × (v ≡ message_list p)
list_are (list vs) p e = items_are vs p e
list_are v p e = absurd (let wrong = e in cc (wrong))

-- a tagged item that has parts once its tag is off is a message
tag_is : (n : ℕ) (v : Item) (p : SignParts) (b : Bool) → (n == 18) ≡ b → parts_in_list (cond b v (tag n v)) ≡ Some p
    → IsMessage (tag n v) p
tag_is n v p true is e =
    let own = list_are v p e in
    record { header = own.0; form = inr (ap (λ k. tag k v) (eqb-true n 18 is) ∙ ap (tag 18) own.1) }
tag_is n v p false is e = absurd (let wrong = e in cc (wrong))

-- an item that has parts once its tag is off, where it has one, is a message
pub message_of : (v : Item) (p : SignParts) → parts_in_list (untagged v) ≡ Some p → IsMessage v p
message_of (tag n v) p e = tag_is n v p (n == 18) refl e
message_of (list vs) p e = let own = items_are vs p e in record { header = own.0; form = inl own.1 }
message_of v p e = absurd (let wrong = e in cc (wrong))

-- the list of a message has its parts
spelled_parts : (a : List ℕ) (u : Item) (s : List ℕ) → IsMap u
    → parts_in_list (list (item (bytes a) (item u (item (simple 22) (item (bytes s) no_items))))) ≡ Some (record { protected = a; unprotected = u; signature = s })
spelled_parts a u s (ps, is) =
    subst
    (λ (w : Item). parts_in_list (list (item (bytes a) (item w (item (simple 22) (item (bytes s) no_items))))) ≡ Some (record { protected = a; unprotected = w; signature = s }))
    (sym is) refl

-- a message has its parts once its tag is off, where it has one
pub parts_of_message : (v : Item) (p : SignParts) → IsMessage v p → parts_in_list (untagged v) ≡ Some p
parts_of_message v p h = by_form h.form
  where
    by_form : (v ≡ message_list p) ⊎ (v ≡ tag 18 (message_list p)) → parts_in_list (untagged v) ≡ Some p
    by_form (inl is) =
        ap (λ (w : Item). parts_in_list (untagged w)) is ∙ spelled_parts p.protected p.unprotected p.signature h.header
    by_form (inr is) =
        ap (λ (w : Item). parts_in_list (untagged w)) is ∙ spelled_parts p.protected p.unprotected p.signature h.header

-- an item is a message or is none
pub message_or : (v : Item) → ((p : SignParts) × IsMessage v p) ⊎ ((p : SignParts) → IsMessage v p → ⊥)
message_or v = by (parts_in_list (untagged v)) refl
  where
    by : (o : Option SignParts) → parts_in_list (untagged v) ≡ o
        → ((p : SignParts) × IsMessage v p) ⊎ ((p : SignParts) → IsMessage v p → ⊥)
    by (Some p) is = inl (p, message_of v p is)
    by None is = inr (λ p h. let both = sym is ∙ parts_of_message v p h in cc (both))

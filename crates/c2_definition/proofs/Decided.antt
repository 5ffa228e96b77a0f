-- Whether the new assertions of a file have their payloads is decided, so each file is read one way.
use Rattle.c2_cbor_spec.proofs.TheLaws.{each_list_is_an_item_or_not_one, each_list_is_an_item_or_not_some}
use Rattle.std.proofs.Common.{◌≡◌, ◌↔◌, ◌⊎◌, inl, inr, ℕ, ◌<◌, ◌^◌, Bool, true, false, ltb, List, [], ◌∷◌, length, Option, Some, None, Result, refl, sym, ap, subst, ◌∙◌}
use Rattle.std.specs.Prelude.{All}
use Rattle.std.specs.List.{AllByRecursion}
use Rattle.std.proofs.lemmas.Bool.{ltb-true, lt-ltb}
use Rattle.std.proofs.lemmas.List.Elements.{All-nil, All-cons, All-head, All-tail}
use Rattle.serde_json.specs.Data.{Data}
use Rattle.c2_spec.specs.Cbor.Item.{Item}
use Rattle.c2_spec.specs.Cbor.Fields.{HasItem, IsUnread}
use Rattle.c2_spec.specs.declared.cbor.CborError.{CborError}
use Rattle.c2_definition.specs.declared.types.Definition.{Definition}
use Rattle.c2_definition.specs.declared.types.DefinitionField.{DefinitionField}
use Rattle.c2_definition.specs.declared.types.NewAssertion.{NewAssertion}
use Rattle.c2_definition.specs.declared.types.Payload.{Payload}
use Rattle.c2_definition.specs.declared.types.Payload.TheVariants as payload
use Rattle.c2_definition.specs.Json.{object_of}
use Rattle.c2_definition.specs.DefinitionFile.{IsWholeItem, IsPayload, HasPayload, HavePayloads, assertions_in, definition_in, IsDefinition}
use Rattle.c2_lemmas.proofs.Options.{same_some}

-- ---- facts that a test tells

-- a test tells whether a fact holds
abbrev pub Decided : Type 0 → Type 0
Decided P = (b : Bool) × ((b ≡ true) ↔ P)

-- a fact that holds
yes : {P : Type 0} → P → Decided P
yes p = (true, (λ e. p, λ q. refl))

-- a fact that doesn't
no : {P : Type 0} → (P → ⊥) → Decided P
no none = (false, (λ bad. absurd (cc (bad)), λ p. absurd (none p)))

-- a fact is decided where another is that holds just when it does
through : {P Q : Type 0} → (P → Q) → (Q → P) → Decided P → Decided Q
through to back (b, told) = (b, (λ e. to (told.0 e), λ q. told.1 (back q)))

-- two facts that are decided are decided together
both : {P Q : Type 0} → Decided P → Decided Q → Decided (P × Q)
both (true, p) (true, q) = yes (p.0 refl, q.0 refl)
both (true, p) (false, q) = no (λ h. let bad = q.1 h.1 in cc (bad))
both (false, p) d = no (λ h. let bad = p.1 h.0 in cc (bad))

-- which of two numbers is less is decided
less : (m n : ℕ) → Decided (m < n)
less m n = (ltb m n, (ltb-true m n, lt-ltb m n))

-- whether numbers are bytes
are_bytes : (s : List ℕ) → Decided (All (λ b. b < 2 ^ 8) s)
are_bytes [] = yes (All-nil (λ b. b < 2 ^ 8))
are_bytes (b ∷ s) =
    through (λ h. All-cons (λ c. c < 2 ^ 8) b s h.0 h.1)
    (λ h. (All-head (λ c. c < 2 ^ 8) b s h, All-tail (λ c. c < 2 ^ 8) b s h))
    (both (less b (2 ^ 8)) (are_bytes s))

-- ---- payloads

-- bytes that a program can hold
held_item : (s : List ℕ) → All (λ b. b < 2 ^ 8) s → length s < 2 ^ 64
    → ((v : Item) × HasItem s v) ⊎ ((e : CborError) × IsUnread s e) → Decided (IsWholeItem s)
held_item s bytes short (inl (v, has)) = yes (record { are_bytes = bytes; short = short; item = v; has = has })
held_item s bytes short (inr (e, unread)) =
    no (λ w. each_list_is_an_item_or_not_one s bytes short w.item e w.has unread)

-- numbers, of which it is told whether a program can hold them
item_by : (s : List ℕ) → Decided (All (λ b. b < 2 ^ 8) s × (length s < 2 ^ 64)) → Decided (IsWholeItem s)
item_by s (true, told) = let held = told.0 refl in held_item s held.0 held.1 (each_list_is_an_item_or_not_some s held.0 held.1)
item_by s (false, told) = no (λ w. let bad = told.1 (w.are_bytes, w.short) in cc (bad))

-- whether bytes are one whole item
whole_item : (s : List ℕ) → Decided (IsWholeItem s)
whole_item s = item_by s (both (are_bytes s) (less (length s) (2 ^ 64)))

-- whether bytes are for a content box
for_box : (kind : Payload) (s : List ℕ) → Decided (IsPayload kind s)
for_box payload.Cbor s = whole_item s
for_box payload.Json s = yes tt

-- whether all of a list are
all_for_boxes : (list : List NewAssertion) → Decided (AllByRecursion HasPayload list)
all_for_boxes [] = yes tt
all_for_boxes (a ∷ more) = both (for_box a.kind a.bytes) (all_for_boxes more)

-- whether those of an object are, by its list of new assertions
listed : (v : Data) (o : Option (List NewAssertion)) → assertions_in v ≡ o → Decided (HavePayloads v)
listed v None is = yes (λ list at. let bad = sym is ∙ at in absurd (cc (bad)))
listed v (Some list) is =
    through
    (λ all other at. subst (AllByRecursion HasPayload) (same_some list other (sym is ∙ at)) all)
    (λ have. have list is)
    (all_for_boxes list)

-- whether those of a file are, by its object
told_of : (file : List ℕ) (o : Option Data) → object_of file ≡ o
    → Decided ((v : Data) → object_of file ≡ Some v → HavePayloads v)
told_of file None is = yes (λ v at. let bad = sym is ∙ at in absurd (cc (bad)))
told_of file (Some v) is =
    through
    (λ have other at. subst HavePayloads (same_some v other (sym is ∙ at)) have)
    (λ all. all v is)
    (listed v (assertions_in v) refl)

-- ---- files

-- each file is one definition, or one thing of it is refused first
pub each_file : (file : List ℕ) → (r : Result Definition DefinitionField) × IsDefinition file r
each_file file =
    let told = told_of file (object_of file) refl in
    (definition_in told.0 file, record { payloads = told.0; told = told.1; is = refl })

-- two tests that tell the same are the same
same_test : {P : Type 0} (a b : Bool) → (a ≡ true) ↔ P → (b ≡ true) ↔ P → a ≡ b
same_test true b p q = sym (q.1 (p.0 refl))
same_test false true p q = p.1 (q.0 refl)
same_test false false p q = refl

-- a file is no two definitions, and no two things of it are refused first
pub one_reading : (file : List ℕ) (r s : Result Definition DefinitionField) → IsDefinition file r → IsDefinition file s
    → r ≡ s
one_reading file r s h k =
    h.is ∙ ap (λ b. definition_in b file) (same_test h.payloads k.payloads h.told k.told) ∙ sym k.is

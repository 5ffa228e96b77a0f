-- Bytes are one message at most, where they spell one item at most.
use Rattle.std.proofs.Common.{◌≡◌, ◌⊎◌, inl, inr, ℕ, List, sym, ap, ◌∙◌, subst}
use Rattle.c2_spec.specs.Cbor.Item.{Item, tag}
use Rattle.c2_spec.specs.Cbor.Spelling.{Spells}
use Rattle.c2_spec.specs.C2pa.Sign1.{SignParts, message_list, SpellsMessage}

-- bytes spell one item at most
abbrev pub OneItem : Type 0
OneItem = (v w : Item) (s : List ℕ) → Spells v s → Spells w s → v ≡ w

-- the parts of a message, written short
abbrev parts : List ℕ → Item → List ℕ → SignParts
parts protected unprotected signature =
    record { protected = protected; unprotected = unprotected; signature = signature }

-- equal lists of members have equal parts
pub same_parts : (p q : SignParts) → message_list p ≡ message_list q → p ≡ q
same_parts p q e =
    let protected : p.protected ≡ q.protected = cc (e) in
    let unprotected : p.unprotected ≡ q.unprotected = cc (e) in
    let signature : p.signature ≡ q.signature = cc (e) in
    ap (λ (x : List ℕ). parts x p.unprotected p.signature) protected
    ∙ ap (λ (x : Item). parts q.protected x p.signature) unprotected
    ∙ ap (λ (x : List ℕ). parts q.protected q.unprotected x) signature

-- an item is a message of these parts, with its tag or without
abbrev pub HasForm : Item → SignParts → Type 0
HasForm v p = (v ≡ message_list p) ⊎ (v ≡ tag 18 (message_list p))

-- an item is a message of one list of parts at most
pub same_form : (v : Item) (p q : SignParts) → HasForm v p → HasForm v q → p ≡ q
same_form v p q (inl a) (inl b) = same_parts p q (sym a ∙ b)
same_form v p q (inl a) (inr b) = absurd (let bad = sym a ∙ b in cc (bad))
same_form v p q (inr a) (inl b) = absurd (let bad = sym a ∙ b in cc (bad))
same_form v p q (inr a) (inr b) = same_parts p q (let both = sym a ∙ b in cc (both))

-- bytes spell one message at most
pub same_message : OneItem → (s : List ℕ) (p q : SignParts) → SpellsMessage s p → SpellsMessage s q → p ≡ q
same_message one_item s p q a b =
    let same : b.message ≡ a.message = one_item b.message a.message s b.spelled a.spelled in
    same_form a.message p q a.is.form (subst (λ v. HasForm v q) same b.is.form)

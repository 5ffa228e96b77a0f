-- What is read of bytes, by the item that they spell.
use Rattle.std.proofs.Common.{◌≡◌, ◌⊎◌, inl, inr, ℕ, List, Option, Some, None, refl, sym, ap, subst, ◌∙◌, arith}
use Rattle.c2_spec.specs.C2pa.Sign1.{IsHeader, IsMessage, SignParts, SpellsMessage, message_list}
use Rattle.c2_spec.specs.Cbor.Item.{Item, tag}
use Rattle.c2_spec.specs.Cbor.Legal.{IsLegal}
use Rattle.c2_spec.specs.Cbor.Spelling.{Spells}
use Rattle.c2_spec.specs.declared.cbor.CborError.{CborError}
use Rattle.c2_spec.specs.declared.cbor.CborError.TheVariants as faults
use Rattle.c2_spec.specs.declared.sign1.SignError.{SignError}
use Rattle.c2_spec.specs.declared.sign1.SignError.TheVariants.{Form, NoMemory}
use Rattle.c2_sigstruct.specs.Parts.{SpellsNone, parts_in_list, sign_error, untagged}
use Rattle.c2_sigstruct.proofs.Messages.{message_of, parts_of_message}

-- the header of a legal message is legal
header_in : (p : SignParts) → IsLegal (message_list p) → IsLegal p.unprotected
header_in p h = record {
  shallow = omega (arith, h.shallow);
  distinct = h.distinct.1.0;
  no_bad_simple = λ bad. h.no_bad_simple (inr (inl bad));
}

-- what a legal item with a tag encloses is legal
in_tag : (n : ℕ) (v : Item) → IsLegal (tag n v) → IsLegal v
in_tag n v h = record { shallow = omega (arith, h.shallow); distinct = h.distinct; no_bad_simple = h.no_bad_simple }

-- the header of a legal item that is a message
legal_header : (v : Item) (p : SignParts) → IsLegal v → IsMessage v p → IsLegal p.unprotected
legal_header v p h is = by is.form
  where
    by : (v ≡ message_list p) ⊎ (v ≡ tag 18 (message_list p)) → IsLegal p.unprotected
    by (inl e) = header_in p (subst IsLegal e h)
    by (inr e) = header_in p (in_tag 18 (message_list p) (subst IsLegal e h))

-- an item of which parts were taken, its tag off, is a message with these parts
taken : (v u : Item) (p : SignParts) → u ≡ untagged v → Some p ≡ parts_in_list u → IsMessage v p
taken v u p e h = message_of v p (ap parts_in_list (sym e) ∙ sym h)

-- what was read is spelled
pub read_spelled : (s : List ℕ) (v u : Item) (p : SignParts) → IsLegal v × Spells v s → u ≡ untagged v
    → Some p ≡ parts_in_list u → SpellsMessage s p
read_spelled s v u p own e h = record { message = v; legal = own.0; spelled = own.1; is = taken v u p e h }

-- and its header can be written
pub read_header : (v u : Item) (p : SignParts) → IsLegal v → u ≡ untagged v → Some p ≡ parts_in_list u
    → IsHeader p.unprotected
read_header v u p legal e h =
    let is = taken v u p e h in record { map = is.header; legal = legal_header v p legal is }

-- of a message that the bytes spell, these parts are taken
parts_taken : (s : List ℕ) (v u : Item) (q : SignParts) → ((w : Item) → IsLegal w → Spells w s → v ≡ w)
    → u ≡ untagged v → SpellsMessage s q → parts_in_list u ≡ Some q
parts_taken s v u q only e h =
    ap parts_in_list e ∙ ap (λ w. parts_in_list (untagged w)) (only h.message h.legal h.spelled)
    ∙ parts_of_message h.message q h.is

-- the message that was read is the one that the bytes spell
pub read_one : (s : List ℕ) (v u : Item) (p : SignParts) → ((w : Item) → IsLegal w → Spells w s → v ≡ w)
    → u ≡ untagged v → Some p ≡ parts_in_list u → (q : SignParts)
    → SpellsMessage s q → p ≡ q
read_one s v u p only e h q spelled =
    let both : ◌≡◌ {A = Option SignParts} (Some p) (Some q) = h ∙ parts_taken s v u q only e spelled in cc (both)

-- where no parts were taken, the bytes spell no message
pub read_none : (s : List ℕ) (v u : Item) → ((w : Item) → IsLegal w → Spells w s → v ≡ w) → u ≡ untagged v
    → None ≡ parts_in_list u → SpellsNone s
read_none s v u only e h q spelled =
    let both : ◌≡◌ {A = Option SignParts} None (Some q) = h ∙ parts_taken s v u q only e spelled in cc (both)

-- ---- no item

-- an error is that of memory, where the bytes spell a message
pub no_item : (s : List ℕ) (fault : CborError) (r : SignError) → r ≡ sign_error fault
    → ((w : Item) → IsLegal w → Spells w s → fault ≡ faults.NoMemory) → (q : SignParts)
    → SpellsMessage s q → r ≡ NoMemory
no_item s fault r is only q h = is ∙ ap sign_error (only h.message h.legal h.spelled)

-- an error of memory, or one that says that the bytes spell none
told : (s : List ℕ) (fault : CborError) → ((w : Item) → IsLegal w → Spells w s → fault ≡ faults.NoMemory)
    → (sign_error fault ≡ NoMemory) ⊎ ((sign_error fault ≡ Form) × SpellsNone s)
told s (faults.Short at) only = inr (refl, λ q h. let same = only h.message h.legal h.spelled in cc (same))
told s (faults.Reserved at) only = inr (refl, λ q h. let same = only h.message h.legal h.spelled in cc (same))
told s (faults.BadText at) only = inr (refl, λ q h. let same = only h.message h.legal h.spelled in cc (same))
told s (faults.DuplicateKey at) only = inr (refl, λ q h. let same = only h.message h.legal h.spelled in cc (same))
told s (faults.TooDeep at) only = inr (refl, λ q h. let same = only h.message h.legal h.spelled in cc (same))
told s (faults.Trailing at) only = inr (refl, λ q h. let same = only h.message h.legal h.spelled in cc (same))
told s faults.NoMemory only = inl refl

-- the error that was answered says so
pub error_told : (s : List ℕ) (fault : CborError) (r : SignError) → r ≡ sign_error fault
    → ((w : Item) → IsLegal w → Spells w s → fault ≡ faults.NoMemory)
    → (r ≡ NoMemory) ⊎ ((r ≡ Form) × SpellsNone s)
error_told s fault r is only =
    subst (λ (e : SignError). (e ≡ NoMemory) ⊎ ((e ≡ Form) × SpellsNone s)) (sym is) (told s fault only)

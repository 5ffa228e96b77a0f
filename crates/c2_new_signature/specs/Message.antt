-- Which signed messages can be put into a new store (C2PA Technical Specification 2.x, on signing a claim; RFC 9052, section 4.2):
-- tests in their order. Which they are is this project's own choice.
use Rattle.std.specs.Prelude.{◌≡◌, ◌⊎◌, ℕ, ◌^◌, ◌<◌, ◌≤◌, List, [], ◌∷◌, length, All, codes, ⊤}
use Rattle.std.specs.List.{AllByRecursion}
use Rattle.std.specs.declared.result.Result.{Result}
use Rattle.std.specs.declared.result.Result.TheVariants.{Ok, Err}
use Rattle.c2_base.specs.declared.limits.TheConstants.{MAX_INPUT_LEN, MAX_HEADER_ENTRIES}
use Rattle.c2_spec.specs.C2pa.Message.{CanBePadded, HasNoText, IsPlainMessage}
use Rattle.c2_spec.specs.C2pa.Sign1.{SignParts, SpellsMessage}
use Rattle.c2_spec.specs.Cbor.Item.{Pairs, dict, pairs_len}
use Rattle.c2_new_signature.specs.declared.error.SignaturePart.{SignaturePart}
use Rattle.c2_new_signature.specs.declared.error.SignaturePart.TheVariants as part

-- ---- the tests

-- this holds of the entries of a message's unprotected header
abbrev pub OfEntries : (Pairs → Type 0) → SignParts → Type 0
OfEntries holds p = (entries : Pairs) → p.unprotected ≡ dict entries → holds entries

-- no entry has a key of padding
abbrev pub HasNoPadding : Pairs → Type 0
HasNoPadding entries = HasNoText (codes "pad") entries × HasNoText (codes "pad2") entries

-- few enough entries that those of padding don't make the map's head longer
abbrev pub AreFew : Pairs → Type 0
AreFew entries = pairs_len entries ≤ MAX_HEADER_ENTRIES

-- the parts of a message that was read pass this test, where the definition has this protected header
abbrev pub PartsPass : List ℕ → SignParts → SignaturePart → Type 0
PartsPass protected p part.Size = ⊤
PartsPass protected p part.Form = ⊤
PartsPass protected p part.Plain = IsPlainMessage p
PartsPass protected p part.Protected = p.protected ≡ protected
PartsPass protected p part.Entries = OfEntries AreFew p
PartsPass protected p part.Pad = OfEntries HasNoPadding p

-- the bytes of a message pass this test
abbrev pub Passes : List ℕ → List ℕ → SignaturePart → Type 0
Passes protected bytes part.Size = length bytes ≤ MAX_INPUT_LEN
Passes protected bytes part.Form = (p : SignParts) × SpellsMessage bytes p
Passes protected bytes test = (p : SignParts) → SpellsMessage bytes p → PartsPass protected p test

-- the tests of the parts, in their order
abbrev pub parts_tests : List SignaturePart
parts_tests = part.Plain ∷ part.Protected ∷ part.Entries ∷ part.Pad ∷ []

-- all tests of a signed message, in their order
abbrev pub message_tests : List SignaturePart
message_tests = part.Size ∷ part.Form ∷ parts_tests

-- ---- which fails first

-- of these tests, all before this one are passed, and this one isn't
abbrev pub IsFirstFailing : (SignaturePart → Type 0) → List SignaturePart → SignaturePart → Type 0
IsFirstFailing passes [] test = ⊥
IsFirstFailing passes (first ∷ others) test = ((test ≡ first) × (passes first → ⊥)) ⊎ (passes first × IsFirstFailing passes others test)

-- the message is refused for this test
abbrev pub IsRefused : List ℕ → List ℕ → SignaturePart → Type 0
IsRefused protected bytes test = IsFirstFailing (Passes protected bytes) message_tests test

-- the message passes all tests
abbrev pub IsAccepted : List ℕ → List ℕ → Type 0
IsAccepted protected bytes = AllByRecursion (Passes protected bytes) message_tests

-- these are the parts of the signed message that bytes spell, which passes all tests; or the first test that it fails
abbrev pub IsMessageRead : List ℕ → List ℕ → Result SignParts SignaturePart → Type 0
IsMessageRead protected bytes (Ok p) = IsAccepted protected bytes × SpellsMessage bytes p
IsMessageRead protected bytes (Err test) = IsRefused protected bytes test

-- A list of bytes is accepted, or is refused for one test, and never both.
pub record RefusedForOne : Type 0 where
  pub one : (protected bytes : List ℕ) (a b : SignaturePart) → IsRefused protected bytes a → IsRefused protected bytes b → a ≡ b
  pub none : (protected bytes : List ℕ) (test : SignaturePart) → IsRefused protected bytes test → IsAccepted protected bytes → ⊥
  pub either : (protected bytes : List ℕ) → All (λ b. b < 2 ^ 8) bytes → IsAccepted protected bytes ⊎ ((test : SignaturePart) × IsRefused protected bytes test)

-- the message has this protected header, and can be padded
pub record IsWanted (protected : List ℕ) (p : SignParts) : Type 0 where
  pub own : p.protected ≡ protected
  pub entries : Pairs
  pub can : CanBePadded p entries

-- what accepted bytes spell has the wanted protected header, and can be padded
abbrev pub AcceptedAreWanted : Type 0
AcceptedAreWanted = (protected bytes : List ℕ) (p : SignParts) → IsAccepted protected bytes → SpellsMessage bytes p → IsWanted protected p

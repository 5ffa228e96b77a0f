-- Which test of a message fails first.
use Rattle.std.proofs.Common.{◌≡◌, ◌⊎◌, inl, inr, ℕ, ◌≤◌, List, [], ◌∷◌, length, Option, Some, None, refl, sym, ◌∙◌, subst}
use Rattle.std.specs.List.{AllByRecursion}
use Rattle.c2_base.specs.declared.limits.TheConstants.{MAX_INPUT_LEN}
use Rattle.c2_spec.specs.C2pa.Message.{IsPlainMessage}
use Rattle.c2_spec.specs.C2pa.Sign1.{SignParts, SpellsMessage}
use Rattle.c2_spec.specs.declared.sign1.SignError.{SignError}
use Rattle.c2_spec.specs.declared.sign1.SignError.TheVariants as sign_error
use Rattle.c2_spec.specs.Cbor.Item.{Item, uint, nint, bytes, text, list, dict, tag, simple, half, single, double, Pairs}
use Rattle.c2_new_signature.specs.Tested.{EntriesTested, HeaderTested, PartsTested}
use Rattle.c2_new_signature.specs.Message.{AreFew, HasNoPadding, PartsPass, Passes, parts_tests, IsFirstFailing, IsRefused, IsAccepted, IsWanted}
use Rattle.c2_new_signature.specs.declared.error.SignaturePart.{SignaturePart}
use Rattle.c2_new_signature.specs.declared.error.SignaturePart.TheVariants as part

-- ---- one test at most

-- tests have one first failing at most
pub one_first : (passes : SignaturePart → Type 0) (tests : List SignaturePart) (a b : SignaturePart)
    → IsFirstFailing passes tests a → IsFirstFailing passes tests b → a ≡ b
one_first passes [] a b h k = absurd h
one_first passes (t ∷ ts) a b (inl h) (inl k) = h.0 ∙ sym k.0
one_first passes (t ∷ ts) a b (inl h) (inr k) = absurd (h.1 k.0)
one_first passes (t ∷ ts) a b (inr h) (inl k) = absurd (k.1 h.0)
one_first passes (t ∷ ts) a b (inr h) (inr k) = one_first passes ts a b h.1 k.1

-- tests have no first failing where all are passed
pub none_first : (passes : SignaturePart → Type 0) (tests : List SignaturePart) (a : SignaturePart)
    → IsFirstFailing passes tests a → AllByRecursion passes tests → ⊥
none_first passes [] a h all = h
none_first passes (t ∷ ts) a (inl h) all = h.1 all.0
none_first passes (t ∷ ts) a (inr h) all = none_first passes ts a h.1 all.1

-- ---- from the parts to the bytes

-- one test implies another, both ways
record Both (p q : SignaturePart → Type 0) (t : SignaturePart) : Type 0 where
  to : p t → q t
  from : q t → p t

-- what fails first of some tests fails first of others that are passed alike
first_other : (p q : SignaturePart → Type 0) (tests : List SignaturePart) (a : SignaturePart)
    → AllByRecursion (Both p q) tests → IsFirstFailing p tests a → IsFirstFailing q tests a
first_other p q [] a both h = h
first_other p q (t ∷ ts) a both (inl h) = inl (h.0, λ passes. h.1 (both.0.from passes))
first_other p q (t ∷ ts) a both (inr h) = inr (both.0.to h.0, first_other p q ts a both.1 h.1)

-- where all of some tests are passed, all others are that are passed alike
all_other : (p q : SignaturePart → Type 0) (tests : List SignaturePart) → AllByRecursion (Both p q) tests
    → AllByRecursion p tests → AllByRecursion q tests
all_other p q [] both h = h
all_other p q (t ∷ ts) both h = (both.0.to h.0, all_other p q ts both.1 h.1)

-- a message that bytes spell in one way passes where its parts do
same_tests : (protected s : List ℕ) (p : SignParts) → SpellsMessage s p → ((q : SignParts) → SpellsMessage s q → p ≡ q)
    → AllByRecursion (Both (PartsPass protected p) (Passes protected s)) parts_tests
same_tests protected s p spelled one = (
  record { to = λ h q spells. subst (λ r. PartsPass protected r part.Plain) (one q spells) h; from = λ h. h p spelled },
  (
    record { to = λ h q spells. subst (λ r. PartsPass protected r part.Protected) (one q spells) h; from = λ h. h p spelled },
    (
      record { to = λ h q spells. subst (λ r. PartsPass protected r part.Entries) (one q spells) h; from = λ h. h p spelled },
      (record { to = λ h q spells. subst (λ r. PartsPass protected r part.Pad) (one q spells) h; from = λ h. h p spelled }, tt),
    ),
  ),
)

-- what fails first of a message's parts is what the message is refused for
pub refused_parts : (protected s : List ℕ) (p : SignParts) (a : SignaturePart) → length s ≤ MAX_INPUT_LEN
    → SpellsMessage s p → ((q : SignParts) → SpellsMessage s q → p ≡ q)
    → IsFirstFailing (PartsPass protected p) parts_tests a → IsRefused protected s a
refused_parts protected s p a small spelled one h =
    inr
    (small, inr ((p, spelled), first_other (PartsPass protected p) (Passes protected s) parts_tests a (same_tests protected s p spelled one) h))

-- a message whose parts pass all tests is accepted
pub accepted_parts : (protected s : List ℕ) (p : SignParts) → length s ≤ MAX_INPUT_LEN → SpellsMessage s p
    → ((q : SignParts) → SpellsMessage s q → p ≡ q)
    → AllByRecursion (PartsPass protected p) parts_tests → IsAccepted protected s
accepted_parts protected s p small spelled one h =
    (small, ((p, spelled), all_other (PartsPass protected p) (Passes protected s) parts_tests (same_tests protected s p spelled one) h))

-- a message that is accepted can be padded
pub wanted_parts : (protected s : List ℕ) (p : SignParts) → IsAccepted protected s → SpellsMessage s p
    → IsWanted protected p
wanted_parts protected s p h spelled =
    let map = spelled.is.header in
    let tests = h.1.1 in
    let pads = tests.1.1.1.0 p spelled map.0 map.1 in
    record
    { own = tests.1.0 p spelled; entries = map.0; can = record { map = map.1; plain = tests.0 p spelled; few = tests.1.1.0 p spelled map.0 map.1; no_pad = pads.0; no_pad2 = pads.1 } }

-- ---- the header, among the parts

-- a header that isn't refused passes
pub header_passes : (protected : List ℕ) (p : SignParts) → IsPlainMessage p → p.protected ≡ protected
    → HeaderTested p.unprotected None → AllByRecursion (PartsPass protected p) parts_tests
header_passes protected p plain own h = (plain, (own, ((λ entries e. (of_dict entries e).0), ((λ entries e. (of_dict entries e).1), tt))))
  where
    of_dict : (entries : Pairs) → p.unprotected ≡ dict entries → AreFew entries × HasNoPadding entries
    of_dict entries e = subst (λ (v : Item). HeaderTested v None) e h

-- a header that is refused is the first that fails
pub header_fails : (protected : List ℕ) (p : SignParts) (entries : Pairs) (test : SignaturePart) → IsPlainMessage p
    → p.protected ≡ protected → p.unprotected ≡ dict entries → EntriesTested entries (Some test)
    → IsFirstFailing (PartsPass protected p) parts_tests test
header_fails protected p entries part.Size plain own is h = absurd h
header_fails protected p entries part.Form plain own is h = absurd h
header_fails protected p entries part.Plain plain own is h = absurd h
header_fails protected p entries part.Protected plain own is h = absurd h
header_fails protected p entries part.Entries plain own is h =
    inr (plain, inr (own, inl (refl, λ passes. h (passes entries is))))
header_fails protected p entries part.Pad plain own is h = inr (plain, inr (own, inr ((λ others e. few others e), inl (refl, λ passes. h.1 (passes entries is)))))
  where
    few : (others : Pairs) → p.unprotected ≡ dict others → AreFew others
    few others e = let same : dict entries ≡ dict others = sym is ∙ e in let one : entries ≡ others = cc same in subst AreFew one h.0

-- the first test of a header that fails is the first of the message's parts that does, whatever the header is
pub header_tested : (protected : List ℕ) (p : SignParts) (tested : Option SignaturePart) → IsPlainMessage p
    → p.protected ≡ protected → HeaderTested p.unprotected tested → PartsTested protected p tested
header_tested protected p None plain own h = header_passes protected p plain own h
header_tested protected p (Some test) plain own h = go p.unprotected refl h
  where
    go : (v : Item) → p.unprotected ≡ v → HeaderTested v (Some test) → PartsTested protected p (Some test)
    go (uint n) e k = absurd k
    go (nint n) e k = absurd k
    go (bytes b) e k = absurd k
    go (text t) e k = absurd k
    go (list vs) e k = absurd k
    go (dict entries) e k = header_fails protected p entries test plain own e k
    go (tag n v) e k = absurd k
    go (simple a) e k = absurd k
    go (half n) e k = absurd k
    go (single n) e k = absurd k
    go (double n) e k = absurd k

-- ---- one test

-- bytes that spell no message
pub form_fails : (protected s : List ℕ) (e : SignError) → e ≡ sign_error.Form → length s ≤ MAX_INPUT_LEN
    → (e ≡ sign_error.NoMemory) ⊎ ((e ≡ sign_error.Form) × ((p : SignParts) → SpellsMessage s p → ⊥))
    → IsRefused protected s part.Form
form_fails protected s e is small (inl same) = absurd (let both = sym is ∙ same in cc both)
form_fails protected s e is small (inr none) = inr (small, inl (refl, λ some. none.1 some.0 some.1))

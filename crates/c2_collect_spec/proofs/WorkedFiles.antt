-- Worked files from which a build collects: those of `WorkedPair`, a file of the second definition, and the message. The build over them
-- comes to a new file, so what is said of such files is said of some.
use Rattle.c2_collect_spec.proofs.Making.{collected_made}
use Rattle.c2_definition.proofs.TheLaws.{each_definition_is_read_one_way_one}
use Rattle.std.proofs.Common.{◌≡◌, Bool, true, false, ℕ, List, [], ◌∷◌, ◌++◌, Some, refl, sym, ap, ◌∙◌, subst, codes, option_and_then}
use Rattle.std.specs.Prelude.{Ok}
use Rattle.std.specs.List.{AllByRecursion}
use Rattle.std.specs.Str.{is_utf8, chars}
use Rattle.std.proofs.lemmas.Bool.{false≢true}
use Rattle.hex.proofs.OnLiterals.{hex_on_literals}
use Rattle.uuid.proofs.OnLiterals.{uuid_on_literals}
use Rattle.serde_json.proofs.OnLiterals.{serde_json_on_literals}
use Rattle.serde_json.specs.Data.{Data}
use Rattle.c2_base.specs.declared.values.Question.{Question}
use Rattle.c2_spec.specs.declared.digest.Alg.{Alg}
use Rattle.c2_spec.specs.declared.digest.Alg.TheVariants.{Sha256}
use Rattle.c2_spec.specs.declared.panel.Verdict.{Verdict}
use Rattle.c2_definition.specs.DefinitionFile.{HasPayload, HavePayloads, IsDefinition, assertions_in, definition_in}
use Rattle.c2_definition.specs.Json.{object_of}
use Rattle.c2_definition.specs.declared.types.NewAssertion.{NewAssertion}
use Rattle.c2_new_signature.specs.Signed.{IsSigned}
use Rattle.c2_new_file_spec.specs.Written.{HasTexts}
use Rattle.c2_new_file_spec.specs.Places.{place_start, range_len}
use Rattle.c2_collect_spec.specs.Made.{HasTextsIn, SomeCollectSucceeds}
use Rattle.c2_collect_spec.specs.Order.{HasStore}
use Rattle.c2_collect_spec.specs.Outcomes.{IsCollectMade, NewFile}
use Rattle.c2_collect_spec.proofs.Worked.{IsFirst, accepted_message, defined, first_file, first_len, is_absent, is_first, media, message, parts, place, second_label, second_texts, signed, spelled, store}
use Rattle.c2_collect_spec.proofs.WorkedPair.{IsSecond, alone_file, twice_file}

-- ---- the definition

-- a text in quotes
abbrev quoted : List ℕ → List ℕ
quoted text = 0x22 ∷ text ++ 0x22 ∷ []

-- a member of an object, with this text as its value
abbrev member : List ℕ → List ℕ → List ℕ
member name text = quoted name ++ 0x3A ∷ quoted text ++ 0x2C ∷ []

-- {"label":"urn:c2pa:00000000-0000-4000-8000-00000000000b","instance_id":"i","generator":"g","protected":"0A","reserve":64}
abbrev definition_file : List ℕ
definition_file =
    0x7B ∷ member (codes "label") second_label ++ member (codes "instance_id") (codes "i") ++ member (codes "generator")
    (codes "g")
    ++ member (codes "protected") (codes "0A") ++ quoted (codes "reserve") ++ codes ":64}"

-- the definition is what the definition file is read as
defined_row : (payloads : Bool) → payloads ≡ true → definition_in payloads definition_file ≡ Ok (defined second_label)
unfolding is_utf8 chars hex_on_literals uuid_on_literals serde_json_on_literals
defined_row true e = refl
defined_row false e = absurd (false≢true e)

-- the definition file has no assertions
no_assertions : option_and_then assertions_in (object_of definition_file) ≡ Some []
unfolding is_utf8 chars hex_on_literals uuid_on_literals serde_json_on_literals
no_assertions = refl

-- each assertion of a definition file without assertions has its payload
pub have_payloads : (file : List ℕ) → option_and_then assertions_in (object_of file) ≡ Some [] → (v : Data)
    → object_of file ≡ Some v → HavePayloads v
have_payloads file empty v at list is = by list (sym is ∙ (sym (ap (option_and_then assertions_in) at) ∙ empty))
  where
    by : (all : List NewAssertion) → Some all ≡ Some [] → AllByRecursion HasPayload all
    by [] e = tt
    by (a ∷ others) e = absurd (cc (e))

-- the file is this definition
is_defined : IsDefinition definition_file (Ok (defined second_label))
is_defined = record {
  payloads = true;
  told = (λ e. have_payloads definition_file no_assertions, λ h. refl);
  is = sym (defined_row true refl);
}

-- the texts of what the file is are texts
texts_in : HasTextsIn definition_file
texts_in d is =
    let same : defined second_label ≡ d =
    cc (each_definition_is_read_one_way_one definition_file (Ok (defined second_label)) (Ok d) is_defined is) in
    subst HasTexts same second_texts

-- ---- the build

-- What a build comes to over files, the definition and the message among them.
record IsBuiltFrom (hash : Alg → List ℕ → List ℕ) (said : Question → Verdict) (media other : List ℕ) : Type 0 where
  new : NewFile
  made : IsCollectMade hash said media definition_file message other (Ok new)

-- a second file is what the build comes to
second_made : (hash : Alg → List ℕ → List ℕ) (said : Question → Verdict) (own other : List ℕ)
    → IsSecond hash said own other → IsBuiltFrom hash said own other
second_made hash said own other k = record {
  new =
      record
      { file = k.file; start = place_start place; len = range_len place k.is.content (defined second_label).reserve };
  made =
      collected_made hash said own definition_file message other
      (defined second_label) k.pair parts place
      k.file is_defined accepted_message spelled k.read k.is;
}

-- some build that collects succeeds
pub some_succeeds : SomeCollectSucceeds
some_succeeds stored hash said digests all = by stored
  where
    s : (filled : List ℕ) × IsSigned parts 64 filled
    s = signed

    first : List ℕ
    first = first_file (hash Sha256) s.0

    k : IsFirst hash said s.0
    k = is_first hash said digests all s.0 s.1

    by : (b : Bool)
        → (media : List ℕ) × (definition : List ℕ) × (signature : List ℕ) × (other : List ℕ) × (new : NewFile) × HasStore b media × HasTextsIn definition
        × IsCollectMade hash said media definition signature other (Ok new)
    by false =
        let b = second_made hash said media first (alone_file hash said digests s.0 s.1 k) in
        (media, definition_file, message, first, b.new, is_absent, texts_in, b.made)
    by true =
        let b = second_made hash said first first (twice_file hash said digests s.0 s.1 k) in
        (first, definition_file, message, first, b.new, (place_start place, first_len s.0, store (hash Sha256) s.0, k.accepted.opened), texts_in, b.made)

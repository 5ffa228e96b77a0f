-- The definition file, read: its texts are texts.
use Rattle.std.proofs.Common.{◌≡◌, ◌∙◌, refl, sym, ap, subst, ℕ, Bool, true, false, List, [], ◌∷◌, None, codes, lit<}
use Rattle.std.specs.Prelude.{Result, Ok, is_ok}
use Rattle.std.specs.Str.{is_utf8, chars}
use Rattle.std.proofs.lemmas.Bool.{false≢true}
use Rattle.hex.proofs.OnLiterals.{hex_on_literals}
use Rattle.uuid.proofs.OnLiterals.{uuid_on_literals}
use Rattle.serde_json.proofs.OnLiterals.{serde_json_on_literals}
use Rattle.c2_spec.specs.declared.digest.Alg.TheVariants.{Sha256}
use Rattle.c2_definition.specs.DefinitionFile.{definition_in}
use Rattle.c2_definition.specs.declared.types.Definition.{Definition}
use Rattle.c2_definition.specs.declared.types.DefinitionField.{DefinitionField}
use Rattle.c2_definition.specs.declared.types.Payload.TheVariants as payload
use Rattle.c2_new_file_spec.specs.Written.{HasTexts}
use Rattle.c2_build_refusals.specs.Stages.{HasTextsIn}
use Rattle.c2_sample.specs.Sample.{sample_definition}

-- the item of the one assertion: {"actions": [{"action": "c2pa.created"}]}
abbrev actions : List ℕ
actions =
    0xA1 ∷ 0x67 ∷ 0x61 ∷ 0x63 ∷ 0x74 ∷ 0x69 ∷ 0x6F ∷ 0x6E ∷ 0x73 ∷ 0x81 ∷ 0xA1 ∷ 0x66 ∷ 0x61 ∷ 0x63 ∷ 0x74 ∷ 0x69 ∷ 0x6F
    ∷ 0x6E ∷ 0x6C ∷ 0x63 ∷ 0x32 ∷ 0x70 ∷ 0x61 ∷ 0x2E ∷ 0x63 ∷ 0x72 ∷ 0x65 ∷ 0x61 ∷ 0x74 ∷ 0x65 ∷ 0x64 ∷ []

-- what the file is
abbrev defined : Definition
defined = record {
  label = codes "urn:c2pa:00000000-0000-4000-8000-000000000000";
  instance_id = codes "xmp:iid:sample";
  generator = codes "c2";
  title = None;
  protected = 0xA1 ∷ 0x01 ∷ 0x26 ∷ [];
  reserve = 256;
  assertions = record { label = codes "c2pa.actions.v2"; kind = payload.Cbor; bytes = actions } ∷ [];
  redact = [];
  alg = Sha256;
}

-- where its item is one, that is what it is read as
defined_row : definition_in true sample_definition ≡ Ok defined
unfolding is_utf8 chars hex_on_literals uuid_on_literals serde_json_on_literals
defined_row = refl

-- the definition is refused where its item isn't taken for one
refused_row : is_ok (definition_in false sample_definition) ≡ false
unfolding is_utf8 chars hex_on_literals uuid_on_literals serde_json_on_literals
refused_row = refl

-- the texts of the definition are texts
texts : HasTexts defined
unfolding lib.Utf8.encode
texts = record {
  label = record { utf8 = (defined.label, (refl, refl)); short = lit< tt };
  instance = record { utf8 = (defined.instance_id, (refl, refl)); short = lit< tt };
  generator = record { utf8 = (defined.generator, (refl, refl)); short = lit< tt };
  title = tt;
  labels = (record { utf8 = (codes "c2pa.actions.v2", (refl, refl)); short = lit< tt }, tt);
  redact = tt;
}

-- the texts of each definition that the file is are texts
pub texts_in : HasTextsIn sample_definition
texts_in d h = by h.payloads h.is
  where
    by : (payloads : Bool) → Ok d ≡ definition_in payloads sample_definition → HasTexts d
    by true e = let same : Ok defined ≡ Ok d = sym (e ∙ defined_row) in let is : defined ≡ d = cc (same) in subst HasTexts is texts
    by false e = absurd (false≢true (sym refused_row ∙ sym (ap (λ (r : Result Definition DefinitionField). is_ok r) e)))

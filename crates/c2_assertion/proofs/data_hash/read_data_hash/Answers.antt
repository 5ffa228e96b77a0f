use Rattle.std.proofs.Common.{◌≡◌, ◌∙◌, List, Option, Some, None, ap, inr, rules, sym}
use Rattle.c2_base.specs.declared.values.Range.{Range}
use Rattle.c2_spec.specs.Cbor.Fields.{require}
use Rattle.c2_spec.specs.Cbor.Item.{Item}
use Rattle.c2_spec.specs.Cbor.View.{view}
use Rattle.c2_spec.specs.declared.assertion.FieldError.TheVariants.{Form}
use Rattle.c2_assertion.specs.Reading.{data_hash_from, digest_of}
use Rattle.c2_assertion.specs.declared.digest.Digest.{Digest}
use Rattle.c2_assertion.proofs.ReadParts.{data_left, same_answer}
use Rattle.c2_assertion.proofs.data_hash.read_data_hash.Goals as goal

-- without a digest of its form there is no data hash
pub returns-in_default-2 : goal.returns-in_default-2
returns-in_default-2 c =
    let v : Item = view c.args.item.now in
    let es : List Range = c.in-Some.exclusions in
    let none : digest_of v ≡ None = search rules in
    inr
    (data_left v es (search rules) (search rules) ∙ ap (λ (d : Option Digest). require Form d (data_hash_from es)) none)

-- with one, the exclusions are left to test
pub returns : goal.returns
returns c =
    let v : Item = view c.args.item.now in
    let es : List Range = c.in-Some.exclusions in
    let digest : digest_of v ≡ Some c.in-Some-2.digest = search rules in
    same_answer _ _ c.hash_of.result
    (c.hash_of.ensures ∙ sym (data_left v es (search rules) (search rules) ∙ ap (λ (d : Option Digest). require Form d (data_hash_from es)) digest))

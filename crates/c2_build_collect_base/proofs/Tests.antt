-- What is refused of joined manifests, by what calls of other crates answered.
use Rattle.std.proofs.Common.{◌≡◌, ℕ, Bool, true, false, cond, List, [], ◌∷◌, ◌++◌, Option, None, Some, refl, ap, ◌∙◌}
use Rattle.std.specs.Prelude.{option_map}
use Rattle.std.specs.Option.{option_to_list}
use Rattle.c2_rules.specs.Readings.{Reading}
use Rattle.c2_chain_spec.specs.Joined.{has_manifest}
use Rattle.c2_definition.specs.declared.types.Definition.{Definition}
use Rattle.c2_new_file_spec.specs.declared.refused.RefusedRedaction.{RefusedRedaction}
use Rattle.c2_collect_spec.specs.Order.{CollectRefusal, label_taken, redaction_refused}
use Rattle.c2_collect_spec.specs.Refusals.{redaction_refusal_by}
use Rattle.c2_build_refusals.specs.Kinds.{WithoutFault}
use Rattle.c2_build_refusals.specs.declared.error.BuildError.{BuildError}
use Rattle.c2_build_refusals.specs.declared.error.BuildError.TheVariants as build
use Rattle.c2_build_refusals.proofs.Outside.{outside_map}
use Rattle.c2_build_collect_base.specs.Steps.{IsFirstError, joined_tests}

-- what is refused, by the two tests
abbrev tests_by : Definition → Bool → Option RefusedRedaction → List CollectRefusal
tests_by d taken found = cond taken (label_taken d.label ∷ []) [] ++ option_to_list (option_map redaction_refused found)

-- the label is taken
pub taken_told : (d : Definition) (rs : List Reading) (is_in : ℕ → Bool) (e : BuildError)
    → has_manifest rs d.label ≡ true → WithoutFault e (e ≡ build.LabelTaken d.label)
    → WithoutFault e (IsFirstError (joined_tests d rs is_in) e)
taken_told d rs is_in e taken told =
    let others : List CollectRefusal =
    option_to_list (option_map redaction_refused (redaction_refusal_by is_in d.label rs d.redact)) in
    outside_map e
    (λ (same : e ≡ build.LabelTaken d.label). (label_taken d.label, others, ap (λ (b : Bool). tests_by d b (redaction_refusal_by is_in d.label rs d.redact)) taken, same))
    told

-- a redaction is refused
pub redaction_told : (d : Definition) (rs : List Reading) (is_in : ℕ → Bool) (r : RefusedRedaction)
    → has_manifest rs d.label ≡ false → redaction_refusal_by is_in d.label rs d.redact ≡ Some r
    → IsFirstError (joined_tests d rs is_in) (build.RedactionRefused r.text r.code)
redaction_told d rs is_in r free found =
    (redaction_refused r, [], ap (λ (b : Bool). tests_by d b (redaction_refusal_by is_in d.label rs d.redact)) free ∙ ap (tests_by d false) found, refl)

-- nothing is
pub none_told : (d : Definition) (rs : List Reading) (is_in : ℕ → Bool) → has_manifest rs d.label ≡ false
    → redaction_refusal_by is_in d.label rs d.redact ≡ None → joined_tests d rs is_in ≡ []
none_told d rs is_in free found =
    ap (λ (b : Bool). tests_by d b (redaction_refusal_by is_in d.label rs d.redact)) free ∙ ap (tests_by d false) found

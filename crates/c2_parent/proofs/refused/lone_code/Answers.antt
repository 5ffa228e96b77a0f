use Rattle.std.proofs.Common.{◌∙◌, ap, sym, Option, Some, option_map}
use Rattle.std.specs.Option.{option_or}
use Rattle.std.specs.Prelude.{unwrap_or}
use Rattle.c2_spec.specs.C2pa.Uri.{uri_view}
use Rattle.c2_rules.specs.Ingredients.{assertion_uri}
use Rattle.c2_rules.specs.declared.code.Code.{Code}
use Rattle.c2_rules.specs.declared.code.Code.TheVariants.{ProfileRedactionTarget}
use Rattle.c2_parent.proofs.RefusedLemmas.{assertion_view, kind_is, lone_tests}
use Rattle.c2_parent.proofs.refused.lone_code.Goals as goal

pub returns-in-Some-kind_code : goal.returns-in-Some-kind_code
returns-in-Some-kind_code c =
    let o = option_map (λ x. x.now) c.in-Some.uri.manifest in
    let l = c.in-Assertion.label.now in
    let uri = assertion_uri (unwrap_or o c.args.own.now) l in
    ap (λ (k : Option Code). option_or k (Some ProfileRedactionTarget)) (sym c.in-Some-kind_code.is)
    ∙ lone_tests c.args.own.now c.args.text.now l o c.kind_code.result
    (sym c.parse.ensures ∙ ap (option_map uri_view) c.in-Some.is
    ∙ ap Some (assertion_view c.in-Some.uri c.in-Assertion.label c.in-Assertion.is))
    (kind_is _ _ _ _ uri c.kind_code.result c.kind_code.ensures c.is_own.ensures c.label_kind.ensures)

pub returns-in-None : goal.returns-in-None
returns-in-None c =
    let o = option_map (λ x. x.now) c.in-Some.uri.manifest in
    let l = c.in-Assertion.label.now in
    let uri = assertion_uri (unwrap_or o c.args.own.now) l in
    ap (λ (k : Option Code). option_or k (Some ProfileRedactionTarget)) (sym c.in-None.is)
    ∙ lone_tests c.args.own.now c.args.text.now l o c.kind_code.result
    (sym c.parse.ensures ∙ ap (option_map uri_view) c.in-Some.is
    ∙ ap Some (assertion_view c.in-Some.uri c.in-Assertion.label c.in-Assertion.is))
    (kind_is _ _ _ _ uri c.kind_code.result c.kind_code.ensures c.is_own.ensures c.label_kind.ensures)

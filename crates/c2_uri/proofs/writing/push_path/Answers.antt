use Rattle.std.proofs.Common.{◌++◌, sym, ap, ◌∙◌, string_bytes}
use Rattle.std.proofs.lemmas.List.{append_assoc}
use Rattle.c2_spec.specs.C2pa.Uri.{target_path, target_view, assertions_path}
use Rattle.c2_uri.proofs.writing.push_path.Goals as goal

pub returns-in_ok-push_str-in-Assertion-2 : goal.returns-in_ok-push_str-in-Assertion-2
returns-in_ok-push_str-in-Assertion-2 c =
    c.in_ok-push_str-in-Assertion-2.ensures.bytes ∙ ap (λ b. b ++ c.in-Assertion.label.now) c.in_ok-push_str-in-Assertion.ensures.bytes
    ∙ append_assoc (string_bytes c.args.out.now) assertions_path c.in-Assertion.label.now
    ∙ ap (λ t. string_bytes c.args.out.now ++ target_path (target_view t)) (sym c.in-Assertion.is)

pub returns-in_ok-push_str-in-Signature : goal.returns-in_ok-push_str-in-Signature
returns-in_ok-push_str-in-Signature c =
    c.in_ok-push_str-in-Signature.ensures.bytes ∙ ap (λ t. string_bytes c.args.out.now ++ target_path (target_view t)) (sym c.in-Signature.is)

use Rattle.std.proofs.Common.{◌∙◌, ◌||◌, ap, List, ℕ}
use Rattle.c2_spec.specs.C2pa.Uri.{uri_of}
use Rattle.c2_rules.specs.Chains.{names_assertion}
use Rattle.c2_new_file_spec.specs.Refusing.{entry_tests}
use Rattle.c2_parent.specs.Named.{is_among}
use Rattle.c2_parent.specs.Refused.{code_of}
use Rattle.c2_parent.proofs.RefusedLemmas.{pass_ends, pass_more, same_refused}
use Rattle.c2_parent.proofs.refused.first_refused.Goals as goal

-- the first that is refused
pub returns-in-Some : goal.returns-in-Some
returns-in-Some c =
    pass_ends c.args.own.now c.args.known.now c.args.redact.now c.loop-k.k c.loop-k.before c.index-redact-k.result c.entry_code.result c.in-Some.code c.refused.result c.loop-k.invariant c.loop-k-test.true c.index-redact-k.is
    (λ made h. c.entry_code.ensures made h ∙ ap (λ (x : List ℕ). code_of (entry_tests c.args.own.now c.args.known.now made x)) c.as_str.ensures.value) c.in-Some.is
    (same_refused _ c.index-redact-k.result c.in-Some.code c.refused.result c.as_str-in-Some.ensures.value c.refused.ensures)

-- one that isn't
pub loop-k-preserved : goal.loop-k-preserved
loop-k-preserved c =
    pass_more c.args.own.now c.args.known.now c.args.redact.now c.loop-k.k c.loop-k.before c.add_named.new.named
    c.index-redact-k.result c.entry_code.result c.loop-k.invariant c.loop-k-test.true c.index-redact-k.is
    (λ made h. c.entry_code.ensures made h ∙ ap (λ (x : List ℕ). code_of (entry_tests c.args.own.now c.args.known.now made x)) c.as_str.ensures.value)
    c.in_default.is
    (λ m l. c.in_ok-add_named.ensures m l ∙ ap (λ (x : List ℕ). is_among c.loop-k.before m l || names_assertion m l (uri_of x)) c.as_str-in-loop-k.ensures.value)

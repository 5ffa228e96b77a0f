use Rattle.std.proofs.Common.{◌∙◌, ◌||◌, ap, List, ℕ}
use Rattle.c2_spec.specs.C2pa.Uri.{uri_of}
use Rattle.c2_rules.specs.Chains.{names_assertion}
use Rattle.c2_parent.specs.Named.{is_among}
use Rattle.c2_parent.proofs.BothLemmas.{both_ends, both_more, same_text}
use Rattle.c2_parent.proofs.both.first_refused.Goals as goal

-- the first that is refused
pub returns-in-Some : goal.returns-in-Some
returns-in-Some c =
    both_ends c.args.own.now c.args.old.now c.args.other.now c.args.redact.now c.loop-k.k c.loop-k.before c.index-redact-k.result c.as_str-in-Some.result.now c.entry_code.result c.in-Some.code c.refused.result c.loop-k.invariant c.loop-k-test.true c.index-redact-k.is
    (same_text c.args.own.now c.args.old.now c.args.other.now c.loop-k.before c.as_str.result.now c.index-redact-k.result c.entry_code.result c.as_str.ensures.value c.entry_code.ensures)
    c.in-Some.is c.as_str-in-Some.ensures.value c.refused.ensures

-- one that isn't
pub loop-k-preserved : goal.loop-k-preserved
loop-k-preserved c =
    both_more c.args.own.now c.args.old.now c.args.other.now c.args.redact.now c.loop-k.k c.loop-k.before
    c.add_named.new.named c.index-redact-k.result c.entry_code.result c.loop-k.invariant c.loop-k-test.true
    c.index-redact-k.is
    (same_text c.args.own.now c.args.old.now c.args.other.now c.loop-k.before c.as_str.result.now c.index-redact-k.result c.entry_code.result c.as_str.ensures.value c.entry_code.ensures)
    c.in_default.is
    (λ m l. c.in_ok-add_named.ensures m l ∙ ap (λ (x : List ℕ). is_among c.loop-k.before m l || names_assertion m l (uri_of x)) c.as_str-in-loop-k.ensures.value)

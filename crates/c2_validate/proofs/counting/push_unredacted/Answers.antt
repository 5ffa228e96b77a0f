use Rattle.std.proofs.Common.{length, sym, ◌∙◌}
use Rattle.c2_rules.specs.Chains.{is_redacted}
use Rattle.c2_validate.proofs.CountLemmas.{kept_added}
use Rattle.c2_validate.proofs.counting.push_unredacted.Goals as goal

-- the entries of what was created and of what was gathered are added
pub returns-in_ok-push_kept-2 : goal.returns-in_ok-push_kept-2
returns-in_ok-push_kept-2 c =
    kept_added (is_redacted c.args.chain.now.readings c.args.i) c.args.own.now c.in-Value.claim c.created.result.now c.gathered.result.now (length c.args.found.now.items) (length c.push_kept.new.found.items) (length c.push_kept-in-Value.new.found.items)
    (sym c.claim_read.ensures ∙ c.in-Value.is) c.created.ensures c.gathered.ensures c.in_ok-push_kept.ensures c.in_ok-push_kept-2.ensures

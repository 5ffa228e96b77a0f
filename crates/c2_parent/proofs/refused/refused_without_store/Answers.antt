use Rattle.c2_parent.proofs.RefusedLemmas.{lone_ends}
use Rattle.c2_parent.proofs.refused.refused_without_store.Goals as goal

-- the first is refused
pub returns-in-len1-up : goal.returns-in-len1-up
returns-in-len1-up c =
    lone_ends c.args.own.now c.args.redact.now c.first-item.result c.as_str-in-len1-up.result.now c.as_str.result.now c.lone_code.result c.refused.result c.in-len1-up.len_at_least c.first-item.is c.as_str.ensures.value c.as_str-in-len1-up.ensures.value c.lone_code.ensures c.refused.ensures

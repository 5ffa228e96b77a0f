use Rattle.c2_definition.proofs.Uuids.{not_parsed}
use Rattle.c2_definition.proofs.labels.is_uuid.Goals as goal

-- what is not parsed is no UUID
pub returns-in_default : goal.returns-in_default
returns-in_default c = not_parsed c.args.text.now (λ u e. let bad = c.in_default.ensures.ok.1 (u, e) in cc (bad))

use Rattle.c2_parent.proofs.BothLemmas.{carried_answers}
use Rattle.c2_parent.proofs.both.refused_in_carried.Goals as goal

-- what is refused over the one store
pub returns : goal.returns
returns c =
    carried_answers c.args.own.now c.args.other.now.readings c.args.redact.now c.refused_redaction.result
    c.refused_redaction.ensures

use Rattle.std.proofs.Common.{ap, ◌∙◌}
use Rattle.std.proofs.lemmas.Result.{IfOk-weaker}
use Rattle.c2_spec.specs.C2pa.Uri.{uri_view, uri_of}
use Rattle.c2_uri.proofs.Written.{written_read}
use Rattle.c2_uri.proofs.writing.text.Goals as goal

pub returns-clause-read_back : goal.returns-clause-read_back
returns-clause-read_back c = λ can.
    IfOk-weaker c.spell.result _ _ (λ t is. ap uri_of is ∙ written_read (uri_view c.args.uri.now) can) c.spell.ensures

use Rattle.c2_read_manifests.proofs.ParsingLemmas.{no_message}
use Rattle.c2_read_manifests.proofs.reading.read_message.Goals as goal

-- bytes whose form is refused are no message
pub returns-in-Err-Form-clause-message : goal.returns-in-Err-Form-clause-message
returns-in-Err-Form-clause-message c =
    no_message c.in-Err-Form.field-0 _ c.in-Err-Form.field-0-is c.in-Err-Form.ensures.form

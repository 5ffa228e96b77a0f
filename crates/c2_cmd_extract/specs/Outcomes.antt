-- What `extract` comes to.
use Rattle.std.specs.Prelude.{◌≡◌, ℕ, List, Some, None}
use Rattle.std.specs.declared.option.Option.{Option}
use Rattle.c2_spec.specs.Container.{IsLocated}
use Rattle.c2_spec.specs.Located.{Located, refused, absent, here}
use Rattle.c2_sidecar.specs.Extracting.{extracted_of}
use Rattle.c2_sidecar.specs.Extracts.{IsAnswerOf}
use Rattle.c2_sidecar.specs.declared.error.Extracted.{Extracted}
use Rattle.c2_sidecar.specs.declared.error.Extracted.TheVariants.{Done, NoStore, Refused}
use Rattle.c2_texts.specs.Texts.{none_line, refused_line}
use Rattle.c2_cmd_outcome.specs.Outcome.{Outcome, reports}
use Rattle.c2_cmd_outcome.specs.Reply.{outcome_of}
use Rattle.c2_cmd_outcome.specs.declared.reply.Reply.{Reply}
use Rattle.c2_cmd_outcome.specs.declared.types.Answer.TheVariants as answer
use Rattle.c2_cmd_written_spec.specs.Written.{with_file}
use Rattle.c2_cmd_extract.specs.Lines.{extracted_line}

-- what is reported where a file comes to this whose store is to be extracted
abbrev pub extract_report : Extracted → Outcome
extract_report (Done count) = reports answer.Done (extracted_line count)
extract_report NoStore = reports answer.NoStore none_line
extract_report (Refused reason number) = reports answer.Refused (refused_line reason number)

-- the new file of `extract`: the bytes of the store, where there is one
abbrev pub extract_file : Located → Option (List ℕ)
extract_file (refused reason number) = None
extract_file absent = None
extract_file (here start len store) = Some store

-- the outcome of `extract`: it makes the tests of the container alone
abbrev pub IsExtractOutcome : List ℕ → Outcome → Type 0
IsExtractOutcome file expected =
    (l : Located) × IsLocated file l × (expected ≡ with_file (extract_file l) (extract_report (extracted_of l)))

-- A reply over a media file of so many bytes, also of one whose bytes are unknown, reports an answer that such a file can have: a store is no
-- longer than one may be, and a refusal is one of the container's.
abbrev pub IsExtractReply : ℕ → Reply → Type 0
IsExtractReply len reply = (a : Extracted) × IsAnswerOf len a × (outcome_of reply ≡ extract_report a)

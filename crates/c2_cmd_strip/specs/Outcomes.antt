-- What `strip` comes to.
use Rattle.std.specs.Prelude.{◌≡◌, ℕ, List, [], unwrap_or, Some, None}
use Rattle.std.specs.Option.{option_map}
use Rattle.std.specs.declared.option.Option.{Option}
use Rattle.c2_base.specs.declared.media.MediaError.{MediaError}
use Rattle.c2_spec.specs.Reason.{media_refusal}
use Rattle.c2_spec.specs.declared.reason.Refusal.{Refusal}
use Rattle.c2_strip.specs.Answers.{IsAnswerOf}
use Rattle.c2_strip.specs.Stripping.{StripsTo, stripped}
use Rattle.c2_strip.specs.declared.error.Stripped.{Stripped}
use Rattle.c2_strip.specs.declared.error.Stripped.TheVariants.{Done, NoStore, Refused, Middle}
use Rattle.c2_texts.specs.Texts.{none_line, refused_line}
use Rattle.c2_cmd_outcome.specs.Outcome.{Outcome, reports}
use Rattle.c2_cmd_outcome.specs.Reply.{outcome_of}
use Rattle.c2_cmd_outcome.specs.declared.reply.Reply.{Reply}
use Rattle.c2_cmd_outcome.specs.declared.types.Answer.TheVariants as answer
use Rattle.c2_cmd_written_spec.specs.Written.{with_file}
use Rattle.c2_cmd_strip.specs.Lines.{middle_line, stripped_line}

-- what is reported where an error of the container refuses the file; an error that refuses nothing has no line
abbrev pub refused_outcome : MediaError → Outcome
refused_outcome e =
    reports answer.Refused
    (unwrap_or (option_map (λ (r : Refusal). refused_line r.reason r.number) (media_refusal e)) [])

-- what is reported where a file comes to this without its store
abbrev pub strip_report : Stripped → Outcome
strip_report (Done range) = reports answer.Done (stripped_line range.start range.length)
strip_report NoStore = reports answer.NoStore none_line
strip_report (Refused e) = refused_outcome e
strip_report (Middle at) = reports answer.StripRefused (middle_line at)

-- the new file of `strip`: the bytes outside the embedded range, where this is left out
abbrev pub strip_file : List ℕ → Stripped → Option (List ℕ)
strip_file file (Done range) = Some (stripped range file)
strip_file file a = None

-- the outcome of `strip`
abbrev pub IsStripOutcome : List ℕ → Outcome → Type 0
IsStripOutcome file expected =
    (a : Stripped) × StripsTo file a × (expected ≡ with_file (strip_file file a) (strip_report a))

-- A reply over a media file of so many bytes, also of one whose bytes are unknown, reports an answer that such a file can have: a range and a
-- place lie in it, and a refusal is one of the container's.
abbrev pub IsStripReply : ℕ → Reply → Type 0
IsStripReply len reply = (a : Stripped) × IsAnswerOf len a × (outcome_of reply ≡ strip_report a)

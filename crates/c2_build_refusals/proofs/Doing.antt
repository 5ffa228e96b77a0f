-- Causes of errors, from a step to a call that does more, and what a call leaves that writes nothing.
use Rattle.std.proofs.Common.{◌≡◌, ℕ, Bool, true, false, refl}
use Rattle.std.specs.Prelude.{⊤}
use Rattle.c2_build_refusals.specs.Kinds.{Effects, ErrorKind, IsReadKind, IsSourceCause, MayCome, front_refusal, judge_fault, message_effects, message_refusal, no_memory, older_refusal, other_refusal, read_fault, refusal, write_fault}
use Rattle.c2_build_refusals.specs.Sinks.{IsSinkCause, KindLeaves}

-- What a step does is done by a call.
pub record DoesNoMore (a b : Effects) : Type 0 where
  pub message : MayCome a.reads_message ⊤ → MayCome b.reads_message ⊤
  pub judges : MayCome a.asks_judges ⊤ → MayCome b.asks_judges ⊤
  pub writes : MayCome a.writes_file ⊤ → MayCome b.writes_file ⊤
  pub tables : MayCome a.moves_tables ⊤ → MayCome b.moves_tables ⊤
  pub older : MayCome a.takes_older ⊤ → MayCome b.takes_older ⊤
  pub other : MayCome a.takes_other ⊤ → MayCome b.takes_other ⊤

-- what comes of the step comes of the call
may_more : (a b : Bool) (P : Type 0) → (MayCome a ⊤ → MayCome b ⊤) → MayCome a P → MayCome b P
may_more true true P f h = h
may_more true false P f h = absurd (f tt)
may_more false b P f h = absurd h

-- the cause of an error of a step that does no more than a call, and reads one source, is one of the call
pub more_read : (a b : Effects) → DoesNoMore a b → (m n : ℕ) (k : ErrorKind) → IsReadKind a m n k → IsReadKind b m n k
more_read a b does m n refusal h = h
more_read a b does m n message_refusal h = may_more a.reads_message b.reads_message (n ≡ m) does.message h
more_read a b does m n front_refusal h = may_more a.moves_tables b.moves_tables (n ≡ m) does.tables h
more_read a b does m n older_refusal h = may_more a.takes_older b.takes_older (n ≡ m) does.older h
more_read a b does m n other_refusal h = may_more a.takes_other b.takes_other (n ≡ m) does.other h
more_read a b does m n read_fault h = h
more_read a b does m n judge_fault h = h
more_read a b does m n write_fault h = h
more_read a b does m n no_memory h = h

-- the cause of an error of a step that does no more than a call, and may ask judges, is one of the call
pub more_cause : (a b : Effects) → DoesNoMore a b → (Other : Type 0) (m n : ℕ) (k : ErrorKind)
    → IsSourceCause a Other m n k → IsSourceCause b Other m n k
more_cause a b does Other m n refusal h = h
more_cause a b does Other m n message_refusal h = may_more a.reads_message b.reads_message (n ≡ m) does.message h
more_cause a b does Other m n front_refusal h = may_more a.moves_tables b.moves_tables (n ≡ m) does.tables h
more_cause a b does Other m n older_refusal h = may_more a.takes_older b.takes_older (n ≡ m) does.older h
more_cause a b does Other m n other_refusal h = may_more a.takes_other b.takes_other (n ≡ m) does.other h
more_cause a b does Other m n read_fault h = h
more_cause a b does Other m n judge_fault h = may_more a.asks_judges b.asks_judges ⊤ does.judges h
more_cause a b does Other m n write_fault h = may_more a.writes_file b.writes_file ⊤ does.writes h
more_cause a b does Other m n no_memory h = h

-- ---- the sink

-- a step that writes nothing leaves the sink's count
pub unwritten_sink : (does : Effects) → (MayCome does.writes_file ⊤ → ⊥)
    → (Other : Type 0) (m n : ℕ) (k : ErrorKind) (count : ℕ) → IsSourceCause does Other m n k
    → IsSinkCause count count k
unwritten_sink does none Other m n refusal count h = refl
unwritten_sink does none Other m n message_refusal count h = refl
unwritten_sink does none Other m n front_refusal count h = refl
unwritten_sink does none Other m n older_refusal count h = refl
unwritten_sink does none Other m n other_refusal count h = refl
unwritten_sink does none Other m n read_fault count h = tt
unwritten_sink does none Other m n judge_fault count h = tt
unwritten_sink does none Other m n write_fault count h = absurd (none h)
unwritten_sink does none Other m n no_memory count h = tt

-- whatever is claimed of a sink that is left holds of one that was
pub leaves_kind : (k : ErrorKind) {P : Type 0} → P → KindLeaves k P
leaves_kind refusal h = h
leaves_kind message_refusal h = h
leaves_kind front_refusal h = h
leaves_kind older_refusal h = h
leaves_kind other_refusal h = h
leaves_kind read_fault h = tt
leaves_kind judge_fault h = h
leaves_kind write_fault h = tt
leaves_kind no_memory h = h

-- ---- a message

-- the cause of an error of a step that looks at a message is one of each call that looks at one
pub message_step : (does : Effects) → MayCome does.reads_message ⊤ → (m n : ℕ) (k : ErrorKind)
    → IsReadKind message_effects m n k → IsReadKind does m n k
message_step does reads =
    more_read message_effects does
    (record {
      message = λ h. reads;
      judges = λ h. absurd h;
      writes = λ h. absurd h;
      tables = λ h. absurd h;
      older = λ h. absurd h;
      other = λ h. absurd h;
    })

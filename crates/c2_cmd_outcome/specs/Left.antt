-- What a call leaves of a sink: what it has taken, and whether it is finished.
use Rattle.std.specs.Prelude.{◌≡◌, ℕ, Bool, true, false, List}
use Rattle.std.specs.declared.option.Option.{Option}
use Rattle.c2_base.specs.Sink.{then_written, HasWrittenPrefix}

-- a sink: what was written to it, where that is known, and whether it is finished
pub record SinkState : Type 0 where
  pub written : Option (List ℕ)
  pub finished : Bool

-- the state of a sink, by the meanings of the trait
abbrev pub state_of : {W : Type 0} → (W → Option (List ℕ)) → (W → Bool) → W → SinkState
state_of {W} written finished w = record { written = written w; finished = finished w }

-- a sink took all of a text and is finished
pub record Delivers (text : List ℕ) (old new : SinkState) : Type 0 where
  pub written : new.written ≡ then_written old.written text
  pub is_finished : new.finished ≡ true

-- a sink took a prefix of a text and wasn't finished
pub record Leaves (text : List ℕ) (old new : SinkState) : Type 0 where
  pub prefix : HasWrittenPrefix old.written new.written text
  pub same : new.finished ≡ old.finished

-- a call finished a sink that wasn't
pub record Finishes (old new : SinkState) : Type 0 where
  pub before : old.finished ≡ false
  pub is_finished : new.finished ≡ true

-- What the sources and sinks in memory hold, and what a call of theirs changes.
use Rattle.std.specs.Prelude.{◌≡◌, ℕ, ◌-◌, ◌==◌, nat_lt, nat_le, min, Bool, true, false, ◌&&◌, ◌||◌, List, [], ◌++◌, length, take, if◌then◌else◌, vec_len, Result, is_err}
use Rattle.c2_base.specs.Causes.{one_more, one_more_if, HasCause}
use Rattle.c2_base.specs.Source.{ReadsBytes, ReadsThenZeros}
use Rattle.c2_base.specs.declared.sources.SureSource.{SureSource}
use Rattle.c2_base.specs.declared.sources.MemSource.{MemSource}
use Rattle.c2_base.specs.declared.sources.VastSource.{VastSource}
use Rattle.c2_base.specs.declared.sinks.MemSink.{MemSink}

-- the bytes of a source that never fails
abbrev pub sure_bytes : SureSource → List ℕ
sure_bytes s = s.bytes

-- the bytes that a vast source begins with, before its zeros
abbrev pub vast_prefix : VastSource → List ℕ
vast_prefix s = s.prefix

-- the length of a vast source
abbrev pub vast_size : VastSource → ℕ
vast_size s = s.size

-- a read of a vast source at `pos` put its bytes into the first `count` places of the buffer
abbrev pub ReadsVast : VastSource → ℕ → ℕ → List ℕ → List ℕ → Type 0
ReadsVast s pos count old new = ReadsThenZeros s.prefix pos count old new

-- how many bytes a read at `pos` can give, of a source with `len` bytes, where the buffer has this room
abbrev pub readable : ℕ → ℕ → ℕ → ℕ
readable len pos room = min room (len - pos)

-- a source for tests: its bytes, the most that it gives a call, the number of its call that fails, and its counts of
-- calls and of faults
pub record SourceState : Type 0 where
  pub bytes : List ℕ
  pub most : ℕ
  pub fail_at : ℕ
  pub calls : ℕ
  pub faults : ℕ

-- what a source for tests holds
abbrev pub source_state : MemSource → SourceState
source_state s = record { bytes = s.bytes; most = s.most; fail_at = s.fail_at; calls = s.calls; faults = s.faults }

-- a source for tests that was never called
abbrev pub fresh_source : List ℕ → ℕ → ℕ → SourceState
fresh_source bytes most fail_at = record { bytes = bytes; most = most; fail_at = fail_at; calls = 0; faults = 0 }

-- the next call is the one that fails
abbrev pub is_due : ℕ → ℕ → Bool
is_due calls fail_at = one_more calls == fail_at

-- a source for tests after one more call, which failed or not
abbrev pub after_call : SourceState → Bool → SourceState
after_call s failed = record s { calls = one_more s.calls; faults = one_more_if failed s.faults }

-- a source for tests was called once more: the call fails exactly where its number is due, and then counts a fault
pub record IsCalled {T E : Type 0} (old new : SourceState) (result : Result T E) : Type 0 where
  pub fails : is_err result ≡ is_due old.calls old.fail_at
  pub state : new ≡ after_call old (is_err result)
  pub cause : HasCause old.faults new.faults result

-- how many bytes a read of this source gives at `pos`, where the buffer has this room
abbrev pub readable_once : SourceState → ℕ → ℕ → ℕ
readable_once s pos room = min s.most (readable (length s.bytes) pos room)

-- a read of this source at `pos` into a buffer gave so many bytes of it
pub record IsReadOf (s : SourceState) (pos : ℕ) (old new : List ℕ) (count : ℕ) : Type 0 where
  pub as_many : count ≡ readable_once s pos (length old)
  pub bytes : ReadsBytes s.bytes pos count old new

-- a sink for tests: the bytes that it has taken, the most that it takes in all, the number of its call that fails,
-- its counts of calls and of faults, and whether it is finished
pub record SinkState : Type 0 where
  pub bytes : List ℕ
  pub room : ℕ
  pub fail_at : ℕ
  pub calls : ℕ
  pub faults : ℕ
  pub finished : Bool

-- what a sink for tests holds
abbrev pub sink_state : MemSink → SinkState
sink_state s =
    record { bytes = take s.used s.bytes.items; room = vec_len s.bytes; fail_at = s.fail_at; calls = s.calls; faults = s.faults; finished = s.finished }

-- a sink for tests that was never called
abbrev pub fresh_sink : ℕ → ℕ → SinkState
fresh_sink room fail_at = record { bytes = []; room = room; fail_at = fail_at; calls = 0; faults = 0; finished = false }

-- a finish of this sink fails: its number is due
abbrev pub finish_fails : SinkState → Bool
finish_fails s = is_due s.calls s.fail_at

-- an append of this piece fails: its number is due, or the sink is full and the piece isn't empty
abbrev pub append_fails : SinkState → List ℕ → Bool
append_fails s piece = is_due s.calls s.fail_at || (nat_le s.room (length s.bytes) && nat_lt 0 (length piece))

-- how many bytes of a piece the sink has room for
abbrev pub room_for : SinkState → List ℕ → ℕ
room_for s piece = min (s.room - length s.bytes) (length piece)

-- a sink for tests after one more call, which failed or not
abbrev pub called : SinkState → Bool → SinkState
called s failed = record s { calls = one_more s.calls; faults = one_more_if failed s.faults }

-- a sink for tests after an append of this piece
abbrev pub after_append : SinkState → List ℕ → SinkState
after_append s piece =
    if append_fails s piece then called s true
    else record (called s false) { bytes = s.bytes ++ take (s.room - length s.bytes) piece }

-- a sink for tests after a finish
abbrev pub after_finish : SinkState → SinkState
after_finish s = if finish_fails s then called s true else record (called s false) { finished = true }

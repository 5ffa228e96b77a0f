-- No error of a call over sources and a sink in memory is a fault of theirs.
use Rattle.std.proofs.Common.{◌≡◌, ◌∙◌, ◌⊎◌, inl, inr, refl, ap, subst, arith, ℕ, ◌+◌, ◌<◌, ◌≤◌, List, [], length, map, Option, Some, None}
use Rattle.std.specs.Prelude.{◌-◌, ◌==◌, take, vec_len, if◌then◌else◌}
use Rattle.std.proofs.lemmas.List.{length-take}
use Rattle.c2_base.specs.Causes.{Rose}
use Rattle.c2_base.specs.InMemory.{fresh_sink, sink_state}
use Rattle.c2_base.specs.declared.limits.TheConstants.{MAX_STORE_LEN}
use Rattle.c2_base.specs.declared.sinks.MemSink.{MemSink}
use Rattle.c2_spec.specs.Jpeg.Writing.{segments_len}
use Rattle.c2_spec.specs.Judges.Panel.{SomeRose}
use Rattle.c2_opening.specs.Opened.{IsOpeningCause}
use Rattle.c2_opening.specs.declared.error.ValidateError.{ValidateError}
use Rattle.c2_opening.specs.declared.error.ValidateError.TheVariants as check
use Rattle.c2_validate.specs.Checked.{IsCheckReadCause}
use Rattle.c2_copying.specs.Writing.{IsOverSpare, write_fault}
use Rattle.c2_rules.specs.Asking.{IsJudgeCause}
use Rattle.c2_build_refusals.specs.Kinds as kind
use Rattle.c2_build_refusals.specs.Kinds.{ErrorKind, IsSourceCause, heard_of}
use Rattle.c2_build_endings.specs.Endings.{kind_ending}
use Rattle.c2_build_plain.specs.Answers.{embed_effects}
use Rattle.c2_sample.specs.Sample.{IsSureFault, IsSureKind}

-- ---- counts

-- a count that stands at zero hasn't risen
none_rose : Rose 0 0 → ⊥
none_rose h = omega (arith, h)

-- no source in memory has failed
no_read_fault : Rose 0 0 ⊎ (Rose 0 0 ⊎ Rose 0 0) → ⊥
no_read_fault (inl h) = none_rose h
no_read_fault (inr (inl h)) = none_rose h
no_read_fault (inr (inr h)) = none_rose h

-- of no counts none has risen
nobody_rose : {T : Type 0} (faults : T → ℕ) (judges : List T) (now : List ℕ) → judges ≡ []
    → SomeRose (map faults judges) now → ⊥
nobody_rose {T} faults judges now none h =
    let moved : SomeRose [] now = subst (λ (js : List T). SomeRose (map faults js) now) none h in
    let within : moved.0 < 0 = moved.1 in
    omega (arith, within)

-- ---- the sink

-- a sink that was never called, and that fails at no number, states its room as its spare
room_is_spare : (s : MemSink) (room : ℕ) → sink_state s ≡ fresh_sink room 0
    → (if s.fail_at == 0 then Some (vec_len s.bytes - s.used) else None) ≡ Some room
room_is_spare s room h =
    let never : s.fail_at ≡ 0 = ap (λ state. state.fail_at) h in
    let all : vec_len s.bytes ≡ room = ap (λ state. state.room) h in
    let empty : take s.used s.bytes.items ≡ [] = ap (λ state. state.bytes) h in
    let none : length (take s.used s.bytes.items) ≡ 0 = ap length empty in
    let used : s.used ≡ 0 = omega (arith, none, length-take s.used s.bytes.items, s.in_room) in
    let left : vec_len s.bytes - s.used ≡ room = omega (arith, all, used) in
    ap (λ (n : ℕ). if n == 0 then Some (vec_len s.bytes - s.used) else None) never ∙ ap (λ (n : ℕ). Some n) left

-- ---- the build

-- What is known of a build in memory of media of this length: the sink has room for them and the packets of the longest store.
pub record InMemory (len : ℕ) (sink : MemSink) : Type 0 where
  pub room : ℕ
  pub sink_is : sink_state sink ≡ fresh_sink room 0
  pub holds : len + segments_len MAX_STORE_LEN ≤ room

-- what a sink in memory states as its spare
abbrev pub spare_of : MemSink → Option ℕ
spare_of s = if s.fail_at == 0 then Some (vec_len s.bytes - s.used) else None

-- the sink doesn't fail
no_write_fault : (len : ℕ) (sink : MemSink) → InMemory len sink
    → IsOverSpare write_fault (spare_of sink) (len + segments_len MAX_STORE_LEN) → ⊥
no_write_fault len sink m over =
    let less = over m.room (room_is_spare sink m.room m.sink_is) in
    omega (arith, less, m.holds)

-- an error of it is a refusal, or memory ran out
pub sure_kind :
    {T : Type 0} (faults : T → ℕ) (judges : List T) (now : List ℕ) (len : ℕ) (sink : MemSink) (k : ErrorKind)
    → judges ≡ [] → InMemory len sink
    → IsSourceCause embed_effects (Rose 0 0 ⊎ Rose 0 0) 0 0 k → IsJudgeCause (map faults judges) now (heard_of k)
    → IsOverSpare (kind_ending k) (spare_of sink) (len + segments_len MAX_STORE_LEN) → IsSureKind k
sure_kind faults judges now len sink kind.refusal none m c j s = inl refl
sure_kind faults judges now len sink kind.message_refusal none m c j s = inl refl
sure_kind faults judges now len sink kind.front_refusal none m c j s = inl refl
sure_kind faults judges now len sink kind.older_refusal none m c j s = inl refl
sure_kind faults judges now len sink kind.other_refusal none m c j s = inl refl
sure_kind faults judges now len sink kind.read_fault none m c j s = absurd (no_read_fault c)
sure_kind faults judges now len sink kind.judge_fault none m c j s =
    absurd (nobody_rose faults judges now none j)
sure_kind faults judges now len sink kind.write_fault none m c j s = absurd (no_write_fault len sink m s)
sure_kind faults judges now len sink kind.no_memory none m c j s = inr refl

-- ---- the check

-- an error of the search for a store is that memory ran out
pub search_error : (e : ValidateError) → IsOpeningCause 0 0 e → e ≡ check.NoMemory
search_error check.ReadFault c = absurd (none_rose c)
search_error check.JudgeFault c = absurd c
search_error check.NoMemory c = refl

-- an error of the check isn't a fault of the source
pub check_error : (e : ValidateError) → IsCheckReadCause 0 0 e → IsSureFault e
check_error check.ReadFault c = absurd (none_rose c)
check_error check.JudgeFault c = tt
check_error check.NoMemory c = tt

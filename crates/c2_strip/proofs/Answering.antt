-- What is answered of a file without its store, and what the sink took.
use Rattle.c2_strip.proofs.TheLaws.{each_file_is_stripped_once}
use Rattle.std.proofs.Common.{◌≡◌, ◌≢◌, ℕ, ◌<◌, Bool, List, length, take, Option, Ok, Err, IfErr, IfOk, IsSome, None, Some, refl, sym, ap, ◌∙◌, subst, append-nil}
use Rattle.std.specs.declared.result.Result.{Result}
use Rattle.std.specs.Prelude.{⊤}
use Rattle.c2_base.specs.Sink.{StaysSink, WritesSink, then_written, unsaid}
use Rattle.c2_base.specs.Source.{ReadsSource, StaysSource}
use Rattle.c2_base.specs.declared.media.MediaError.{MediaError}
use Rattle.c2_base.specs.declared.media.MediaError.TheVariants as media
use Rattle.c2_base.specs.declared.values.Range.{Range}
use Rattle.c2_spec.specs.Located.{refusal}
use Rattle.c2_container.specs.Contained.{IsLocateCause, IsRefusalOf, IsSaid}
use Rattle.c2_copying.specs.Writing as end
use Rattle.c2_copying.specs.Writing.{Ending, complete, read_fault, write_fault, untouched, Begins, Breaks, Delivers, EndsSink, IsOverSpare, WritesFile}
use Rattle.c2_copying.specs.declared.copying.CopyError.{CopyError}
use Rattle.c2_copying.specs.declared.copying.CopyError.TheVariants as copying
use Rattle.c2_strip.specs.Answers.{IsAnswerOf, IsStripReadCause, IsStripped, IsStripWriteCause, Writes, ending_of}
use Rattle.c2_strip.specs.Endings.{IsRefusedBy}
use Rattle.c2_strip.specs.Stripping.{StripsTo, left_of, stripped}
use Rattle.c2_strip.specs.declared.error.Stripped.{Stripped}
use Rattle.c2_strip.specs.declared.error.Stripped.TheVariants.{Done, NoStore, Refused, Middle}
use Rattle.c2_strip.specs.declared.error.StripError.{StripError}
use Rattle.c2_strip.specs.declared.error.StripError.TheVariants.{ReadFault, WriteFault, NoMemory}
use Rattle.c2_strip.proofs.Strips.{said_refused}

-- ---- answers

-- what a file comes to is its answer
pub stripped_is : (file : List ℕ) (a : Stripped) → StripsTo file a → IsStripped file a
stripped_is file a h = record { is = h; only = λ other k. each_file_is_stripped_once file other a k h }

-- the first of the container's tests that fails is the answer of a file that is refused
pub refused_is : (file : List ℕ) (e : MediaError) (r : Result Stripped StripError) → IsSaid file (Err e)
    → IsRefusedBy e r → IfOk r (IsStripped file)
refused_is file e (Ok (Done range)) h k = absurd k
refused_is file e (Ok NoStore) h k = absurd k
refused_is file e (Ok (Refused f)) h k =
    stripped_is file (Refused f)
    (subst (λ (x : MediaError). StripsTo file (Refused x)) (sym k.0) (said_refused file e h k.1))
refused_is file e (Ok (Middle at)) h k = absurd k
refused_is file e (Err x) h k = tt

-- ---- the sink

-- a sink that stays, where it is said apart whether it is finished
pub stays_unsaid : {K : Type 0} (written : K → Option (List ℕ)) (finished : K → Bool) (faults : K → ℕ) (old new : K)
    → StaysSink written finished faults old new → StaysSink written unsaid faults old new
stays_unsaid written finished faults old new h = record { later = h.later; grows = h.grows; unfinished = refl }

-- a call that ended so has written nothing
abbrev pub IsIdle : Ending → Type 0
IsIdle complete = ⊥
IsIdle read_fault = ⊤
IsIdle write_fault = ⊥
IsIdle untouched = ⊤

-- nothing was written of any bytes
begins_none : {K : Type 0} (written : K → Option (List ℕ)) (finished : K → Bool) (bytes : List ℕ) (sink : K)
    → Begins written finished bytes sink sink
begins_none written finished bytes sink = record { prefix = (0, nothing (written sink)); unfinished = refl }
  where
    nothing : (w : Option (List ℕ)) → w ≡ then_written w (take 0 bytes)
    nothing None = refl
    nothing (Some w) = ap Some (sym (append-nil w))

-- what such a call has written of a file
pub idle_file :
    {K : Type 0} (written : K → Option (List ℕ)) (spare : K → Option ℕ) (finished : K → Bool) (file : List ℕ) (sink : K)
    (e : Ending)
    → IsIdle e → WritesFile written spare finished (Writes file) sink sink e
idle_file written spare finished file sink complete idle = absurd idle
idle_file written spare finished file sink read_fault idle =
    record { wrote = λ bytes h. begins_none written finished bytes sink; fits = tt }
idle_file written spare finished file sink write_fault idle = absurd idle
idle_file written spare finished file sink untouched idle = record { wrote = tt; fits = tt }

-- what a call that writes nothing has done to the sink
pub idle_ends : {K : Type 0} (finished : K → Bool) (sink : K) (e : Ending) → IsIdle e → EndsSink finished sink sink e
idle_ends finished sink complete idle = absurd idle
idle_ends finished sink read_fault idle = record { finish = refl; leaves = tt }
idle_ends finished sink write_fault idle = absurd idle
idle_ends finished sink untouched idle = record { finish = refl; leaves = refl }

-- it needed no spare
pub idle_room : (e : Ending) (spare : Option ℕ) (count : ℕ) → IsIdle e → IsOverSpare e spare count
idle_room complete spare count idle = absurd idle
idle_room read_fault spare count idle = tt
idle_room write_fault spare count idle = absurd idle
idle_room untouched spare count idle = tt

-- ---- a refused container

-- no sink failed
pub refused_unwritten : (e : MediaError) (r : Result Stripped StripError) → IsRefusedBy e r
    → IfErr r (λ x. x ≢ WriteFault)
refused_unwritten e (Ok a) k = tt
refused_unwritten e (Err ReadFault) k = λ is. cc (is)
refused_unwritten e (Err WriteFault) k = absurd k
refused_unwritten e (Err NoMemory) k = λ is. cc (is)

-- an error that refuses the file is one of the container's, and leaves the count of faults
refusal_of : (len before now : ℕ) (e : MediaError) → IsSome (refusal e) → IsLocateCause len before now e
    → IsRefusalOf len e × (now ≡ before)
refusal_of len before now media.NotMedia some h = h
refusal_of len before now (media.FileTooLarge n) some h = h
refusal_of len before now (media.Truncated n) some h = h
refusal_of len before now (media.BadMarker n) some h = h
refusal_of len before now (media.BadSegment n) some h = h
refusal_of len before now (media.BadPacket n) some h = h
refusal_of len before now (media.TwoStores n) some h = h
refusal_of len before now (media.BadBox n) some h = h
refusal_of len before now (media.BadProvenanceBox n) some h = h
refusal_of len before now (media.StoreTooLarge n) some h = h
refusal_of len before now media.TooManyBoxes some h = h
refusal_of len before now media.ReadFault some h = absurd (cc (some))
refusal_of len before now media.NoMemory some h = absurd (cc (some))

-- the answer of a refused file is one of a source of this length
pub refused_within : (len before now : ℕ) (e : MediaError) (r : Result Stripped StripError)
    → IsLocateCause len before now e → IsRefusedBy e r → IfOk r (IsAnswerOf len)
refused_within len before now e (Ok (Done range)) h k = absurd k
refused_within len before now e (Ok NoStore) h k = absurd k
refused_within len before now e (Ok (Refused f)) h k =
    subst (IsRefusalOf len) (sym k.0) (refusal_of len before now e k.1 h).0
refused_within len before now e (Ok (Middle at)) h k = absurd k
refused_within len before now e (Err x) h k = tt

-- the source was only read
pub refused_reads :
    {S : Type 0} (len : S → ℕ) (known : S → Option (List ℕ)) (faults : S → ℕ) (old new : S) (e : MediaError)
    (r : Result Stripped StripError)
    → StaysSource len known faults old new → IsLocateCause (len old) (faults old) (faults new) e → IsRefusedBy e r
    → ReadsSource len known faults IsStripReadCause old new r
refused_reads len known faults old new e (Ok (Done range)) stays h k = absurd k
refused_reads len known faults old new e (Ok NoStore) stays h k = absurd k
refused_reads len known faults old new e (Ok (Refused f)) stays h k =
    record { stays = stays; quiet = (refusal_of (len old) (faults old) (faults new) e k.1 h).1; cause = tt }
refused_reads len known faults old new e (Ok (Middle at)) stays h k = absurd k
refused_reads len known faults old new e (Err ReadFault) stays h k =
    record { stays = stays; quiet = tt; cause = subst (IsLocateCause (len old) (faults old) (faults new)) k h }
refused_reads len known faults old new e (Err WriteFault) stays h k = absurd k
refused_reads len known faults old new e (Err NoMemory) stays h k = record { stays = stays; quiet = tt; cause = tt }

-- ---- an error before anything is written

-- nothing was written
pub unwritten_idle : (e : StripError) → e ≢ WriteFault → IsIdle (ending_of (Err e))
unwritten_idle ReadFault other = tt
unwritten_idle WriteFault other = absurd (other refl)
unwritten_idle NoMemory other = tt

-- what is left of the sink
pub unwritten_writes : {K : Type 0} (written : K → Option (List ℕ)) (faults : K → ℕ) (sink : K) (e : StripError)
    → StaysSink written unsaid faults sink sink → e ≢ WriteFault
    → WritesSink {T = Stripped} written unsaid faults IsStripWriteCause sink sink (Err e)
unwritten_writes written faults sink ReadFault stays other = record { stays = stays; quiet = tt; cause = refl }
unwritten_writes written faults sink WriteFault stays other = absurd (other refl)
unwritten_writes written faults sink NoMemory stays other = record { stays = stays; quiet = tt; cause = refl }

-- ---- nothing is left out

-- an answer that isn't that a range was left out
abbrev pub IsOther : Stripped → Type 0
IsOther a = (range : Range) → a ≡ Done range → ⊥

-- nothing was written
pub other_idle : (a : Stripped) → IsOther a → IsIdle (ending_of (Ok a))
other_idle (Done range) other = absurd (other range refl)
other_idle NoStore other = tt
other_idle (Refused e) other = tt
other_idle (Middle at) other = tt

-- ---- a range is left out

-- all bytes outside of it were written
pub all_written :
    {K : Type 0} (written : K → Option (List ℕ)) (spare : K → Option ℕ) (finished : K → Bool) (file : List ℕ)
    (range : Range) (old new : K)
    → StripsTo file (Done range) → Delivers written finished (stripped range file) old new
    → WritesFile written spare finished (Writes file) old new complete
all_written written spare finished file range old new h k =
    record { wrote = (stripped range file, (Done range, h, refl), k); fits = tt }

-- what is written is the bytes outside of it
writes_is : (file : List ℕ) (range : Range) (bytes : List ℕ) → StripsTo file (Done range) → Writes file bytes
    → bytes ≡ stripped range file
writes_is file range bytes h w = w.2 ∙ ap (left_of file) (each_file_is_stripped_once file w.0 (Done range) w.1 h)

-- a prefix of them was written
part_begins : {K : Type 0}
    → (written : K → Option (List ℕ)) (spare : K → Option ℕ) (finished : K → Bool) (file : List ℕ) (range : Range) (old new : K) (e : Ending)
    → StripsTo file (Done range) → Breaks written spare finished (stripped range file) old new e
    → (bytes : List ℕ) → Writes file bytes → Begins written finished bytes old new
part_begins written spare finished file range old new e h k bytes w =
    subst (λ (xs : List ℕ). Begins written finished xs old new) (sym (writes_is file range bytes h w))
    (record { prefix = k.prefix; unfinished = k.same })

-- the source failed
pub part_read : {K : Type 0}
    → (written : K → Option (List ℕ)) (spare : K → Option ℕ) (finished : K → Bool) (file : List ℕ) (range : Range) (old new : K) (e : CopyError)
    → e ≡ copying.ReadFault → StripsTo file (Done range)
    → Breaks written spare finished (stripped range file) old new (end.ending_of e)
    → WritesFile written spare finished (Writes file) old new read_fault
part_read written spare finished file range old new e is h k =
    record { wrote = part_begins written spare finished file range old new (end.ending_of e) h k; fits = tt }

-- the sink failed, and didn't state that it takes all bytes
pub part_written : {K : Type 0}
    → (written : K → Option (List ℕ)) (spare : K → Option ℕ) (finished : K → Bool) (file : List ℕ) (range : Range) (old new : K) (e : CopyError)
    → e ≡ copying.WriteFault → StripsTo file (Done range)
    → Breaks written spare finished (stripped range file) old new (end.ending_of e)
    → WritesFile written spare finished (Writes file) old new write_fault
part_written written spare finished file range old new e is h k = record {
  wrote = part_begins written spare finished file range old new (end.ending_of e) h k;
  fits =
      λ s there bytes w. subst (λ (xs : List ℕ). s < length xs) (sym (writes_is file range bytes h w)) (subst (λ (x : CopyError). IsOverSpare (end.ending_of x) (spare old) (length (stripped range file))) is k.over s there);
}

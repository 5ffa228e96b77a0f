-- What a call that writes a new file leaves of its sources and of its sink, by what is left of them before it writes, and by the copy.
use Rattle.std.proofs.Common.{◌≡◌, inl, ℕ, ◌+◌, ◌≤◌, Bool, true, List, Option, refl, sym, subst, arith}
use Rattle.std.specs.Prelude.{⊤, Ok, Err}
use Rattle.c2_base.specs.Causes.{Rose}
use Rattle.c2_base.specs.Sink.{WritesSink, unsaid}
use Rattle.c2_base.specs.Source.{ReadsSource}
use Rattle.c2_calls_spec.proofs.SinkLemmas.{writes_nothing}
use Rattle.c2_calls_spec.proofs.SourceLemmas.{reads_next, reads_then}
use Rattle.c2_copying.specs.Writing.{IsCopyReadCause as CopyReadCause, IsCopyWriteCause as CopyWriteCause, IsOverSpare, ending_of}
use Rattle.c2_copying.specs.declared.copying.CopyError.{CopyError}
use Rattle.c2_copying.specs.declared.copying.CopyError.TheVariants as copying
use Rattle.c2_build_refusals.specs.Kinds.{Effects, ErrorKind, IsSourceCause, MayCome, kind_of}
use Rattle.c2_build_refusals.specs.Kinds as kind
use Rattle.c2_build_refusals.specs.declared.error.BuildError.{BuildError}
use Rattle.c2_build_refusals.proofs.Doing.{DoesNoMore, leaves_kind, more_cause, unwritten_sink}
use Rattle.c2_build_endings.specs.Endings.{WritesOut, kind_ending}
use Rattle.c2_build_endings.specs.Sources.{FaultsRose, IsRead, ReadsSigned, SourceUse, use_of}
use Rattle.c2_build_writing.specs.Puts.{copy_fault_of, most_put, put_file_len}
use Rattle.c2_build_writing.proofs.TheLaws.{put_most}
use Rattle.c2_without_store.specs.Clears.{cleared_len}
use Rattle.c2_without_store.specs.declared.clearing.Clearing.{Clearing}
use Rattle.c2_without_store.specs.declared.clearing.Clearing.TheVariants.{Cut, Freed}
use Rattle.c2_build_in_place.specs.Writings.{CanWrite}
use Rattle.c2_build_in_place.specs.declared.writing.Ready.{Ready}
use Rattle.c2_build_in_place.proofs.Endings.{copy_beside, copy_leaves, copy_sink, copy_source}

-- ---- one source

-- a step failed that does no more than the call, before anything was written
pub read_failed : {S T U : Type 0} (a b : Effects) → DoesNoMore a b → {Other : Type 0} {len : S → ℕ}
    {known : S → Option (List ℕ)} {faults : S → ℕ} {old new : S} {e : BuildError}
    → ReadsSource {T = T} len known faults (λ m n x. IsSourceCause a Other m n (kind_of x)) old new (Err e)
    → ReadsSource {T = U} len known faults (λ m n x. IsSourceCause b Other m n (kind_of x)) old new (Err e)
read_failed a b does {Other} {len} {known} {faults} {old} {new} {e} h = record {
  stays = h.stays;
  quiet = tt;
  cause = more_cause a b does Other (faults old) (faults new) (kind_of e) h.cause;
}

-- the media file was copied
pub media_copied : {S T U V : Type 0} {Below Cause : ℕ → ℕ → BuildError → Type 0} (s : SourceUse S) (new : S) (t : T)
    (u : U) (v : V) → IsRead Below s (Ok t) → ReadsSource s.len s.known s.faults CopyReadCause s.new new (Ok v)
    → IsRead Cause (use_of s.len s.known s.faults s.old new) (Ok u)
media_copied {S} {T} {U} {V} {Below} {Cause} s new t u v h copy =
    reads_next s.len s.known s.faults Below Cause s.old s.new new t (Ok u) h
    (record { stays = copy.stays; quiet = copy.quiet; cause = tt })

-- its copy failed
pub media_broken : {S T U V : Type 0} (does : Effects) → MayCome does.writes_file ⊤ → {Other : Type 0}
    {Below : ℕ → ℕ → BuildError → Type 0} (s : SourceUse S) (new : S) (t : T) (e : CopyError) (f : BuildError)
    → f ≡ copy_fault_of e → IsRead Below s (Ok t)
    → ReadsSource {T = V} s.len s.known s.faults CopyReadCause s.new new (Err e)
    → IsRead {T = U} (λ m n x. IsSourceCause does Other m n (kind_of x)) (use_of s.len s.known s.faults s.old new) (Err f)
media_broken does may {Other} {Below} s new t e f is h copy =
    reads_next s.len s.known s.faults Below (λ m n x. IsSourceCause does Other m n (kind_of x)) s.old s.new new t
    (Err f) h
    (record {
      stays = copy.stays;
      quiet = tt;
      cause = copy_source does may Other (s.faults s.new) (s.faults new) e f is copy.cause;
    })

-- a source beside one that was copied
pub beside_copied : {S T U : Type 0} {Below Cause : ℕ → ℕ → BuildError → Type 0} (s : SourceUse S) (t : T) (u : U)
    → IsRead Below s (Ok t) → IsRead Cause s (Ok u)
beside_copied {S} {T} {U} {Below} {Cause} s t u h =
    reads_then s.len s.known s.faults Below Cause s.old s.new t (Ok u) tt h

-- a source beside one whose copy failed
pub beside_broken : {S M T U V : Type 0} (does : Effects) → MayCome does.writes_file ⊤ → {Other : Type 0}
    {Below : ℕ → ℕ → BuildError → Type 0} (m : SourceUse M) (new : M) → m.faults m.new ≡ m.faults m.old
    → (s : SourceUse S) (t : T) (e : CopyError) (f : BuildError) → f ≡ copy_fault_of e
    → (FaultsRose (use_of m.len m.known m.faults m.old new) → Other)
    → ReadsSource {T = V} m.len m.known m.faults CopyReadCause m.new new (Err e) → IsRead Below s (Ok t)
    → IsRead {T = U} (λ i j x. IsSourceCause does Other i j (kind_of x)) s (Err f)
beside_broken does may {Other} {Below} m new same s t e f is among copy h =
    reads_then s.len s.known s.faults Below (λ i j x. IsSourceCause does Other i j (kind_of x)) s.old s.new t (Err f)
    (copy_beside does may (s.faults s.old) (s.faults s.new) (m.faults m.new) (m.faults new) e f is
    (λ rose. among (subst (λ (n : ℕ). Rose n (m.faults new)) same rose)) copy.cause) h

-- ---- the sources of a call that embeds

-- a step failed before anything was written
pub signed_failed : {A B C T U : Type 0} (a b : Effects) → DoesNoMore a b → (x : SourceUse A) (y : SourceUse B)
    (z : SourceUse C) (e : BuildError)
    → ReadsSigned {T = T} (λ O m n f. IsSourceCause a O m n (kind_of f)) x y z (Err e)
    → ReadsSigned {T = U} (λ O m n f. IsSourceCause b O m n (kind_of f)) x y z (Err e)
signed_failed a b does x y z e h = record {
  media = read_failed a b does h.media;
  definition = read_failed a b does h.definition;
  message = read_failed a b does h.message;
}

-- the media file was copied
pub signed_copied : {A B C T U V : Type 0} {IsBelow IsCause : Type 0 → ℕ → ℕ → BuildError → Type 0} (x : SourceUse A)
    (y : SourceUse B) (z : SourceUse C) (new : A) (t : T) (u : U) (v : V) → ReadsSigned IsBelow x y z (Ok t)
    → ReadsSource x.len x.known x.faults CopyReadCause x.new new (Ok v)
    → ReadsSigned IsCause (use_of x.len x.known x.faults x.old new) y z (Ok u)
signed_copied x y z new t u v h copy = record {
  media = media_copied x new t u v h.media copy;
  definition = beside_copied y t u h.definition;
  message = beside_copied z t u h.message;
}

-- its copy failed
pub signed_broken : {A B C T U V : Type 0} (does : Effects) → MayCome does.writes_file ⊤
    → {IsBelow : Type 0 → ℕ → ℕ → BuildError → Type 0} (x : SourceUse A) (y : SourceUse B) (z : SourceUse C) (new : A)
    (t : T) (e : CopyError) (f : BuildError) → f ≡ copy_fault_of e → ReadsSigned IsBelow x y z (Ok t)
    → ReadsSource {T = V} x.len x.known x.faults CopyReadCause x.new new (Err e)
    → ReadsSigned {T = U} (λ O m n g. IsSourceCause does O m n (kind_of g)) (use_of x.len x.known x.faults x.old new) y z (Err f)
signed_broken does may x y z new t e f is h copy = record {
  media = media_broken does may x new t e f is h.media copy;
  definition = beside_broken does may x new h.media.quiet y t e f is inl copy h.definition;
  message = beside_broken does may x new h.media.quiet z t e f is inl copy h.message;
}

-- ---- the sink

-- nothing was written, since a step failed that writes nothing
pub sink_unwritten : {K T : Type 0} {written : K → Option (List ℕ)} {faults : K → ℕ} {finished : K → Bool}
    (does : Effects) → (MayCome does.writes_file ⊤ → ⊥) → (Other : Type 0) (m n : ℕ) (k : K) (e : BuildError)
    → IsSourceCause does Other m n (kind_of e) → WritesOut {T = T} written faults finished k k (Err e)
sink_unwritten {K} {T} {written} {faults} {finished} does none Other m n k e cause = record {
  writes = writes_nothing k (Err e) (unwritten_sink does none Other m n (kind_of e) (faults k) cause);
  ends = record { finish = refl; untouched = leaves_kind (kind_of e) refl };
}

-- nor is a spare too small then
pub room_unwritten : (does : Effects) → (MayCome does.writes_file ⊤ → ⊥) → (Other : Type 0) (m n : ℕ) (k : ErrorKind)
    → IsSourceCause does Other m n k → (spare : Option ℕ) (count : ℕ) → IsOverSpare (kind_ending k) spare count
room_unwritten does none Other m n kind.refusal h spare count = tt
room_unwritten does none Other m n kind.message_refusal h spare count = tt
room_unwritten does none Other m n kind.front_refusal h spare count = tt
room_unwritten does none Other m n kind.older_refusal h spare count = tt
room_unwritten does none Other m n kind.other_refusal h spare count = tt
room_unwritten does none Other m n kind.read_fault h spare count = tt
room_unwritten does none Other m n kind.judge_fault h spare count = tt
room_unwritten does none Other m n kind.write_fault h spare count = absurd (none h)
room_unwritten does none Other m n kind.no_memory h spare count = tt

-- the new file was written
pub sink_copied : {K U V : Type 0} {written : K → Option (List ℕ)} {faults : K → ℕ} {finished : K → Bool} {old new : K}
    (u : U) (v : V) → WritesSink written unsaid faults CopyWriteCause old new (Ok v) → finished new ≡ true
    → WritesOut written faults finished old new (Ok u)
sink_copied u v h is = record {
  writes = record { stays = h.stays; quiet = h.quiet; cause = tt };
  ends = record { finish = is; untouched = tt };
}

-- it was begun
pub sink_broken : {K U V : Type 0} {written : K → Option (List ℕ)} {faults : K → ℕ} {finished : K → Bool} {old new : K}
    (e : CopyError) (f : BuildError) → f ≡ copy_fault_of e
    → WritesSink {T = V} written unsaid faults CopyWriteCause old new (Err e) → finished new ≡ finished old
    → WritesOut {T = U} written faults finished old new (Err f)
sink_broken {K} {U} {V} {written} {faults} {finished} {old} {new} e f is h same = record {
  writes = record { stays = h.stays; quiet = tt; cause = copy_sink (faults old) (faults new) e f is h.cause };
  ends = record { finish = same; untouched = copy_leaves (new ≡ old) e f is };
}

-- its copy failed, so a spare is less than the file, which isn't longer than so many bytes
pub room_broken : (e : CopyError) (f : BuildError) → f ≡ copy_fault_of e → (spare : Option ℕ) (len most : ℕ)
    → IsOverSpare (ending_of e) spare len → len ≤ most → IsOverSpare (kind_ending (kind_of f)) spare most
room_broken e f is spare len most over le =
    subst (λ (x : BuildError). IsOverSpare (kind_ending (kind_of x)) spare most) (sym is) (by e over)
  where
    by : (c : CopyError) → IsOverSpare (ending_of c) spare len → IsOverSpare (kind_ending (kind_of (copy_fault_of c))) spare most
    by copying.ReadFault h = tt
    by copying.WriteFault h = λ s states. omega (arith, h s states, le)

-- what is ready over media of this length isn't longer than that and the longest that is put in
pub ready_most : (len : ℕ) (r : Ready) → CanWrite len r → put_file_len r.draft r.store ≤ len + most_put
ready_most len r h =
    omega (arith, h.can.size, cleared_most r.clearing len, put_most r.draft.put r.store h.can.store)
  where
    cleared_most : (c : Clearing) (n : ℕ) → cleared_len c n ≤ n
    cleared_most (Cut range) n = omega arith
    cleared_most (Freed row) n = omega arith

-- How the writing of a new file ends, and what that says of its sources and of its sink.
use Rattle.std.proofs.Common.{◌≡◌, inl, inr, ℕ, ◌<◌, Bool, List, length, Option, refl, sym, subst}
use Rattle.std.specs.Prelude.{⊤}
use Rattle.c2_base.specs.Causes.{Rose}
use Rattle.c2_copying.specs.Writing.{Begins, Breaks, Delivers, WritesFile, complete, ending_of}
use Rattle.c2_copying.specs.Writing.{IsCopyReadCause as CopyReadCause, IsCopyWriteCause as CopyWriteCause}
use Rattle.c2_copying.specs.declared.copying.CopyError.{CopyError}
use Rattle.c2_copying.specs.declared.copying.CopyError.TheVariants as copying
use Rattle.c2_build_writing.specs.Puts.{copy_fault_of}
use Rattle.c2_build_refusals.specs.Kinds.{Effects, ErrorKind, IsSourceCause, MayCome, kind_of}
use Rattle.c2_build_refusals.specs.Kinds as kind
use Rattle.c2_build_refusals.specs.Sinks.{IsOutCause, KindLeaves}
use Rattle.c2_build_refusals.specs.declared.error.BuildError.{BuildError}
use Rattle.c2_build_refusals.proofs.Judged.{IsUnjudged}
use Rattle.c2_build_endings.specs.Endings.{kind_ending}
use Rattle.c2_base.proofs.Written.{then_nothing}

-- ---- nothing was written

-- nothing is written by what writes no file
pub unwritten : (does : Effects) → (MayCome does.writes_file ⊤ → ⊥)
    → {K : Type 0} (Other : Type 0) (written : K → Option (List ℕ)) (spare : K → Option ℕ) (finished : K → Bool) (W : List ℕ → Type 0) (s : K) (m n : ℕ) (k : ErrorKind)
    → IsSourceCause does Other m n k
    → WritesFile written spare finished W s s (kind_ending k)
unwritten does none Other written spare finished W s m n kind.refusal h = record { wrote = tt; fits = tt }
unwritten does none Other written spare finished W s m n kind.message_refusal h = record { wrote = tt; fits = tt }
unwritten does none Other written spare finished W s m n kind.front_refusal h = record { wrote = tt; fits = tt }
unwritten does none Other written spare finished W s m n kind.older_refusal h = record { wrote = tt; fits = tt }
unwritten does none Other written spare finished W s m n kind.other_refusal h = record { wrote = tt; fits = tt }
unwritten does none Other written spare finished W s m n kind.read_fault h =
    record { wrote = λ bytes is. record { prefix = (0, then_nothing (written s)); unfinished = refl }; fits = tt }
unwritten does none Other written spare finished W s m n kind.judge_fault h = record { wrote = tt; fits = tt }
unwritten does none Other written spare finished W s m n kind.write_fault h = absurd (none h)
unwritten does none Other written spare finished W s m n kind.no_memory h = record { wrote = tt; fits = tt }

-- ---- what was written

module _ {K : Type 0} (written : K → Option (List ℕ)) (spare : K → Option ℕ) (finished : K → Bool) (Writes : List ℕ → Type 0) (file : List ℕ) where
  -- all of a file
  pub all_written : (old new : K) → Writes file → Delivers written finished file old new
      → WritesFile written spare finished Writes old new complete
  all_written old new is h = record { wrote = (file, is, h); fits = tt }

  module _ (one : (bytes : List ℕ) → Writes bytes → file ≡ bytes) where
    -- a file is begun where its writing broke off and nothing else is written
    prefix_written : (old new : K) (e : CopyError) → Breaks written spare finished file old new (ending_of e)
        → (bytes : List ℕ) → Writes bytes → Begins written finished bytes old new
    prefix_written old new e h bytes w =
        subst (λ (x : List ℕ). Begins written finished x old new) (one bytes w)
        (record { prefix = h.prefix; unfinished = h.same })

    -- a prefix of the new file is written where a source fails, and where the sink fails, which then couldn't state that it holds the file
    pub begun : (old new : K) (e : CopyError) → Breaks written spare finished file old new (ending_of e)
        → WritesFile written spare finished Writes old new (ending_of e)
    begun old new copying.ReadFault h = record { wrote = prefix_written old new copying.ReadFault h; fits = tt }
    begun old new copying.WriteFault h = record {
      wrote = prefix_written old new copying.WriteFault h;
      fits = λ s states bytes w. subst (λ (x : List ℕ). s < length x) (one bytes w) (h.over s states);
    }

-- ---- the causes of a fault in the copy

-- the cause of a fault in the copy, of the source that the copy reads
pub copy_source : (does : Effects) → MayCome does.writes_file ⊤
    → (Other : Type 0) (m n : ℕ) (e : CopyError) (f : BuildError) → f ≡ copy_fault_of e → CopyReadCause m n e
    → IsSourceCause does Other m n (kind_of f)
copy_source does may Other m n e f same h = subst (λ (x : BuildError). IsSourceCause does Other m n (kind_of x)) (sym same) (by e h)
  where
    by : (c : CopyError) → CopyReadCause m n c → IsSourceCause does Other m n (kind_of (copy_fault_of c))
    by copying.ReadFault k = inl k
    by copying.WriteFault k = may

-- the cause of a fault in the copy, of a source beside the one that it reads
pub copy_beside : (does : Effects) → MayCome does.writes_file ⊤
    → {Other : Type 0} (i j m n : ℕ) (e : CopyError) (f : BuildError) → f ≡ copy_fault_of e → (Rose m n → Other)
    → CopyReadCause m n e → IsSourceCause does Other i j (kind_of f)
copy_beside does may {Other} i j m n e f same rose h = subst (λ (x : BuildError). IsSourceCause does Other i j (kind_of x)) (sym same) (by e h)
  where
    by : (c : CopyError) → CopyReadCause m n c → IsSourceCause does Other i j (kind_of (copy_fault_of c))
    by copying.ReadFault k = inr (rose k)
    by copying.WriteFault k = may

-- the cause of a fault in the copy, of its sink
pub copy_sink : (m n : ℕ) (e : CopyError) (f : BuildError) → f ≡ copy_fault_of e → CopyWriteCause m n e
    → IsOutCause m n f
copy_sink m n e f same h = subst (IsOutCause m n) (sym same) (by e h)
  where
    by : (c : CopyError) → CopyWriteCause m n c → IsOutCause m n (copy_fault_of c)
    by copying.ReadFault k = tt
    by copying.WriteFault k = k

-- what is said of a sink that is left isn't said of one that was written to
pub copy_leaves : (P : Type 0) (e : CopyError) (f : BuildError) → f ≡ copy_fault_of e → KindLeaves (kind_of f) P
copy_leaves P e f same = subst (λ (x : BuildError). KindLeaves (kind_of x) P) (sym same) (by e)
  where
    by : (c : CopyError) → KindLeaves (kind_of (copy_fault_of c)) P
    by copying.ReadFault = tt
    by copying.WriteFault = tt

-- no judge fails in it
pub copy_unjudged : (e : CopyError) (f : BuildError) → f ≡ copy_fault_of e → IsUnjudged (kind_of f)
copy_unjudged e f same = subst (λ (x : BuildError). IsUnjudged (kind_of x)) (sym same) (by e)
  where
    by : (c : CopyError) → IsUnjudged (kind_of (copy_fault_of c))
    by copying.ReadFault = tt
    by copying.WriteFault = tt

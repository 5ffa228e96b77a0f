-- What a command leaves of the file that it writes, by how the call ended that wrote it.
use Rattle.std.proofs.Common.{◌≡◌, ◌≢◌, refl, sym, ap, ◌∙◌, subst, inl, inr, ℕ, Bool, List, [], Option, Some, None, unwrap_or}
use Rattle.std.specs.Prelude.{⊤, IfErr, IfOk, IsSome, OnOk, Ok, Err}
use Rattle.std.specs.declared.result.Result.{Result}
use Rattle.std.proofs.lemmas.Bool.{false≢true}
use Rattle.c2_base.specs.Sink.{then_written}
use Rattle.c2_copying.specs.Writing as copying
use Rattle.c2_copying.specs.Writing.{Ending, HasWritten, LeavesSink, complete, read_fault, write_fault, untouched}
use Rattle.c2_cmd_outcome.specs.Left.{state_of}
use Rattle.c2_cmd_outcome.specs.Outcome.{Outcome}
use Rattle.c2_cmd_outcome.specs.Reply.{FileEnd, StandsFor, TakesFile, outcome_of}
use Rattle.c2_cmd_outcome.specs.declared.reply.Fault.{Fault}
use Rattle.c2_cmd_outcome.specs.declared.reply.Fault.TheVariants.{Input, Output, Judge, Memory}
use Rattle.c2_cmd_outcome.specs.declared.reply.Reply.{Reply}
use Rattle.c2_cmd_outcome.specs.declared.types.Answer.TheVariants as answer
use Rattle.c2_cmd_outcome.proofs.Replying.{each_ok, nothing_written}
use Rattle.c2_cmd_written_spec.specs.Written.{with_file}
use Rattle.c2_base.proofs.Written.{then_nothing}
use Rattle.c2_lemmas.proofs.Lists.{take_none}

-- ---- by the ending of the call

-- the reply to a call that ended so: a file that is whole is followed by a reply, or memory runs out; and one that is untouched by a reply,
-- or by any fault but the sink's
abbrev pub IsEndOf : Ending → Result Reply Fault → Type 0
IsEndOf complete r = IfErr r (λ e. e ≡ Memory)
IsEndOf read_fault r = ◌≡◌ {A = Result Reply Fault} r (Err Input)
IsEndOf write_fault r = ◌≡◌ {A = Result Reply Fault} r (Err Output)
IsEndOf untouched r = IfErr r (λ e. e ≢ Output)

-- the outcome has a file where the call wrote one, and none where it answered that it didn't
abbrev pub FitsFile : Ending → Option (List ℕ) → Result Reply Fault → Type 0
FitsFile complete file r = IsSome file
FitsFile read_fault file r = ⊤
FitsFile write_fault file r = ⊤
FitsFile untouched file r = OnOk r (file ≡ None)

-- the reply says that the command is done where the call wrote a file, and something else where it answered that it didn't
abbrev pub FitsAnswer : Ending → Result Reply Fault → Type 0
FitsAnswer complete r = IfOk r (λ reply. reply.answer ≡ answer.Done)
FitsAnswer read_fault r = ⊤
FitsAnswer write_fault r = ⊤
FitsAnswer untouched r = IfOk r (λ reply. reply.answer ≢ answer.Done)

-- ---- what was written

module _ {K : Type 0} (written : K → Option (List ℕ)) (finished : K → Bool) where
  -- a sink that is as it was
  still : (old new : K) → new ≡ old → state_of written finished new ≡ state_of written finished old
  still old new same = ap (state_of written finished) same

  -- of no bytes nothing is written
  nothing_begun : (old new : K) → copying.Begins written finished [] old new
      → state_of written finished new ≡ state_of written finished old
  nothing_begun old new h =
      let text : written new ≡ written old =
      h.prefix.1 ∙ ap (then_written (written old)) (take_none h.prefix.0) ∙ sym (then_nothing (written old)) in
      let first : state_of written finished new ≡ record { written = written old; finished = finished new } =
      ap (λ (w : Option (List ℕ)). record { written = w; finished = finished new }) text in
      let then : record { written = written old; finished = finished new } ≡ state_of written finished old =
      ap (λ (f : Bool). record { written = written old; finished = f }) h.unfinished in
      first ∙ then

  -- a sink that is as it was has begun with any bytes
  begun_none : (bytes : List ℕ) (old new : K) → new ≡ old → copying.Begins written finished bytes old new
  begun_none bytes old new same =
      subst (copying.Begins written finished bytes old) (sym same)
      (record { prefix = nothing_written (written old) bytes; unfinished = refl })

  -- a file that was begun when a source failed
  takes_input : (file : Option (List ℕ)) (old new : K) → copying.Begins written finished (unwrap_or file []) old new
      → TakesFile file (state_of written finished old) (state_of written finished new) (Err Input)
  takes_input None old new h = nothing_begun old new h
  takes_input (Some bytes) old new h = record { prefix = h.prefix; same = h.unfinished }

  -- a file that was begun when its sink failed
  takes_output : (file : Option (List ℕ)) (old new : K) → copying.Begins written finished (unwrap_or file []) old new
      → TakesFile file (state_of written finished old) (state_of written finished new) (Err Output)
  takes_output None old new h = nothing_begun old new h
  takes_output (Some bytes) old new h = record { prefix = h.prefix; same = h.unfinished }

  -- a file of which nothing was written when memory ran out
  takes_memory : (file : Option (List ℕ)) (old new : K) → new ≡ old
      → TakesFile file (state_of written finished old) (state_of written finished new) (Err Memory)
  takes_memory None old new same = still old new same
  takes_memory (Some bytes) old new same = inl (still old new same)

  -- a file of which nothing was written when a judge failed
  takes_judge : (file : Option (List ℕ)) (old new : K) → new ≡ old
      → TakesFile file (state_of written finished old) (state_of written finished new) (Err Judge)
  takes_judge None old new same = still old new same
  takes_judge (Some bytes) old new same = still old new same

  -- a file that is whole, whatever came of the reply
  takes_whole : (bytes : List ℕ) (old new : K) (r : Result Reply Fault) → IfErr r (λ e. e ≡ Memory)
      → copying.Delivers written finished bytes old new
      → TakesFile (Some bytes) (state_of written finished old) (state_of written finished new) r
  takes_whole bytes old new (Ok reply) memory h = record { written = h.whole; is_finished = h.ends }
  takes_whole bytes old new (Err e) memory h =
      subst
      (λ (f : Fault). TakesFile (Some bytes) (state_of written finished old) (state_of written finished new) (Err f))
      (sym memory) (inr (record { written = h.whole; is_finished = h.ends }))

  -- an untouched sink under a fault
  pub takes_none : (file : Option (List ℕ)) (old new : K) (e : Fault) → new ≡ old → e ≢ Output
      → TakesFile file (state_of written finished old) (state_of written finished new) (Err e)
  takes_none file old new Input same other = takes_input file old new (begun_none (unwrap_or file []) old new same)
  takes_none file old new Output same other = absurd (other refl)
  takes_none file old new Judge same other = takes_judge file old new same
  takes_none file old new Memory same other = takes_memory file old new same

  -- what the sink took of a file, where the call writes just its bytes
  pub takes_file : (Writes : List ℕ → Type 0) (file : Option (List ℕ)) (old new : K) (e : Ending) (r : Result Reply Fault)
      → Writes (unwrap_or file []) → ((bytes : List ℕ) → Writes bytes → bytes ≡ unwrap_or file [])
      → HasWritten written finished Writes old new e
      → LeavesSink old new e → IsEndOf e r → FitsFile e file r
      → TakesFile file (state_of written finished old) (state_of written finished new) r
  takes_file Writes None old new complete r is one h left end fits = absurd (false≢true fits)
  takes_file Writes (Some bytes) old new complete r is one h left end fits =
      takes_whole bytes old new r end
      (subst (λ (l : List ℕ). copying.Delivers written finished l old new) (one h.0 h.1) h.2)
  takes_file Writes file old new read_fault r is one h left end fits =
      subst (TakesFile file (state_of written finished old) (state_of written finished new)) (sym end)
      (takes_input file old new (h (unwrap_or file []) is))
  takes_file Writes file old new write_fault r is one h left end fits =
      subst (TakesFile file (state_of written finished old) (state_of written finished new)) (sym end)
      (takes_output file old new (h (unwrap_or file []) is))
  takes_file Writes file old new untouched (Ok reply) is one h left end fits =
      subst
      (λ (x : Option (List ℕ)). TakesFile x (state_of written finished old) (state_of written finished new) (Ok reply))
      (sym fits) (still old new left)
  takes_file Writes file old new untouched (Err e) is one h left end fits = takes_none file old new e left end

-- ---- whether the file is finished

module _ {K : Type 0} (finished : K → Bool) where
  -- an untouched sink under a fault
  end_none : (old new : K) (e : Fault) → new ≡ old → finished new ≡ finished old → e ≢ Output
      → FileEnd (new ≡ old) (finished old) (finished new) (Err e)
  end_none old new Input same finish other = finish
  end_none old new Output same finish other = absurd (other refl)
  end_none old new Judge same finish other = same
  end_none old new Memory same finish other = inl same

  -- by the ending of the call
  pub file_end : (old new : K) (e : Ending) (r : Result Reply Fault) → copying.EndsSink finished old new e → IsEndOf e r
      → FitsAnswer e r → FileEnd (new ≡ old) (finished old) (finished new) r
  file_end old new complete (Ok reply) h end fits = ((λ done. h.finish), inl fits)
  file_end old new complete (Err e) h end fits =
      subst (λ (f : Fault). FileEnd (new ≡ old) (finished old) (finished new) (Err f)) (sym end) (inr h.finish)
  file_end old new read_fault r h end fits =
      subst (FileEnd (new ≡ old) (finished old) (finished new)) (sym end) h.finish
  file_end old new write_fault r h end fits =
      subst (FileEnd (new ≡ old) (finished old) (finished new)) (sym end) h.finish
  file_end old new untouched (Ok reply) h end fits = ((λ done. absurd (fits done)), inr h.leaves)
  file_end old new untouched (Err e) h end fits = end_none old new e h.leaves h.finish end

-- ---- the reply

-- a reply that is what is reported stands for the outcome with a file
pub stands_with : (o : Outcome) (file : Option (List ℕ)) (r : Result Reply Fault) (expected : Outcome)
    → expected ≡ with_file file o → IfOk r (λ reply. outcome_of reply ≡ o) → IfOk r (StandsFor expected [])
stands_with o file r expected is out = each_ok _ (StandsFor expected []) r
    (λ reply same. record { answer = ap (λ (x : Outcome). x.answer) is ∙ sym (ap (λ (x : Outcome). x.answer) same); report = ap (λ (x : Outcome). x.report) is ∙ sym (ap (λ (x : Outcome). x.report) same) })
    out

-- The causes of errors, from one step of a build to the next, by the kind of an error.
use Rattle.std.proofs.Common.{◌≡◌, ℕ, subst}
use Rattle.c2_build_refusals.proofs.Doing.{DoesNoMore, message_step, more_cause}
use Rattle.c2_build_refusals.proofs.Outside.{read_cause}
use Rattle.c2_build_refusals.specs.Kinds.{ErrorKind, IsReadKind, IsSourceCause, judge_effects, message_effects}
use Rattle.c2_build_plain.specs.Answers.{embed_effects, prepare_effects}

-- a step that asks judges is one before a file is written
pub asks_prepare : (Other : Type 0) (m n : ℕ) (k : ErrorKind) → IsSourceCause judge_effects Other m n k
    → IsSourceCause prepare_effects Other m n k
asks_prepare =
    more_cause judge_effects prepare_effects
    (record { message = λ h. tt; judges = λ h. h; writes = λ h. h; tables = λ h. h; older = λ h. h; other = λ h. h })

-- a step that looks at a message, and left the count of faults, is one before a file is written
pub message_stays : (m n : ℕ) (k : ErrorKind) → n ≡ m → IsReadKind message_effects n n k
    → IsSourceCause prepare_effects ⊥ m n k
message_stays m n k same h =
    subst (λ (i : ℕ). IsSourceCause prepare_effects ⊥ i n k) same
    (read_cause ⊥ prepare_effects n n k (message_step prepare_effects tt n n k h))

-- what is done before a file is written is done by what writes it
pub prepares : DoesNoMore prepare_effects embed_effects
prepares =
    record { message = λ h. h; judges = λ h. h; writes = λ h. tt; tables = λ h. h; older = λ h. h; other = λ h. h }

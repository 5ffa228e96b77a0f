-- The causes of errors, from one step of a build that collects to the next.
use Rattle.std.proofs.Common.{◌≡◌, ◌⊎◌, inl, inr, ℕ, subst}
use Rattle.c2_build_refusals.proofs.Doing.{DoesNoMore, message_step, more_cause}
use Rattle.std.specs.Prelude.{Err, IfErr, Ok, Result}
use Rattle.c2_build_refusals.proofs.Outside.{read_cause}
use Rattle.c2_build_refusals.specs.Kinds.{ErrorKind, IsMessageCause, IsReadKind, IsSourceCause, kind_of, message_effects}
use Rattle.c2_build_refusals.specs.declared.error.BuildError.{BuildError}
use Rattle.c2_build_collect_base.specs.Grounds.{ground_effects}
use Rattle.c2_build_collect.specs.Answers.{IsPrepareCause, embed_effects, prepare_effects}

-- what is done over both files is done before a file is written
pub ground_prepares : (Other : Type 0) (m n : ℕ) (k : ErrorKind) → IsSourceCause ground_effects Other m n k
    → IsSourceCause prepare_effects Other m n k
ground_prepares =
    more_cause ground_effects prepare_effects
    (record { message = λ h. tt; judges = λ h. h; writes = λ h. h; tables = λ h. h; older = λ h. h; other = λ h. h })

-- what looks at a message, and left the count of faults, is done before a file is written
message_stays : (Other : Type 0) (m n : ℕ) (k : ErrorKind) → n ≡ m → IsReadKind message_effects n n k
    → IsSourceCause prepare_effects Other m n k
message_stays Other m n k same h =
    subst (λ (i : ℕ). IsSourceCause prepare_effects Other i n k) same
    (read_cause Other prepare_effects n n k (message_step prepare_effects tt n n k h))

-- the result of what looks at a message, and left the count of faults, is one of what is done before a file is written
pub messages_stay : {T : Type 0} (Other : Type 0) (m n : ℕ) (r : Result T BuildError) → n ≡ m
    → IfErr r (IsMessageCause n n) → IfErr r (IsPrepareCause Other m n)
messages_stay Other m n (Ok x) same h = tt
messages_stay Other m n (Err e) same h = message_stays Other m n (kind_of e) same h

-- what is done before a file is written is done by what writes it
pub prepares : DoesNoMore prepare_effects embed_effects
prepares =
    record { message = λ h. h; judges = λ h. h; writes = λ h. tt; tables = λ h. h; older = λ h. h; other = λ h. h }

-- of three sources the first failed, or the last
pub first_or_third : {A B C : Type 0} → A ⊎ C → A ⊎ (B ⊎ C)
first_or_third (inl a) = inl a
first_or_third (inr c) = inr (inr c)

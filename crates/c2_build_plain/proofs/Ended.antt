-- What is answered, and what is written, once a new file is ready or isn't.
use Rattle.std.proofs.Common.{◌≡◌, ◌⊎◌, inl, inr, ℕ, Bool, List, Option, sym, ap, ◌∙◌, subst}
use Rattle.std.specs.Prelude.{Result, Ok, Err}
use Rattle.c2_lemmas.proofs.Stages.{then_first}
use Rattle.c2_base.specs.declared.values.Question.{Question}
use Rattle.c2_spec.specs.declared.digest.Alg.{Alg}
use Rattle.c2_spec.specs.declared.panel.Verdict.{Verdict}
use Rattle.c2_copying.specs.Writing.{Breaks, WritesFile, ending_of}
use Rattle.c2_copying.specs.declared.copying.CopyError.{CopyError}
use Rattle.c2_copying.specs.declared.copying.CopyError.TheVariants as copying
use Rattle.c2_build_writing.specs.Puts.{copy_fault_of}
use Rattle.c2_build_refusals.specs.Stages.{IsMediaRefused, IsMediaStage}
use Rattle.c2_build_refusals.specs.declared.error.BuildError.{BuildError}
use Rattle.c2_build_refusals.specs.declared.types.Embedded.{Embedded}
use Rattle.c2_build_plain.specs.Answers.{EmbedsFile, HasRange, Writes, file_of}
use Rattle.c2_build_plain.specs.Building.{Built, IsEmbedded}
use Rattle.c2_build_plain.specs.Steps.{IsReady}
use Rattle.c2_build_in_place.specs.Writings.{ready_file}
use Rattle.c2_build_in_place.specs.declared.writing.Ready.{Ready}
use Rattle.c2_build_in_place.proofs.Endings.{begun}
use Rattle.c2_build_plain.proofs.TheLaws.{a_build_comes_to_one_thing_embedding}

-- ---- the file is written

-- the range is that of the new file
pub range_is : {media : List ℕ} (r : Ready) (b : Built) (e : Embedded) → IsReady media r b → e.start ≡ r.draft.start
    → e.length ≡ r.draft.length → HasRange e b
range_is r b e is start len = record { start = start ∙ sym is.start; length = len ∙ sym is.len }

-- what is written is the new file, where the inputs come to one thing
same_file : (Is : Result Built BuildError → Type 0) → ((x y : Result Built BuildError) → Is x → Is y → x ≡ y)
    → (media : List ℕ) (r : Ready) (b : Built) (bytes : List ℕ) → Is (Ok b) → IsReady media r b → Writes Is bytes
    → ready_file r media ≡ bytes
same_file Is one media r b bytes is ready w = sym ready.file ∙ ap file_of (one (Ok b) w.0 is w.1) ∙ sym w.2

-- what is written where the new file was begun is the new file, or a prefix of it
pub broken_off : {K : Type 0} (written : K → Option (List ℕ)) (spare : K → Option ℕ) (finished : K → Bool)
    (hash : Alg → List ℕ → List ℕ) (said : Question → Verdict) (media definition message : List ℕ) (r : Ready)
    (b : Built) (old new : K) (e : CopyError) (f : BuildError) → f ≡ copy_fault_of e
    → IsEmbedded hash said media definition message (Ok b)
    → IsReady media r b → Breaks written spare finished (ready_file r media) old new (ending_of e)
    → EmbedsFile written spare finished hash said media definition message old new (Err f)
broken_off {K} written spare finished hash said media definition message r b old new e f same is ready h =
    subst (λ (x : BuildError). EmbedsFile written spare finished hash said media definition message old new (Err x))
    (sym same) (by e h)
  where
    one : (x y : Result Built BuildError) → IsEmbedded hash said media definition message x
        → IsEmbedded hash said media definition message y → x ≡ y
    one x y = a_build_comes_to_one_thing_embedding hash said media definition message x y

    wrote : (c : CopyError) → Breaks written spare finished (ready_file r media) old new (ending_of c)
        → WritesFile written spare finished (Writes (IsEmbedded hash said media definition message)) old new (ending_of c)
    wrote c k =
        begun written spare finished (Writes (IsEmbedded hash said media definition message)) (ready_file r media)
        (λ bytes w. same_file (IsEmbedded hash said media definition message) one media r b bytes is ready w) old
        new c k

    by : (c : CopyError) → Breaks written spare finished (ready_file r media) old new (ending_of c)
        → EmbedsFile written spare finished hash said media definition message old new (Err (copy_fault_of c))
    by copying.ReadFault k = record { answered = tt; wrote = wrote copying.ReadFault k; meets = tt }
    by copying.WriteFault k = record { answered = tt; wrote = wrote copying.WriteFault k; meets = tt }

-- ---- the definition

-- the bytes of the definition file are known where a new file was made
pub told_of_file :
    (hash : Alg → List ℕ → List ℕ) (said : Question → Verdict) (media definition message : List ℕ) (b : Built)
    → IsEmbedded hash said media definition message (Ok b) → {P : Type 0} → P ⊎ IsMediaRefused media → P
told_of_file hash said media definition message b is (inl told) = told
told_of_file hash said media definition message b is (inr refused) =
    let bad =
    a_build_comes_to_one_thing_embedding hash said media definition message (Ok b) (Err refused.0) is
    (then_first (IsMediaStage media) _ refused.0 refused.1) in
    absurd (cc (bad))

-- What is answered, and what is written, once a new file is ready or isn't.
use Rattle.c2_opening.proofs.TheLaws.{one_opening_file}
use Rattle.c2_collect_spec.proofs.TheLaws.{a_collected_build_comes_to_one_thing_made}
use Rattle.std.proofs.Common.{◌≡◌, ℕ, Bool, List, Option, Some, refl, sym, ap, ◌∙◌, subst}
use Rattle.std.specs.Prelude.{Result, Ok, Err}
use Rattle.c2_lemmas.proofs.Stages.{passed}
use Rattle.c2_base.specs.declared.values.Question.{Question}
use Rattle.c2_spec.specs.Jumbf.Tree.{Tree}
use Rattle.c2_spec.specs.Located.{Opening, refused, absent, here}
use Rattle.c2_spec.specs.declared.digest.Alg.{Alg}
use Rattle.c2_spec.specs.declared.panel.Verdict.{Verdict}
use Rattle.c2_rules.specs.Opened.{IsOpened}
use Rattle.c2_copying.specs.Writing.{Breaks, WritesFile, ending_of}
use Rattle.c2_copying.specs.declared.copying.CopyError.{CopyError}
use Rattle.c2_copying.specs.declared.copying.CopyError.TheVariants as copying
use Rattle.c2_build_writing.specs.Puts.{copy_fault_of}
use Rattle.c2_collect_spec.specs.Order.{CollectRefusal}
use Rattle.c2_collect_spec.specs.Outcomes.{IsCollectMade, NewFile}
use Rattle.c2_collect_spec.specs.Outcomes as collect
use Rattle.c2_build_refusals.specs.Stages.{IsDefinitionTold, IsMediaStage, MediaKind, fresh, stored}
use Rattle.c2_build_refusals.specs.declared.error.BuildError.{BuildError}
use Rattle.c2_build_refusals.specs.declared.types.Embedded.{Embedded}
use Rattle.c2_build_refusals.proofs.Inputs.{not_both_media, told_where_due}
use Rattle.c2_build_in_place.specs.Writings.{ready_file}
use Rattle.c2_build_in_place.specs.declared.writing.Ready.{Ready}
use Rattle.c2_build_in_place.proofs.Endings.{begun}
use Rattle.c2_build_collect.specs.Answers.{EmbedsCollected, HasRange, Writes, file_of}
use Rattle.c2_build_collect.specs.Steps.{IsReady}

-- ---- the file is written

-- the range is that of the new file
pub range_is : {media : List ℕ} (r : Ready) (b : NewFile) (e : Embedded) → IsReady media r b → e.start ≡ r.draft.start
    → e.length ≡ r.draft.length → HasRange b e
range_is r b e is start len = record { start = start ∙ sym is.start; length = len ∙ sym is.len }

-- what is written is the new file, where the inputs come to one thing
same_file : (Is : Result NewFile CollectRefusal → Type 0)
    → ((x y : Result NewFile CollectRefusal) → Is x → Is y → x ≡ y)
    → (media : List ℕ) (r : Ready) (b : NewFile) (bytes : List ℕ) → Is (Ok b) → IsReady media r b → Writes Is bytes
    → ready_file r media ≡ bytes
same_file Is one media r b bytes is ready w = sym ready.file ∙ ap file_of (one (Ok b) w.0 is w.1) ∙ sym w.2

-- what is written where the new file was begun is the new file, or a prefix of it
pub broken_off :
    {K : Type 0} (written : K → Option (List ℕ)) (spare : K → Option ℕ) (finished : K → Bool)
    (hash : Alg → List ℕ → List ℕ) (said : Question → Verdict) (media definition message other : List ℕ) (r : Ready)
    (b : NewFile) (old new : K) (e : CopyError) (f : BuildError)
    → f ≡ copy_fault_of e
    → IsCollectMade hash said media definition message other (Ok b) → IsReady media r b
    → Breaks written spare finished (ready_file r media) old new (ending_of e)
    → EmbedsCollected written spare finished hash said media definition message other old new (Err f)
broken_off {K} written spare finished hash said media definition message other r b old new e f same is ready h =
    subst
    (λ (x : BuildError). EmbedsCollected written spare finished hash said media definition message other old new (Err x))
    (sym same) (by e h)
  where
    one : (x y : Result NewFile CollectRefusal) → IsCollectMade hash said media definition message other x
        → IsCollectMade hash said media definition message other y → x ≡ y
    one x y p q =
        a_collected_build_comes_to_one_thing_made hash said media definition message other x y (one_opening_file media)
        (one_opening_file other) p q

    wrote : (c : CopyError) → Breaks written spare finished (ready_file r media) old new (ending_of c)
        → WritesFile written spare finished (Writes (IsCollectMade hash said media definition message other)) old new (ending_of c)
    wrote c k =
        begun written spare finished (Writes (IsCollectMade hash said media definition message other))
        (ready_file r media)
        (λ bytes w. same_file (IsCollectMade hash said media definition message other) one media r b bytes is ready w)
        old new c k

    by : (c : CopyError) → Breaks written spare finished (ready_file r media) old new (ending_of c)
        → EmbedsCollected written spare finished hash said media definition message other old new (Err (copy_fault_of c))
    by copying.ReadFault k = record { answered = tt; wrote = wrote copying.ReadFault k; meets = tt }
    by copying.WriteFault k = record { answered = tt; wrote = wrote copying.WriteFault k; meets = tt }

-- ---- what was told

-- a media file that isn't refused is of some kind
kind_stage : (media : List ℕ) (what : Opening Tree) → collect.IsMediaStage media (Ok what)
    → (k : MediaKind) × IsMediaStage media (Ok k)
kind_stage media what s = by s.0 s.1 s.2
  where
    by : (w : Opening Tree) → IsOpened media w
        → ◌≡◌ {A = Result (Opening Tree) CollectRefusal} (Ok what) (collect.media_stage w)
        → (k : MediaKind) × IsMediaStage media (Ok k)
    by (refused reason number) o e = absurd (cc (e))
    by absent o e = (fresh, (absent, o, refl))
    by (here start len t) o e = (stored start len t, (here start len t, o, refl))

-- the bytes of a definition file are told where a build came to a file
pub told_of_file :
    (hash : Alg → List ℕ → List ℕ) (said : Question → Verdict) (media definition message other : List ℕ) (b : NewFile)
    (known : Option (List ℕ))
    → IsCollectMade hash said media definition message other (Ok b)
    → IsDefinitionTold media known definition → known ≡ Some definition
told_of_file hash said media definition message other b known made told =
    let one = passed (collect.IsMediaStage media) _ b made in
    let k = kind_stage media one.value one.first in
    told_where_due told (λ refused. not_both_media media k.0 k.1 refused)

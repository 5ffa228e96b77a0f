-- What is answered, and what is written, once a new file is ready or isn't.
use Rattle.c2_opening.proofs.TheLaws.{one_opening_file}
use Rattle.std.proofs.Common.{◌≡◌, ℕ, ◌+◌, ◌≤◌, Bool, List, length, Option, refl, sym, ap, ◌∙◌, subst, arith}
use Rattle.std.specs.Prelude.{Result, Ok, Err}
use Rattle.std.specs.declared.option.Option.TheVariants.{Some}
use Rattle.c2_lemmas.proofs.Stages.{passed}
use Rattle.c2_spec.specs.Jumbf.Tree.{Tree}
use Rattle.c2_spec.specs.Located.{Opening, refused, absent, here}
use Rattle.c2_spec.specs.declared.digest.Alg.{Alg}
use Rattle.c2_rules.specs.Opened.{IsOpened}
use Rattle.c2_copying.specs.Writing.{Breaks, WritesFile, ending_of}
use Rattle.c2_copying.specs.declared.copying.CopyError.{CopyError}
use Rattle.c2_copying.specs.declared.copying.CopyError.TheVariants as copying
use Rattle.c2_build_refusals.specs.declared.types.Put.TheVariants as put
use Rattle.c2_build_writing.specs.Puts.{copy_fault_of, most_put}
use Rattle.c2_build_writing.proofs.TheLaws.{put_most}
use Rattle.c2_spec.specs.Bmff.Boxes.{box_bytes}
use Rattle.c2_spec.specs.Bmff.Writing.{c2pa_box}
use Rattle.c2_new_front_spec.specs.Order.{FrontRefusal}
use Rattle.c2_new_front_spec.specs.Outcomes.{IsFrontMade, IsMadeOver, IsOpenedOnce, NewFile}
use Rattle.c2_new_front_spec.specs.Outcomes as front
use Rattle.c2_build_refusals.specs.declared.error.BuildError.{BuildError}
use Rattle.c2_build_refusals.specs.Stages.{IsDefinitionTold, IsMediaStage, MediaKind, fresh, stored}
use Rattle.c2_build_refusals.proofs.Inputs.{not_both_media, told_where_due}
use Rattle.c2_build_refusals.specs.declared.types.Embedded.{Embedded}
use Rattle.c2_bmff_binding_front.specs.Putting.{range_of, with_store}
use Rattle.c2_build_in_place.proofs.Endings.{begun}
use Rattle.c2_build_front.specs.Answers.{EmbedsFront, HasRange, Writes, file_of}
use Rattle.c2_build_front.specs.Steps.{CanWrite, IsReady, front_file_len}
use Rattle.c2_build_front.specs.declared.ready.Ready.{Ready}

-- ---- the file is written

-- the range is that of the new file
pub range_is : {media : List ℕ} (r : Ready) (b : NewFile) (e : Embedded) → IsReady media r b → e.start ≡ r.front.place
    → e.length ≡ range_of r.front → HasRange b e
range_is r b e is start len = record { start = start ∙ sym is.start; length = len ∙ sym is.len }

-- what is written is the new file, where the inputs come to one thing
same_file : (Is : Result NewFile FrontRefusal → Type 0) → ((x y : Result NewFile FrontRefusal) → Is x → Is y → x ≡ y)
    → (media : List ℕ) (r : Ready) (b : NewFile) (bytes : List ℕ) → Is (Ok b) → IsReady media r b → Writes Is bytes
    → with_store r.front r.store media ≡ bytes
same_file Is one media r b bytes is ready w = sym ready.file ∙ ap file_of (one (Ok b) w.0 is w.1) ∙ sym w.2

-- what is written where the new file was begun is the new file, or a prefix of it
pub broken_off : {K : Type 0} (written : K → Option (List ℕ)) (spare : K → Option ℕ) (finished : K → Bool) (hash : Alg → List ℕ → List ℕ) (media definition message : List ℕ)
    → ((x y : Result NewFile FrontRefusal) → IsFrontMade hash media definition message x → IsFrontMade hash media definition message y → x ≡ y)
    → (r : Ready) (b : NewFile) (old new : K) (e : CopyError) (f : BuildError) → f ≡ copy_fault_of e
    → IsFrontMade hash media definition message (Ok b) → IsReady media r b
    → Breaks written spare finished (with_store r.front r.store media) old new (ending_of e)
    → EmbedsFront written spare finished hash media definition message old new (Err f)
broken_off {K} written spare finished hash media definition message one r b old new e f same is ready h =
    subst (λ (x : BuildError). EmbedsFront written spare finished hash media definition message old new (Err x))
    (sym same) (by e h)
  where
    Is : Result NewFile FrontRefusal → Type 0
    Is = IsFrontMade hash media definition message

    wrote : (c : CopyError) → Breaks written spare finished (with_store r.front r.store media) old new (ending_of c)
        → WritesFile written spare finished (Writes Is) old new (ending_of c)
    wrote c k =
        begun written spare finished (Writes Is) (with_store r.front r.store media)
        (λ bytes w. same_file Is one media r b bytes is ready w) old new c k

    by : (c : CopyError) → Breaks written spare finished (with_store r.front r.store media) old new (ending_of c)
        → EmbedsFront written spare finished hash media definition message old new (Err (copy_fault_of c))
    by copying.ReadFault k = record { answered = tt; wrote = wrote copying.ReadFault k; meets = tt }
    by copying.WriteFault k = record { answered = tt; wrote = wrote copying.WriteFault k; meets = tt }

-- ---- what was told

-- a media file is opened as one thing
pub opened_once : (media : List ℕ) → IsOpenedOnce media
opened_once media v w a b = one_opening_file media v w a b

-- one that isn't refused is of some kind
kind_stage : (media : List ℕ) (what : Opening Tree) → front.IsMediaStage media (Ok what)
    → (k : MediaKind) × IsMediaStage media (Ok k)
kind_stage media what s = by s.0 s.1 s.2
  where
    by : (w : Opening Tree) → IsOpened media w
        → ◌≡◌ {A = Result (Opening Tree) FrontRefusal} (Ok what) (front.media_stage w)
        → (k : MediaKind) × IsMediaStage media (Ok k)
    by (refused reason number) o e = absurd (cc (e))
    by absent o e = (fresh, (absent, o, refl))
    by (here start len t) o e = (stored start len t, (here start len t, o, refl))

-- the bytes of a definition file are told where a build came to a file
pub told_of_file :
    (hash : Alg → List ℕ → List ℕ) (media definition message : List ℕ) (b : NewFile) (known : Option (List ℕ))
    → IsFrontMade hash media definition message (Ok b) → IsDefinitionTold media known definition
    → known ≡ Some definition
told_of_file hash media definition message b known made told =
    let one = passed (front.IsMediaStage media) (IsMadeOver hash media definition message) b made in
    let k = kind_stage media one.value one.first in
    told_where_due told (λ refused. not_both_media media k.0 k.1 refused)

-- ---- how long the new file is

-- what is ready over media of this length isn't longer than that and the longest that is put in
pub front_most : (len : ℕ) (r : Ready) → CanWrite len r → front_file_len r.front r.store ≤ len + most_put
front_most len r h =
    let most : length (box_bytes (c2pa_box r.store)) ≤ most_put = put_most put.Box r.store h.store in
    omega (arith, h.fits.size, most)

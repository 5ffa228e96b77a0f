-- What was read of a media file, as a film without a store.
use Rattle.std.proofs.Common.{◌≡◌, ℕ, true, false, List, [], Option, None, sym, ap, ◌∙◌, subst, All}
use Rattle.std.specs.Prelude.{Result, Ok, is_some}
use Rattle.std.specs.declared.option.Option.TheVariants.{Some}
use Rattle.c2_spec.specs.Container.{begins_jpeg, is_bmff}
use Rattle.c2_spec.specs.Jumbf.Tree.{Tree}
use Rattle.c2_spec.specs.Located.{Opening}
use Rattle.c2_bmff_rows.specs.Rows.{IsBoxWithin}
use Rattle.c2_bmff_rows.specs.declared.row.RootBox.{RootBox}
use Rattle.c2_bmff_boxes.specs.Roots.{AreRootsOf}
use Rattle.c2_container.specs.Contained.{HasRootsInside, IsContainerOf}
use Rattle.c2_container.specs.declared.types.Container.{Container}
use Rattle.c2_container.specs.declared.types.Container.TheVariants.{Jpeg, Bmff}
use Rattle.c2_new_front_spec.specs.Order.{bmff_refusals}
use Rattle.c2_build_base.specs.Grounds.{IsOlder}
use Rattle.c2_build_base.specs.declared.media.OlderStore.{OlderStore}
use Rattle.c2_build_refusals.specs.Stages.{MediaKind, media_stage}
use Rattle.c2_build_refusals.specs.declared.error.BuildError.{BuildError}
use Rattle.c2_build_refusals.specs.declared.error.BuildError.TheVariants.{HasStore}
use Rattle.c2_build_front.proofs.Stages.{bmff_passes, store_first}
use Rattle.c2_build_front.specs.Steps.{IsFirstError}

-- a container without root boxes is that of a JPEG file
pub jpeg_of : (file : List ℕ) (c : Container) → ((roots : List RootBox) → c ≡ Bmff roots → ⊥) → IsContainerOf file c
    → begins_jpeg file ≡ true
jpeg_of file Jpeg other is = is
jpeg_of file (Bmff roots) other is = absurd (other roots (λ i. Bmff roots))

-- one with root boxes is that of a BMFF file, which has them
pub boxes_of : (file : List ℕ) (c : Container) (roots : List RootBox) → c ≡ Bmff roots → IsContainerOf file c
    → (is_bmff file ≡ true) × AreRootsOf file roots
boxes_of file c roots same is = subst (IsContainerOf file) same is

-- the root boxes of a BMFF file end inside the file
pub inside_of : (len : ℕ) (c : Container) (roots : List RootBox) → c ≡ Bmff roots → HasRootsInside len c
    → All (IsBoxWithin len) roots
inside_of len c roots same is = subst (HasRootsInside len) same is

-- where a store was read, the film has it already
pub bmff_refused : (file : List ℕ) (o : Option OlderStore) (kind : MediaKind) (what : Opening Tree)
    → is_bmff file ≡ true → is_some o ≡ true → IsOlder o kind
    → ◌≡◌ {A = Result MediaKind BuildError} (Ok kind) (media_stage what)
    → IsFirstError (bmff_refusals file what) HasStore
bmff_refused file None kind what film some older e = absurd (cc (some))
bmff_refused file (Some o) kind what film some older e =
    store_first file what o.range.start o.range.length o.tree film (let same : ◌≡◌ {A = Result MediaKind BuildError} _ _ = ap Ok older in sym same ∙ e)

-- where none was, nothing is refused of it
pub bmff_free : (file : List ℕ) (o : Option OlderStore) (kind : MediaKind) (what : Opening Tree) → is_bmff file ≡ true
    → is_some o ≡ false → IsOlder o kind → ◌≡◌ {A = Result MediaKind BuildError} (Ok kind) (media_stage what)
    → bmff_refusals file what ≡ []
bmff_free file None kind what film none older e =
    bmff_passes file what film (let same : ◌≡◌ {A = Result MediaKind BuildError} _ _ = ap Ok older in sym same ∙ e)
bmff_free file (Some o) kind what film none older e = absurd (cc (none))

-- A built file without its new store.
use Rattle.c2_opening.proofs.TheLaws.{one_opening_file}
use Rattle.std.proofs.Common.{◌≡◌, ℕ, List, Ok, refl, sym, ap, ◌∙◌, subst}
use Rattle.c2_spec.specs.Container.{IsLocated}
use Rattle.c2_spec.specs.Located.{absent}
use Rattle.c2_spec.specs.PutIn.{taken_out}
use Rattle.c2_new_file_spec.specs.Places.{IsPlace}
use Rattle.c2_build_refusals.specs.Stages.{IsMediaStage, MediaKind, fresh, media_stage}
use Rattle.c2_build_plain.specs.Meeting.{KeepsBytes}
use Rattle.c2_strip.specs.Stripping.{HasEmbedded}
use Rattle.c2_build_plain.specs.Restored.{BuiltIsRestored, new_range}
use Rattle.c2_build_plain.proofs.Containers.{opened_range}
use Rattle.c2_build_plain.proofs.Placing.{not_middle}

-- a media file without a store is one to a build
fresh_kind : (media : List ℕ) (kind : MediaKind) → IsLocated media absent → IsMediaStage media (Ok kind) → kind ≡ fresh
fresh_kind media kind none h =
    let same : h.0 ≡ absent = one_opening_file media h.0 absent h.1 (absent, none, refl) in
    let is = h.2 ∙ ap media_stage same in
    cc (is)

-- without its new range it is the media
pub restored : BuiltIsRestored
restored hash said media definition message b m none =
    let w = m.written in
    let rest : List ℕ = taken_out b.start b.len b.file in
    let kind : w.kind ≡ fresh = fresh_kind media w.kind none w.opened in
    let left : rest ≡ media = subst (λ (k : MediaKind). KeepsBytes media k rest) kind m.kept in
    let place : IsPlace media w.place = subst (λ (x : List ℕ). IsPlace x w.place) (sym m.base ∙ left) w.placed in
    let there : HasEmbedded b.file (new_range b) = opened_range b.file b.start b.len m.store m.meets.opened in
    record {
      strips = (there, not_middle media b.file b.start b.len there.0 w.place place m.begins left there.1);
      left = left;
    }

-- A file of a new store that collects from two files is what a build comes to over files that are read so.
use Rattle.std.proofs.Common.{◌≡◌, ℕ, List, [], ◌++◌, length, refl, sym, ap, ◌∙◌}
use Rattle.std.specs.Prelude.{Result, Ok}
use Rattle.c2_lemmas.proofs.Stages.{then_next, unless_passes}
use Rattle.c2_lemmas.proofs.Lists.{both_none, none_both}
use Rattle.c2_base.specs.declared.values.Question.{Question}
use Rattle.c2_spec.specs.Jumbf.Tree.{Tree}
use Rattle.c2_spec.specs.Located.{Opening, absent, here, refused}
use Rattle.c2_spec.specs.declared.digest.Alg.{Alg}
use Rattle.c2_spec.specs.declared.panel.Verdict.{Verdict}
use Rattle.c2_rules.specs.Opened.{IsOpened}
use Rattle.c2_definition.specs.declared.types.Definition.{Definition}
use Rattle.c2_new_file_spec.specs.Places.{place_file, place_start, range_len}
use Rattle.c2_collect_spec.specs.Made.{CollectedIsMade}
use Rattle.c2_collect_spec.specs.Order.{CollectRefusal, FilePair, IsFilePair, IsMediaFile, MediaFile}
use Rattle.c2_collect_spec.specs.Order.{joined_refusals, other_refusals, pair_refusals, parent_refusals, reserve_refusals}
use Rattle.c2_collect_spec.specs.Outcomes.{CollectGround, IsDefinitionStage, IsGroundStage, IsJoinedStage, IsMadeOn, IsMadeOver, IsMediaStage, IsMessageStage, IsNewFile, IsOtherStage}
use Rattle.c2_collect_spec.specs.Outcomes.{IsPairStage, IsParentStage, NewFile, ground_refusals, media_stage, new_file}
use Rattle.c2_collect_spec.proofs.Order.{file_unrefused, pair_unrefused, reserve_unrefused}

-- a media file that is something to a new store passes
media_passes :
    (hash : Alg → List ℕ → List ℕ) (said : Question → Verdict) (media : List ℕ) (what : Opening Tree) (m : MediaFile)
    → IsOpened media what → IsMediaFile hash said media what m
    → IsMediaStage media (Ok what)
media_passes hash said media what m opened is = (what, opened, by what is)
  where
    by : (w : Opening Tree) → IsMediaFile hash said media w m
        → ◌≡◌ {A = Result (Opening Tree) CollectRefusal} (Ok w) (media_stage w)
    by (refused reason number) k = absurd k
    by absent k = refl
    by (here start len t) k = refl

-- two files of which nothing is refused pass
pair_passes : (hash : Alg → List ℕ → List ℕ) (said : Question → Verdict) (media other : List ℕ) (d : Definition) (p : FilePair) (is : IsFilePair hash said media other p)
    → pair_refusals d p ≡ [] → IsPairStage hash said media other is.opened d (Ok p)
pair_passes hash said media other d p is none =
    let own = both_none (parent_refusals p.media) _ none in
    let theirs = both_none (other_refusals p.other.answer) (joined_refusals d p) own.1 in
    then_next (IsParentStage hash said media is.opened) _ p.media (Ok p)
    (p.media, is.is_media, unless_passes (parent_refusals p.media) (λ r. r ≡ Ok p.media) (Ok p.media) own.0 refl)
    (then_next (IsOtherStage hash said other) (IsJoinedStage d p.media) p.other (Ok p)
    (is.found, is.is_found, (p.other, is.is_other, unless_passes (other_refusals p.other.answer) (λ r. r ≡ Ok p.other) (Ok p.other) theirs.0 refl))
    (p.clash, is.is_clash, unless_passes (joined_refusals d p) (λ r. r ≡ Ok p) (Ok p) theirs.1 refl))

-- a file that collects is made where nothing is refused
pub collected_made : CollectedIsMade
collected_made hash said media definition message other d pair parts p file defined accepted spelled is b =
    then_next (IsMediaStage media) _ is.opened (Ok new)
    (media_passes hash said media is.opened pair.media is.is_opened is.is_media)
    (then_next (IsDefinitionStage definition) _ d (Ok new) (Ok d, defined, refl)
    (then_next (IsMessageStage d.protected message) _ parts (Ok new) (Ok parts, (accepted, spelled), refl)
    (then_next (IsPairStage hash said media other is.opened d) (IsMadeOver hash d parts) pair (Ok new)
    (pair_passes hash said media other d pair is (pair_unrefused hash said d media other pair is b.collects))
    (then_next (IsGroundStage d pair) (IsMadeOn hash d parts) g (Ok new) (b.content, b.collected.content, (p, b.can.place.is, refl))
    (unless_passes (ground_refusals d g ++ reserve_refusals d parts) (IsNewFile hash d parts g) (Ok new)
    (none_both (ground_refusals d g) (reserve_refusals d parts) (file_unrefused hash d pair parts p file b) (reserve_unrefused hash d pair parts p file b))
    (b.message, b.signed, (b.bytes, b.put, same)))))))
  where
    g : CollectGround
    g = record { pair = pair; content = b.content; place = p }

    new_of : List ℕ → ℕ → NewFile
    new_of f n = record { file = f; start = place_start p; len = range_len p b.content n }

    new : NewFile
    new = new_of file d.reserve

    same : ◌≡◌ {A = Result NewFile CollectRefusal} (Ok new) (Ok (new_file g (length b.message) b.bytes))
    same =
        ap (λ (f : List ℕ). Ok (new_of f d.reserve)) b.is
        ∙ ap (λ n. Ok (new_of (place_file pair.media.base p b.bytes) n)) (sym b.signed.filled)

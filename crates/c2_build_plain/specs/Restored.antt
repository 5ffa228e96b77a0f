-- What a built file comes to without its new store (C2PA Technical Specification 2.x, embedding manifests into assets).
use Rattle.std.specs.Prelude.{◌≡◌, ℕ, List}
use Rattle.c2_base.specs.declared.values.Question.{Question}
use Rattle.c2_base.specs.declared.values.Range.{Range}
use Rattle.c2_spec.specs.Container.{IsLocated}
use Rattle.c2_spec.specs.Located.{absent}
use Rattle.c2_spec.specs.declared.digest.Alg.{Alg}
use Rattle.c2_spec.specs.declared.panel.Verdict.{Verdict}
use Rattle.c2_strip.specs.Stripping.{StripsTo, stripped}
use Rattle.c2_strip.specs.declared.error.Stripped.TheVariants.{Done}
use Rattle.c2_build_plain.specs.Building.{Built}
use Rattle.c2_build_plain.specs.Meeting.{BuiltMeets}

-- the range of the new store in a built file
abbrev pub new_range : Built → Range
new_range b = record { start = b.start; length = b.len }

-- A built file is stripped of its new store, and what is left of it is the media, byte for byte.
pub record Restores (b : Built) (media : List ℕ) : Type 0 where
  pub strips : StripsTo b.file (Done (new_range b))
  pub left : stripped (new_range b) b.file ≡ media

-- Each file that meets what a new file does is stripped of its new store, and the media is left of it, where that has no store.
abbrev pub BuiltIsRestored : Type 0
BuiltIsRestored = (hash : Alg → List ℕ → List ℕ) (said : Question → Verdict) (media definition message : List ℕ) (b : Built)
    → BuiltMeets hash said media definition message b → IsLocated media absent → Restores b media

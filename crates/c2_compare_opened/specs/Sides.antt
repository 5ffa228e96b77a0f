-- Accepted media files, as they are compared.
use Rattle.std.specs.Prelude.{◌≡◌, ℕ, List}
use Rattle.c2_base.specs.declared.values.Question.{Question}
use Rattle.c2_spec.specs.declared.digest.Alg.{Alg}
use Rattle.c2_spec.specs.declared.panel.Verdict.{Verdict}
use Rattle.c2_rules.specs.CheckList.{StoreReading}
use Rattle.c2_rules.specs.Readings.{Reading}
use Rattle.c2_rules.specs.declared.answer.Summary.{Summary}
use Rattle.c2_compare_spec.specs.Accepted.{IsAccepted, summary_in}
use Rattle.c2_compare_spec.specs.ChainContent.{covered_text}
use Rattle.c2_compare_spec.specs.Differences.{covered_alg}
use Rattle.c2_cover.specs.Covers.{text_of}
use Rattle.c2_hard_binding.specs.declared.bound.BoundText.{BoundText}
use Rattle.c2_compare_opened.specs.declared.sides.Sided.{Sided}

-- A file is accepted; its manifests were read so, the binding of its active manifest covers this text, and this was counted of it.
pub record IsCompareSide (hash : Alg → List ℕ → List ℕ) (said : Question → Verdict)
    (file : List ℕ) (rs : List Reading) (text : BoundText) (summary : Summary) : Type 0 where
  pub store : StoreReading
  pub accepted : IsAccepted hash said file store
  pub readings : store.readings ≡ rs
  pub is_text : text_of text.cover file ≡ covered_text store
  pub is_alg : text.alg ≡ covered_alg store
  pub counted : summary ≡ summary_in file store accepted.opened

-- this is a side of a comparison, that of a file with these bytes
abbrev pub IsSided : (Alg → List ℕ → List ℕ) → (Question → Verdict) → List ℕ → Sided → Type 0
IsSided hash said file side =
    IsCompareSide hash said file side.readings.now side.text.now side.summary

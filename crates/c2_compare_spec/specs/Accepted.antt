-- Media files whose check lists hold, and pairs of them with one active claim.
use Rattle.std.specs.Prelude.{◌≡◌, ℕ, List, length}
use Rattle.c2_base.specs.declared.values.Question.{Question}
use Rattle.c2_spec.specs.Jumbf.Tree.{Tree}
use Rattle.c2_spec.specs.Located.{here}
use Rattle.c2_spec.specs.declared.digest.Alg.{Alg}
use Rattle.c2_spec.specs.declared.panel.Verdict.{Verdict}
use Rattle.c2_rules.specs.CheckList.{StoreReading, IsValid, summary_of}
use Rattle.c2_rules.specs.Opened.{IsOpened}
use Rattle.c2_rules.specs.Validated.{IsFileReading}
use Rattle.c2_rules.specs.declared.answer.Summary.{Summary}
use Rattle.c2_compare_spec.specs.ChainContent.{SameContent, active_claim, covered_text}

-- A file is opened as a store, which is read so (C2PA Technical Specification 2.x, "Manifest
-- store").
pub record IsOpenedAs (file : List ℕ) (s : StoreReading) : Type 0 where
  pub start : ℕ
  pub len : ℕ
  pub tree : Tree
  pub is_opened : IsOpened file (here start len tree)
  pub reads : IsFileReading file tree s

-- A file is accepted: it is opened as a store, and every condition of the check list holds
-- ("Validation").
pub record IsAccepted (hash : Alg → List ℕ → List ℕ) (said : Question → Verdict) (file : List ℕ)
    (s : StoreReading) : Type 0 where
  pub opened : IsOpenedAs file s
  pub valid : IsValid hash said s

-- what is counted of a file that is opened as a store
abbrev pub summary_in : (file : List ℕ) (s : StoreReading) → IsOpenedAs file s → Summary
summary_in file s o = summary_of (length file) o.start o.len s

-- Two files are accepted, and their active claims are equal lists of bytes.
pub record HaveOneClaim (hash : Alg → List ℕ → List ℕ) (said : Question → Verdict)
    (first second : List ℕ) (s t : StoreReading) : Type 0 where
  pub first_accepted : IsAccepted hash said first s
  pub second_accepted : IsAccepted hash said second t
  pub claims : active_claim s.readings ≡ active_claim t.readings

-- Two stores have the same chain content, and the files the same covered text, byte for byte.
pub record AreSame (s t : StoreReading) : Type 0 where
  pub content : SameContent s.readings t.readings
  pub covered : covered_text s ≡ covered_text t

-- What is counted of a store.
use Rattle.std.specs.Prelude.{ℕ, Bool, false, not, List, Option, Some, None, length, filter}
use Rattle.c2_spec.specs.C2pa.Manifest.{Manifest}
use Rattle.c2_spec.specs.Cover.{covered_count, outside_count}
use Rattle.c2_spec.specs.declared.cbor.Ref.{Ref}
use Rattle.c2_rules.specs.Chains.{entry_label}
use Rattle.c2_rules.specs.CheckList.{kept_labels, reached_places}
use Rattle.c2_rules.specs.Readings.{Reading}
use Rattle.c2_rules.specs.Rules.{labels_in}
use Rattle.c2_rules.specs.Tests.{downward}
use Rattle.c2_rules.specs.declared.answer.Summary.{Summary}
use Rattle.c2_cover.specs.Covers.{Covered, excluded_of}

-- a label, where there is one, isn't redacted
abbrev pub keeps_label : (List ℕ → Bool) → Option (List ℕ) → Bool
keeps_label redacted None = false
keeps_label redacted (Some label) = not (redacted label)

-- an entry lists a label that isn't redacted
abbrev pub keeps : (List ℕ → Bool) → Manifest → Ref → Bool
keeps redacted m e = keeps_label redacted (entry_label m e)

-- the labels of a manifest that aren't redacted
abbrev pub kept_in : (List ℕ → Bool) → Reading → List (List ℕ)
kept_in redacted r = filter (λ (label : List ℕ). not (redacted label)) (labels_in r)

-- how many entries of reached manifests list a label that isn't redacted
abbrev pub label_count : List Reading → ℕ
label_count rs = length (downward (kept_labels rs) (length rs))

-- the four numbers, where the binding covers this
abbrev pub summary_by : List Reading → Covered → ℕ → ℕ → Summary
summary_by rs c start len = record {
  manifests = length (reached_places rs);
  assertions = label_count rs;
  covered = covered_count (excluded_of c) c.size;
  outside = outside_count (excluded_of c) start len;
}

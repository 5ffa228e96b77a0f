-- Sets of labels.
use Rattle.std.specs.Prelude.{ℕ, List, Bool}
use Rattle.std.specs.BTreeSet.{contains_text}
use Rattle.c2_label_index.specs.declared.labels.Labels.{Labels}

-- a label is in the set
abbrev pub is_among : Labels → List ℕ → Bool
is_among s label = contains_text s.texts label

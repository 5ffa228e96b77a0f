-- Which lists of two manifests with one label are equal.
use Rattle.std.specs.Prelude.{ℕ, ◌+◌, nat_lt, List, Option, Some, None, bytes_eq, length, map, if◌then◌else◌}
use Rattle.c2_rules.specs.Chains.{label_in, place_of}
use Rattle.c2_rules.specs.Readings.{Reading}
use Rattle.c2_compare_spec.specs.Differences.{other_named, signature_box, claim_list, whole_contents}
use Rattle.c2_compare_content.specs.declared.targets.Equality.{Equality}

-- a place that isn't the last of so many
abbrev pub before : ℕ → Option ℕ → Option ℕ
before count None = None
before count (Some m) = if nat_lt (m + 1) count then Some m else None

-- the place of the manifest with this label among those that aren't active
abbrev pub other_place : List Reading → List ℕ → Option ℕ
other_place rs label = before (length rs) (place_of rs label)

-- which lists of two manifests are equal, where one that isn't there has empty ones
abbrev pub equality_of : Option Reading → Option Reading → Equality
equality_of target other = record {
  signatures = bytes_eq (signature_box target).contents (signature_box other).contents;
  claims = bytes_eq (claim_list target) (claim_list other);
  contents = bytes_eq (whole_contents target) (whole_contents other);
}

-- which lists are equal of each manifest of the first store and the one of the second with its label
abbrev pub equalities : List Reading → List Reading → List Equality
equalities rs ss = map (λ (r : Reading). equality_of (Some r) (other_named ss (label_in r))) rs

-- What is printed of a pair of lists.
use Rattle.std.specs.Prelude.{ℕ, List}
use Rattle.c2_compare_spec.specs.Evidence.{BoundBy, by_digest, by_signature, ListPair}

-- What is printed of what binds two lists: the name of an algorithm, or the contents of a signature box.
pub data ShownBy : Type 0 where
  by_name : List ℕ → ShownBy
  by_box : List ℕ → ShownBy

-- what is printed of it
abbrev pub shown_by : BoundBy → ShownBy
shown_by (by_digest name) = by_name name
shown_by (by_signature box) = by_box box.contents

-- What is printed of a pair.
pub record ShownPair : Type 0 where
  pub bound_by : ShownBy
  pub location : List ℕ
  pub left : List ℕ
  pub right : List ℕ

-- what is printed of this pair
abbrev pub shown : ListPair → ShownPair
shown p = record {
  bound_by = shown_by p.bound_by;
  location = p.location;
  left = p.left;
  right = p.right;
}

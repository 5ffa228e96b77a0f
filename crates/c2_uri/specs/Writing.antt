-- Which URIs have a text that is read as that URI again.
use Rattle.std.specs.Prelude.{◌≡◌, ◌≢◌, ℕ, true, false, List, [], ◌++◌, IsSome, ⊤}
use Rattle.std.specs.declared.option.Option.{Option}
use Rattle.std.specs.Option.{ForSome}
use Rattle.c2_spec.specs.C2pa.Uri.{PlainTarget, whole, assertion, signature, other, PlainUri, is_one_label, has_empty_label, signature_path, assertions_path}

-- a label that can be written: it isn't empty, and no `/` is in it
pub record IsLabel (label : List ℕ) : Type 0 where
  pub some : label ≢ []
  pub one : is_one_label label ≡ true

-- a path of labels that is neither a signature's nor an assertion's
pub record IsOtherPath (path : List ℕ) : Type 0 where
  pub labels : has_empty_label path ≡ false
  pub no_signature : path ≢ signature_path
  pub no_assertion : (label : List ℕ) → is_one_label label ≡ true → path ≢ assertions_path ++ label

-- what a URI names can be written: its labels can, and the whole only of a manifest that is named
abbrev pub IsWritableTarget : Option (List ℕ) → PlainTarget → Type 0
IsWritableTarget manifest whole = IsSome manifest
IsWritableTarget manifest (assertion label) = IsLabel label
IsWritableTarget manifest signature = ⊤
IsWritableTarget manifest (other path) = IsOtherPath path

-- a URI that can be written: it isn't relative and whole, its labels aren't empty and have no `/`, and a path that it names
-- is neither a signature's nor an assertion's
pub record IsWritable (u : PlainUri) : Type 0 where
  pub manifest : ForSome u.manifest IsLabel
  pub target : IsWritableTarget u.manifest u.target

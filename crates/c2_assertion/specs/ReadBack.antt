-- Which exclusions are read again of the items that they are written as.
use Rattle.std.specs.Prelude.{◌≡◌, ◌≢◌, List, [], false, Some}
use Rattle.c2_spec.specs.Bmff.Hash.{Exclusion}
use Rattle.c2_spec.specs.Bmff.Paths.{PathStep, enters_other, path_of, steps_text}

-- the path is read of its text, as each is that was read of one
abbrev pub HasText : List PathStep → Type 0
HasText path = path_of (steps_text path) ≡ Some path

-- the path enters no box that none may enter, and a subset has a part: without one it isn't the form of a subset
pub record CanBeRead (e : Exclusion) : Type 0 where
  pub enters : enters_other e.path ≡ false
  pub parts : e.subset ≢ Some []

-- the exclusion is read again of its item: its path is read of its text, enters no box that none may enter, and a subset has a part
pub record IsReadable (e : Exclusion) : Type 0 where
  pub path : HasText e.path
  pub rest : CanBeRead e

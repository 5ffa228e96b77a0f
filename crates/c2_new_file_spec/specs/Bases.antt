-- What is left of a media file once its store is taken away, by the file's container: a new store is put into that.
use Rattle.std.specs.Prelude.{◌≡◌, ℕ, List}
use Rattle.std.specs.Bool.{MatchBool}
use Rattle.c2_spec.specs.Bmff.Boxes.{Box}
use Rattle.c2_spec.specs.Bmff.Writing.{IsBmffBase}
use Rattle.c2_spec.specs.Container.{is_bmff}
use Rattle.c2_spec.specs.PutIn.{taken_out}

-- the base of a BMFF file, whichever root boxes it has
abbrev pub IsLeftOfBoxes : List ℕ → List ℕ → Type 0
IsLeftOfBoxes media base = (roots : List Box) × IsBmffBase media base roots

-- what is left of a media file whose store stands in this range: a BMFF file less the box, or with the box freed; another less the range
abbrev pub IsLeft : List ℕ → ℕ → ℕ → List ℕ → Type 0
IsLeft media start len base =
    MatchBool (is_bmff media) (IsLeftOfBoxes media base) (base ≡ taken_out start len media)

-- Texts of paths, and for private clauses the numbers in their brackets.
use Rattle.std.specs.Prelude.{◌≡◌, ℕ, List, not, ◌&&◌, ◌==◌, get_or, nat_le, if◌then◌else◌, Option, Some, None}
use Rattle.std.specs.Char.{is_ascii_digit}
use Rattle.std.specs.List.{list_all}
use Rattle.std.specs.Str.Parse.{digits_value}
use Rattle.c2_spec.specs.Bmff.Paths.{PathStep, max_child_index, path_of, steps_text}

-- the number that these digits write, where it may stand in brackets
abbrev pub number_of_digits : List ℕ → Option ℕ
number_of_digits digits =
    if list_all is_ascii_digit digits && not (get_or digits 0 0x30 == 0x30)
    && nat_le 1 (digits_value 10 digits) && nat_le (digits_value 10 digits) max_child_index
    then Some (digits_value 10 digits)
    else None

-- the text is how the path is written, and is read as the path
abbrev pub IsPathText : List PathStep → List ℕ → Type 0
IsPathText steps text = (text ≡ steps_text steps) × (path_of text ≡ Some steps)

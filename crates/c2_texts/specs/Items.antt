-- For private clauses: texts that are appended, and the items of an array of JSON, for the loops that write them.
use Rattle.std.specs.Prelude.{◌≡◌, ℕ, ◌==◌, ◌||◌, not, nat_lt, String, string_bytes, List, [], ◌∷◌, ◌++◌, Bool, true}
use Rattle.serde_json.specs.Data.{Data}
use Rattle.serde_json.specs.Written.{compact_text, comma_if}

-- the texts of items with the commas between them, without the brackets; `later` says that others stand before them
abbrev pub items_inside : Bool → List Data → List ℕ
items_inside later [] = []
items_inside later (d ∷ ds) = comma_if later ++ (compact_text d ++ items_inside true ds)

-- the string has gained this text at its end
abbrev pub Appends : {R : Type 0} → String R → String R → List ℕ → Type 0
Appends old new text = string_bytes new ≡ string_bytes old ++ text

-- The string has gained these items at its end. `before` and `later` say whether the array had an item before, and has one now:
-- whatever follows, the text goes on as if these items stood before it.
abbrev pub AppendsItems : {R : Type 0} → Bool → Bool → String R → String R → List Data → Type 0
AppendsItems before later old new items = (rest : List Data) → string_bytes new ++ items_inside later rest ≡ string_bytes old ++ items_inside before (items ++ rest)

-- a byte that JSON lets stand in a string as it is: no control byte below 0x20, no quotation mark and no backslash
abbrev pub is_plain : ℕ → Bool
is_plain b = not (nat_lt b 0x20 || b == 0x22 || b == 0x5C)

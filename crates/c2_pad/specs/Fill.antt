-- How a signed message is made longer by a wanted number of bytes: entries `pad` and `pad2` of zero bytes in its unprotected
-- header (C2PA Technical Specification 2.x, on signing a claim). Which of the fills that cost as much is taken, is this
-- project's own choice.
use Rattle.std.specs.Prelude.{◌≡◌, ◌≢◌, ◌⊎◌, ℕ, ◌-◌, ◌<◌, ◌≤◌, ◌==◌, nat_le, List, length, replicate, codes, Some, None, MatchOption, if◌then◌else◌}
use Rattle.std.specs.declared.option.Option.{Option}
use Rattle.c2_spec.specs.Cbor.Item.{text, bytes, Pairs, no_pairs, pair}
use Rattle.c2_spec.specs.Cbor.Deterministic.{preferred_pairs}
use Rattle.c2_pad.specs.declared.types.Fill.{Fill}
use Rattle.c2_pad.specs.declared.types.TheConstants.{MAX_FILL}

-- ---- what a fill costs

-- these pairs, and before them an entry of so many zero bytes under this key, where it is there
abbrev pub zeros_before : List ℕ → Option ℕ → Pairs → Pairs
zeros_before key None ps = ps
zeros_before key (Some n) ps = pair (text key) (bytes (replicate n 0)) ps

-- the entries of a fill
abbrev pub fill_pairs : Fill → Pairs
fill_pairs f = zeros_before (codes "pad") f.pad (zeros_before (codes "pad2") f.pad2 no_pairs)

-- how many bytes they have where they are written: where the header has at most 21 entries before, the number of its entries
-- is still told in one byte, and the message is longer by just these
abbrev pub fill_cost : Fill → ℕ
fill_cost f = length (preferred_pairs (fill_pairs f))

-- ---- which fill is taken

-- `pad` alone
abbrev pub one_entry : ℕ → Option Fill
one_entry n = Some (record { pad = Some n; pad2 = None })

-- `pad`, and an empty `pad2`
abbrev pub two_entries : ℕ → Option Fill
two_entries n = Some (record { pad = Some n; pad2 = Some 0 })

-- the fill of a need. Where one more zero byte makes the head of `pad` longer, the cost passes over a number: then the second
-- entry is taken
unfoldable pub fill_of : ℕ → Option Fill
fill_of need =
    if need == 0 then Some (record { pad = None; pad2 = None })
    else if nat_le need 4 then None
    else if nat_le need 28 then one_entry (need - 5)
    else if need == 29 then two_entries 18
    else if nat_le need 261 then one_entry (need - 6)
    else if need == 262 then two_entries 250
    else if nat_le need 65542 then one_entry (need - 7)
    else if need == 65543 then two_entries 65530
    else if need == 65544 then two_entries 65531
    else if nat_le need MAX_FILL then one_entry (need - 9)
    else None

-- ---- laws

-- a need without a fill: fewer bytes than the shortest entry has, or more than the limit
abbrev pub HasNoFill : ℕ → Type 0
HasNoFill need = ((1 ≤ need) × (need ≤ 4)) ⊎ (MAX_FILL < need)

-- the fill costs what is needed, and the need is one that has a fill
pub record IsFill (need : ℕ) (f : Fill) : Type 0 where
  pub cost : fill_cost f ≡ need
  pub some : HasNoFill need → ⊥

-- each fill costs what is needed, and the needs without one are those that are too small or above the limit
abbrev pub FillsAreExact : Type 0
FillsAreExact = (need : ℕ) → MatchOption (fill_of need) (HasNoFill need) (IsFill need)

-- a fill has two entries only where no first entry alone costs what is needed
abbrev pub TwoOnlyWhereNeeded : Type 0
TwoOnlyWhereNeeded = (need : ℕ) (f : Fill) (second : ℕ) → fill_of need ≡ Some f → f.pad2 ≡ Some second
    → (zeros : ℕ) → fill_cost (record { pad = Some zeros; pad2 = None }) ≢ need

-- Which errors come, and from what: those that say nothing of the file, and what a refusal says of a source whose bytes may be unknown.
use Rattle.std.specs.Prelude.{◌≡◌, ℕ, ◌*◌, ◌<◌, ◌≤◌, ⊤}
use Rattle.c2_base.specs.Causes.{Rose}
use Rattle.c2_base.specs.declared.limits.TheConstants.{FILE_LEN_LIMIT, MAX_ROOT_BOXES, MAX_STORE_LEN}
use Rattle.c2_base.specs.declared.media.MediaError.{MediaError}
use Rattle.c2_base.specs.declared.media.MediaError.TheVariants.{NotMedia, FileTooLarge, Truncated, TwoStores, BadBox, BadProvenanceBox, StoreTooLarge, TooManyBoxes, ReadFault, NoMemory}

-- a fault comes where the source's count rose, and other errors but want of memory leave the count
abbrev pub IsBmffCaused : ℕ → ℕ → MediaError → Type 0
IsBmffCaused before now ReadFault = Rose before now
IsBmffCaused before now NoMemory = ⊤
IsBmffCaused before now e = now ≡ before

-- this holds, unless the source failed or memory ran out
abbrev pub OrBmffFault : MediaError → Type 0 → Type 0
OrBmffFault ReadFault claim = ⊤
OrBmffFault NoMemory claim = ⊤
OrBmffFault e claim = claim

-- The cause of an error where root boxes are read, of a source of `len` bytes whose count of faults went from `before` to `now`: a fault
-- comes where the count rose. A refusal leaves it; its number is the length, or a place in the source; and it is one of the tests on root
-- boxes, of which that on their number needs 8 bytes for each.
abbrev pub IsRootsCause : ℕ → ℕ → ℕ → MediaError → Type 0
IsRootsCause len before now ReadFault = Rose before now
IsRootsCause len before now NoMemory = ⊤
IsRootsCause len before now (FileTooLarge n) =
    (n ≡ len) × (FILE_LEN_LIMIT ≤ len) × (now ≡ before)
IsRootsCause len before now NotMedia = (len < FILE_LEN_LIMIT) × (now ≡ before)
IsRootsCause len before now (Truncated n) = (n ≡ len) × (len < FILE_LEN_LIMIT) × (now ≡ before)
IsRootsCause len before now (BadBox p) = (p < len) × (len < FILE_LEN_LIMIT) × (now ≡ before)
IsRootsCause len before now TooManyBoxes =
    (8 * MAX_ROOT_BOXES < len) × (len < FILE_LEN_LIMIT) × (now ≡ before)
IsRootsCause len before now e = ⊥

-- The cause of an error where a store is looked for among root boxes, of a source of `len` bytes whose count of faults went from `before`
-- to `now`: a fault comes where the count rose. A refusal leaves it; its number is a place in the source, or the length of a store that is
-- too large and ends in the source; and it is one of the tests on C2PA boxes.
abbrev pub IsStoreCause : ℕ → ℕ → ℕ → MediaError → Type 0
IsStoreCause len before now ReadFault = Rose before now
IsStoreCause len before now NoMemory = ⊤
IsStoreCause len before now (BadProvenanceBox p) = (p < len) × (now ≡ before)
IsStoreCause len before now (TwoStores p) = (p < len) × (now ≡ before)
IsStoreCause len before now (StoreTooLarge n) =
    (MAX_STORE_LEN < n) × (n < len) × (now ≡ before)
IsStoreCause len before now e = ⊥

-- The C2PA store among root boxes, and for private clauses how far the search for it came.
use Rattle.std.specs.Prelude.{◌≡◌, ℕ, ◌+◌, ◌<◌, ◌≤◌, ⊤, true, List, length, drop, take, Option, Some, None, Ok, Err}
use Rattle.std.specs.declared.result.Result.{Result}
use Rattle.std.specs.List.{AllByRecursion}
use Rattle.c2_base.specs.declared.limits.TheConstants.{MAX_STORE_LEN}
use Rattle.c2_base.specs.declared.media.Found.{Found}
use Rattle.c2_base.specs.declared.media.MediaError.{MediaError}
use Rattle.c2_base.specs.declared.media.MediaError.TheVariants.{TwoStores, BadProvenanceBox, StoreTooLarge}
use Rattle.c2_spec.specs.Bmff.Boxes.{Box, HasRoots}
use Rattle.c2_spec.specs.Bmff.Store.{is_other_box, AllRootsPass, HoldsBmffStore, HasBmffStore, HasNoBmffStore, ProvenanceFault}
use Rattle.c2_bmff_boxes.specs.Causes.{OrBmffFault}
use Rattle.c2_bmff_rows.specs.Rows.{rows_of}
use Rattle.c2_bmff_boxes.specs.declared.provenance.Part.{Part}
use Rattle.c2_bmff_boxes.specs.declared.provenance.Part.TheVariants as part
use Rattle.c2_bmff_rows.specs.declared.row.RootBox.{RootBox}

-- the file's store in its range, none, or the first test of its C2PA boxes that fails, unless the source failed or memory ran out
abbrev pub IsStoreOr : List ℕ → Result (Option Found) MediaError → Type 0
IsStoreOr file (Ok None) = HasNoBmffStore file
IsStoreOr file (Ok (Some f)) = HasBmffStore file f.start f.length f.store
IsStoreOr file (Err e) = OrBmffFault e (ProvenanceFault file e)

-- what was found ends in a source of `len` bytes, and its store isn't too large
pub record IsFoundWithin (len : ℕ) (found : Found) : Type 0 where
  pub range : found.start + found.length ≤ len
  pub store : length found.store ≤ MAX_STORE_LEN

-- ---- for private clauses

-- a store that a box with `len` bytes of payload holds ends in it, and isn't too large; one that is too large ends in it as well
abbrev pub IsPartWithin : ℕ → Part → Type 0
IsPartWithin len (part.Holds n) = (37 + n ≤ len) × (n ≤ MAX_STORE_LEN)
IsPartWithin len (part.TooLarge n) = (37 + n ≤ len) × (MAX_STORE_LEN < n)
IsPartWithin len _ = ⊤

-- what was found when a `uuid` box of this row and payload is passed that is this
abbrev pub StepsBy : Part → RootBox → List ℕ → Option Found → Option Found → Type 0
StepsBy part.Other r payload old new = new ≡ old
StepsBy (part.Holds n) r payload old new =
    new ≡ Some (record { start = r.start; length = r.length; store = take n (drop 37 payload) })
StepsBy _ r payload old new = ⊥

-- why it isn't passed
abbrev pub FailsBy : Part → RootBox → MediaError → Type 0
FailsBy part.Bad r e = e ≡ BadProvenanceBox r.start
FailsBy part.Second r e = e ≡ TwoStores r.start
FailsBy (part.TooLarge n) r e = e ≡ StoreTooLarge n
FailsBy _ r e = ⊥

-- what was found among these root boxes
abbrev pub Finds : List Box → Option Found → Type 0
Finds boxes None = AllByRecursion (λ b. is_other_box b ≡ true) boxes
Finds boxes (Some f) = HoldsBmffStore boxes f.start f.length f.store

-- These root boxes pass, and this was found among them.
pub record Searched (boxes : List Box) (found : Option Found) : Type 0 where
  pub passing : AllRootsPass boxes
  pub finds : Finds boxes found

-- where these rows are those of the root boxes of the file, the first `n` of the boxes pass, and this was found among them
abbrev pub SearchedTo : List ℕ → List RootBox → ℕ → Option Found → Type 0
SearchedTo file rows n found =
    (boxes : List Box) → HasRoots file boxes → rows ≡ rows_of boxes → Searched (take n boxes) found

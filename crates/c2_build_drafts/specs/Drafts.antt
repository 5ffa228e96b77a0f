-- What is drafted of a new file whose store stands in its place, what is signed of it, and what of it is ready to be written.
use Rattle.std.specs.Prelude.{◌≡◌, ℕ, List, length}
use Rattle.std.specs.declared.option.Option.{Option}
use Rattle.std.specs.declared.option.Option.TheVariants.{Some, None}
use Rattle.std.specs.Option.{ForSome}
use Rattle.c2_spec.specs.C2pa.Sign1.{sig_structure}
use Rattle.c2_spec.specs.Cbor.Deterministic.{deterministic}
use Rattle.c2_spec.specs.Jumbf.Tree.{tree_bytes}
use Rattle.c2_spec.specs.declared.digest.Alg.{Alg}
use Rattle.c2_container.specs.Contained.{IsWithin}
use Rattle.c2_container.specs.declared.types.Contained.{Contained}
use Rattle.c2_definition.specs.DefinitionFile.{IsWellFormed}
use Rattle.c2_definition.specs.declared.types.Definition.{Definition}
use Rattle.c2_new_file_spec.specs.Store.{new_alg, new_claim}
use Rattle.c2_without_store.specs.Clears.{cleared_len}
use Rattle.c2_new_file_spec.specs.Places.{IsPlace, Place, place_binding, place_file, place_start, place_store, put_bytes}
use Rattle.c2_build_refusals.specs.Refusals.{Ground, first_refusal, ground_tests, new_range_len}
use Rattle.c2_build_refusals.specs.InsertPoints.{IsInsertPoint}
use Rattle.c2_build_refusals.specs.declared.error.BuildError.{BuildError}
use Rattle.c2_build_refusals.specs.declared.types.Drafted.{Drafted}
use Rattle.c2_build_refusals.specs.declared.types.InsertPoint.{InsertPoint}
use Rattle.c2_build_base.specs.Grounds.{IsFoundIn, IsGround}
use Rattle.c2_build_parts.specs.Bound.{IsSmall}
use Rattle.c2_build_in_place.specs.Numbers.{HasLen, IsNumbered}
use Rattle.c2_build_in_place.specs.Writings.{ready_file}
use Rattle.c2_build_in_place.specs.declared.writing.Ready.{Ready}
use Rattle.c2_build_drafts.specs.declared.ready.DraftedBuild.{DraftedBuild}

-- ---- what is drafted

-- This was found of a media file, and lies in it.
pub record IsOpenedIn (file : List ℕ) (c : Contained) : Type 0 where
  pub found : IsFoundIn file c
  pub within : IsWithin (length file) c

-- What was drafted stands for this ground and this place, over this media file.
pub record IsOver (hash : List ℕ → List ℕ) (media : List ℕ) (d : Definition) (w : Drafted) (g : Ground) (p : Place) : Type 0 where
  pub ground : IsGround hash media d w.ground g
  pub place : IsPlace g.base p
  pub point : IsInsertPoint w.point p
  pub numbers : IsNumbered w.draft g.content p

-- What was drafted stands for this ground, and for a place where no test fails that a message isn't needed for.
pub record IsDraftedOver (hash : List ℕ → List ℕ) (media : List ℕ) (d : Definition) (w : Drafted) (g : Ground) : Type 0 where
  pub place : Place
  pub over : IsOver hash media d w g place
  pub passed : first_refusal (ground_tests g place) ≡ None

-- this is the first of these tests that fails at the place of a ground
abbrev pub IsRefusedAt : Ground → BuildError → Type 0
IsRefusedAt g e = (p : Place) × IsPlace g.base p × (first_refusal (ground_tests g p) ≡ Some e)

-- 64 bits hold the length of the new store over a ground, wherever it goes
abbrev pub HasEachLen : Ground → Type 0
HasEachLen g = (s : InsertPoint) → HasLen s g.content

-- ---- what is signed

-- what is signed (RFC 9052, section 4.4): the definition's protected header and the new claim, which binds what the new file has outside the
-- new range
abbrev pub draft_signed : (List ℕ → List ℕ) → Definition → Ground → Place → List ℕ
draft_signed hash d g p =
    deterministic (sig_structure d.protected (new_claim hash g.content (place_binding hash g.content d.reserve g.base p)))

-- these bytes are signed of whatever was drafted so, where the bytes of the media are known
abbrev pub IsSignedOf : (List ℕ → List ℕ) → Option (List ℕ) → Definition → Drafted → List ℕ → Type 0
IsSignedOf hash known d w tbs =
    ForSome known (λ media. (g : Ground) (p : Place) → IsOver hash media d w g p → tbs ≡ draft_signed hash d g p)

-- ---- what is ready

-- What was drafted with a message fits a media file of this length, whatever is known of its bytes: the definition is well formed, the
-- message fills what that reserves, and the rest fits what is left of the media.
pub record FitsMedia (hash : Alg → List ℕ → List ℕ) (len : ℕ) (b : DraftedBuild) : Type 0 where
  pub formed : IsWellFormed b.definition
  pub small : IsSmall (hash (new_alg b.definition)) (cleared_len b.drafted.ground.clearing len) b.definition b.drafted
  pub filled : length b.message ≡ b.definition.reserve

-- What is put in at this place of the new store with this message is known, and what is ready is the file with it: where that begins, and
-- how many bytes it has, as many as the message that fills its reserve makes it.
pub record IsPutReady (hash : List ℕ → List ℕ) (media : List ℕ) (g : Ground) (p : Place) (message : List ℕ) (r : Ready) : Type 0 where
  pub bytes : List ℕ
  pub put : put_bytes p (tree_bytes (place_store hash g.content message g.base p)) ≡ Some bytes
  pub file : place_file g.base p bytes ≡ ready_file r media
  pub start : place_start p ≡ r.draft.start
  pub len : new_range_len p g.content ≡ r.draft.length
  pub filled : length message ≡ g.content.definition.reserve

-- what is ready is the new file over whatever was drafted so, where the bytes of the media are known
abbrev pub IsReadyOf : (Alg → List ℕ → List ℕ) → Option (List ℕ) → DraftedBuild → Ready → Type 0
IsReadyOf hash known b r =
    ForSome known (λ media. (g : Ground) (p : Place) → IsOver (hash (new_alg b.definition)) media b.definition b.drafted g p
    → IsPutReady (hash (new_alg b.definition)) media g p b.message r)

-- this is the new store of what was drafted: what is to be put in with it by the same numbers is ready
abbrev pub IsStoreFor : (Alg → List ℕ → List ℕ) → Option (List ℕ) → DraftedBuild → List ℕ → Type 0
IsStoreFor hash known b store =
    (r : Ready) → r.store ≡ store → r.draft ≡ b.drafted.draft → r.clearing ≡ b.drafted.ground.clearing → IsReadyOf hash known b r

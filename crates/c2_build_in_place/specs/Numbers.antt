-- The numbers of a new file at a place that was found.
use Rattle.std.specs.Prelude.{◌≡◌, ℕ, ◌-◌, ◌<◌, ◌≤◌, ◌^◌, ⊤, List, min}
use Rattle.std.specs.declared.option.Option.TheVariants.{Some, None}
use Rattle.std.specs.declared.result.Result.TheVariants.{Ok}
use Rattle.c2_base.specs.declared.limits.TheConstants.{MAX_STORE_LEN}
use Rattle.c2_definition.specs.DefinitionFile.{IsDefinition}
use Rattle.c2_definition.specs.declared.types.Definition.{Definition}
use Rattle.c2_new_file_spec.specs.Store.{Content}
use Rattle.c2_new_file_spec.specs.Places.{IsPlace, Place, in_boxes, in_segments, place_start}
use Rattle.c2_build_refusals.specs.Refusals.{first_refusal, new_range_len, place_tests}
use Rattle.c2_build_refusals.specs.InsertPoints.{IsInsertPoint}
use Rattle.c2_build_refusals.specs.declared.types.Draft.{Draft}
use Rattle.c2_build_refusals.specs.declared.types.Put.{Put}
use Rattle.c2_build_refusals.specs.declared.types.InsertPoint.{InsertPoint}
use Rattle.c2_build_parts.specs.Bound.{point_range_len, point_store_len}

-- ---- the place

-- what is put in at a place is put in so
abbrev pub IsPut : Put → Place → Type 0
IsPut (Put.Packets en) (in_segments segments number) = number ≡ Some en
IsPut (Put.Packets en) (in_boxes roots) = ⊥
IsPut Put.Box (in_segments segments number) = ⊥
IsPut Put.Box (in_boxes roots) = ⊤

-- A place where no test fails, with its first byte and how is put in there.
pub record IsFitted (at : ℕ) (how : Put) (p : Place) : Type 0 where
  pub passed : first_refusal (place_tests p) ≡ None
  pub start : at ≡ place_start p
  pub put : IsPut how p

-- ---- the store

-- how long the store of this content is there, as 64 bits tell it: the greatest number where they can't hold the length
abbrev pub IsToldLen : InsertPoint → Content → ℕ → Type 0
IsToldLen s c told = told ≡ min (point_store_len s c) (2 ^ 64 - 1)

-- 64 bits hold that length, below the greatest number, so that what they tell is the length
abbrev pub HasLen : InsertPoint → Content → Type 0
HasLen s c = point_store_len s c < 2 ^ 64 - 1

-- some file is this definition, so its texts are no longer than such a file may be
abbrev pub IsOfFile : Definition → Type 0
IsOfFile d = (file : List ℕ) × IsDefinition file (Ok d)

-- ---- the new file

-- The numbers of what is to be built at a place that was found in a base of so many bytes, where this goes into the new store.
pub record IsDraft (c : Content) (s : InsertPoint) (len : ℕ) (f : Draft) : Type 0 where
  pub length : f.length ≡ point_range_len s c
  pub size : f.size ≡ len
  pub small : point_store_len s c ≤ MAX_STORE_LEN
  pub inside : f.start ≤ len
  pub fitted : (base : List ℕ) (p : Place) → IsPlace base p → IsInsertPoint s p → IsFitted f.start f.put p

-- These numbers are those of a new file with this in its store, at this place.
pub record IsNumbered (f : Draft) (c : Content) (p : Place) : Type 0 where
  pub start : f.start ≡ place_start p
  pub put : IsPut f.put p
  pub length : f.length ≡ new_range_len p c

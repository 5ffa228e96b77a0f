-- How a media file that was opened is cleared of its store, and the place in what is left of it.
use Rattle.std.specs.Prelude.{ℕ, List}
use Rattle.std.specs.declared.option.Option.{Option}
use Rattle.c2_base.specs.declared.media.Found.{Found}
use Rattle.c2_jpegseg_survey.specs.Surveys.{range_of}
use Rattle.c2_container.specs.declared.types.Contained.{Contained}
use Rattle.c2_container.specs.declared.types.Container.{Container}
use Rattle.c2_container.specs.declared.types.Container.TheVariants.{Jpeg, Bmff}
use Rattle.c2_without_store.specs.Clears.{root_clearing}
use Rattle.c2_without_store.specs.declared.clearing.Clearing.{Clearing}
use Rattle.c2_without_store.specs.declared.clearing.Clearing.TheVariants.{Cut}
use Rattle.c2_new_file_spec.specs.Places.{IsPlace, Place}
use Rattle.c2_build_refusals.specs.InsertPoints.{IsInsertPoint}
use Rattle.c2_build_refusals.specs.declared.types.InsertPoint.{InsertPoint}

-- a file in this container is cleared so of what was found in it: the range is cut out of a JPEG file
abbrev pub clearing_by : Container → Option Found → Clearing
clearing_by Jpeg found = Cut (range_of found)
clearing_by (Bmff roots) found = root_clearing found roots

-- a media file that was opened is cleared so of its store
abbrev pub clearing_for : Contained → Clearing
clearing_for c = clearing_by c.container c.found

-- a file has this place, as it was found
abbrev pub HasInsertPoint : List ℕ → InsertPoint → Type 0
HasInsertPoint base s = (p : Place) × IsPlace base p × IsInsertPoint s p

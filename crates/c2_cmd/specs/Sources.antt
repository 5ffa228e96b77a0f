-- The sources of a run: the media file, and a second, a third and a fourth file.
use Rattle.std.specs.Prelude.{Bool}
use Rattle.c2_usage.specs.CommandLine.{is_fourth, is_media, is_second, is_third}
use Rattle.c2_usage.specs.declared.types.Role.{Role}

-- One of the four sources that a run is handed.
pub data SourceName : Type 0 where
  the_media : SourceName
  the_second : SourceName
  the_third : SourceName
  the_fourth : SourceName

-- whether a word with this role names the source
abbrev pub is_source : SourceName → Role → Bool
is_source the_media role = is_media role
is_source the_second role = is_second role
is_source the_third role = is_third role
is_source the_fourth role = is_fourth role

-- One value for each source.
pub record Each {ℓ} (X : Type ℓ) : Type ℓ where
  pub media : X
  pub second : X
  pub third : X
  pub fourth : X

-- the value for this source
abbrev pub of_source {ℓ} : {X : Type ℓ} → Each X → SourceName → X
of_source each the_media = each.media
of_source each the_second = each.second
of_source each the_third = each.third
of_source each the_fourth = each.fourth

-- a function of each value
abbrev pub map_each : {X Y : Type 0} → (X → Y) → Each X → Each Y
map_each f each = record {
  media = f each.media;
  second = f each.second;
  third = f each.third;
  fourth = f each.fourth;
}

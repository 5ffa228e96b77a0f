-- A manifest at a place among those of its store, as its rules see it.
use Rattle.std.specs.Prelude.{ℕ, List}
use Rattle.c2_rules.specs.Readings.{Reading}
use Rattle.c2_rules.specs.Seen.{Seen, Standing, seen_at, standing_of}
use Rattle.c2_read_manifests.specs.declared.placed.Placed.{Placed}

-- what the rules see of a manifest at this place
abbrev pub seen_in : Placed → Reading → Seen
seen_in at own = seen_at at.all.now at.place own

-- how the manifest with this label stands to the one at this place
abbrev pub standing_in : Placed → List ℕ → Standing
standing_in at label = standing_of at.all.now at.place label

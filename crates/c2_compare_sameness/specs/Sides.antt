-- For private clauses: the manifests of two stores, side by side.
use Rattle.std.specs.Prelude.{ℕ, Bool, true, List}
use Rattle.std.specs.Option.{option_map_or}
use Rattle.c2_spec.specs.declared.cbor.Ref.{Ref}
use Rattle.c2_rules.specs.Chains.{entry_label}
use Rattle.c2_compare_spec.specs.Deciding.{gives_label}
use Rattle.c2_compare_sameness.specs.declared.sides.Side.{Side}

-- the second has what the first has under a label
abbrev pub gives_named : Side → Side → List ℕ → Bool
gives_named left right =
    gives_label left.at.now.all.now left.at.now.place left.own.now right.at.now.all.now right.at.now.place right.own.now

-- the second has what the first has under the label that an entry lists
abbrev pub gives_listed : Side → Side → Ref → Bool
gives_listed left right e = option_map_or (gives_named left right) (entry_label left.own.now.manifest e) true

-- How far a message was tested, for private clauses.
use Rattle.std.specs.Prelude.{List, ℕ, Some, None}
use Rattle.std.specs.declared.option.Option.{Option}
use Rattle.std.specs.List.{AllByRecursion}
use Rattle.c2_spec.specs.C2pa.Sign1.{SignParts}
use Rattle.c2_spec.specs.Cbor.Item.{Item, Pairs, dict}
use Rattle.c2_new_signature.specs.declared.error.SignaturePart.{SignaturePart}
use Rattle.c2_new_signature.specs.declared.error.SignaturePart.TheVariants as part
use Rattle.c2_new_signature.specs.Message.{AreFew, HasNoPadding, PartsPass, parts_tests, IsFirstFailing}

-- the first test of the entries that fails
abbrev pub EntriesTested : Pairs → Option SignaturePart → Type 0
EntriesTested entries None = AreFew entries × HasNoPadding entries
EntriesTested entries (Some part.Entries) = AreFew entries → ⊥
EntriesTested entries (Some part.Pad) = AreFew entries × (HasNoPadding entries → ⊥)
EntriesTested entries (Some other) = ⊥

-- the first test that fails of an unprotected header, of which only a map is tested
abbrev pub HeaderTested : Item → Option SignaturePart → Type 0
HeaderTested (dict entries) tested = EntriesTested entries tested
HeaderTested v None = Unit {0}
HeaderTested v (Some test) = ⊥

-- the first test of the parts that fails
abbrev pub PartsTested : List ℕ → SignParts → Option SignaturePart → Type 0
PartsTested protected p None = AllByRecursion (PartsPass protected p) parts_tests
PartsTested protected p (Some test) = IsFirstFailing (PartsPass protected p) parts_tests test

-- For private clauses: what a hash is by its exclusions and its digest.
use Rattle.std.specs.Prelude.{ℕ, List, length, nat_lt, codes, Some, None, Ok, Err, if◌then◌else◌}
use Rattle.std.specs.declared.option.Option.{Option}
use Rattle.std.specs.declared.result.Result.{Result}
use Rattle.std.specs.List.{list_any}
use Rattle.c2_base.specs.declared.values.Range.{Range}
use Rattle.c2_spec.specs.Bmff.Hash.{BmffHash, Exclusion, any_of, has_other_test}
use Rattle.c2_spec.specs.Bmff.Paths.{enters_other}
use Rattle.c2_spec.specs.C2pa.Assertion.{most_exclusions}
use Rattle.c2_spec.specs.Cbor.Item.{Item}
use Rattle.c2_spec.specs.Cbor.Lookup.{field_of}
use Rattle.c2_spec.specs.Cbor.Fields.{bytes_of, optional_text}
use Rattle.c2_spec.specs.declared.assertion.DataHash.{DataHash}
use Rattle.c2_spec.specs.declared.assertion.FieldError.{FieldError}
use Rattle.c2_spec.specs.declared.assertion.FieldError.TheVariants.{Path, Test, TooMany}
use Rattle.c2_assertion.specs.declared.digest.Digest.{Digest}

-- the digest, where the algorithm and the digest itself have their form
abbrev pub digest_from : Option (Option (List ℕ)) → Option (List ℕ) → Option Digest
digest_from (Some alg) (Some hash) = Some (record { alg = alg; hash = hash })
digest_from _ _ = None

-- the digest that an item states
abbrev pub digest_of : Item → Option Digest
digest_of v = digest_from (optional_text (field_of (codes "alg") v)) (bytes_of (field_of (codes "hash") v))

-- the data hash with these exclusions, where there aren't too many
abbrev pub data_hash_from : List Range → Digest → Result DataHash FieldError
data_hash_from exclusions d =
    if nat_lt most_exclusions (length exclusions) then Err (TooMany (length exclusions))
    else Ok (record { exclusions = exclusions; alg = d.alg; hash = d.hash })

-- the first fault of the exclusions of a BMFF hash: that there are too many, that one has a test that isn't known, or that the path of one
-- enters a box which no path enters
abbrev pub exclusions_fault : Item → List Exclusion → Option FieldError
exclusions_fault v exclusions =
    if nat_lt most_exclusions (length exclusions) then Some (TooMany (length exclusions))
    else if any_of has_other_test (field_of (codes "exclusions") v) then Some Test
    else if list_any (λ (e : Exclusion). enters_other e.path) exclusions then Some Path
    else None

-- a value, where there is no fault
abbrev pub unless_fault : {A E : Type 0} → Option E → A → Result A E
unless_fault (Some fault) x = Err fault
unless_fault None x = Ok x

-- the BMFF hash of an item with these exclusions, where they have no fault
abbrev pub bmff_hash_from : Item → List Exclusion → Digest → Result BmffHash FieldError
bmff_hash_from v exclusions d =
    unless_fault (exclusions_fault v exclusions) (record { exclusions = exclusions; alg = d.alg; hash = d.hash })

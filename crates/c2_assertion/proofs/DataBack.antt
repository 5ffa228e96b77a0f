-- The item of a data hash is read as that hash.
use Rattle.std.proofs.Common.{◌≡◌, ◌≤◌, ℕ, Bool, true, false, cond, ltb, List, length, map, Option, Some, None, Ok, Err, refl, sym, ap, ◌∙◌}
use Rattle.std.specs.Prelude.{◌↔◌}
use Rattle.std.specs.declared.result.Result.{Result}
use Rattle.std.proofs.lemmas.Bool.{le-ltb}
use borrow.Author.Tests.{ltb-false}
use Rattle.c2_base.specs.declared.values.Range.{Range}
use Rattle.c2_spec.specs.C2pa.Assertion.{data_hash_of, most_exclusions, range_of}
use Rattle.c2_spec.specs.Cbor.Fields.{each_of, require}
use Rattle.c2_spec.specs.Cbor.View.{items_of}
use Rattle.c2_spec.specs.declared.assertion.DataHash.{DataHash}
use Rattle.c2_spec.specs.declared.assertion.FieldError.{FieldError}
use Rattle.c2_spec.specs.declared.assertion.FieldError.TheVariants.{Form, TooMany}
use Rattle.c2_assertion.specs.Written.{data_hash_item, range_item}
use Rattle.c2_assertion.proofs.ListBack.{each_back}

-- the hash by whether it has too many exclusions
abbrev by_count : DataHash → Bool → Result DataHash FieldError
by_count h many = cond many (Err (TooMany (length h.exclusions))) (Ok h)

-- the hash by the exclusions that are read
abbrev by_ranges : Option (List ℕ) → List ℕ → Option (List Range) → Result DataHash FieldError
by_ranges alg hash read =
    require Form read
    (λ rs. by_count (record { exclusions = rs; alg = alg; hash = hash }) (ltb most_exclusions (length rs)))

-- all else is read as it was written
of_parts : (rs : List Range) (alg : Option (List ℕ)) (hash : List ℕ)
    → data_hash_of (data_hash_item (record { exclusions = rs; alg = alg; hash = hash })) ≡ by_ranges alg hash (each_of range_of (items_of (map range_item rs)))
of_parts rs None hash = refl
of_parts rs (Some alg) hash = refl

-- what is read of a written hash goes by the count alone
data_is : (h : DataHash) → data_hash_of (data_hash_item h) ≡ by_count h (ltb most_exclusions (length h.exclusions))
data_is h = of_parts h.exclusions h.alg h.hash ∙ ap (by_ranges h.alg h.hash) (each_back range_of range_item (λ r. refl) h.exclusions)

-- a hash that is read hasn't too many exclusions
few : (h : DataHash) (many : Bool) → ltb most_exclusions (length h.exclusions) ≡ many → by_count h many ≡ Ok h
    → length h.exclusions ≤ most_exclusions
few h true e n = absurd (cc (n))
few h false e n = ltb-false most_exclusions (length h.exclusions) e

-- a data hash is read as itself exactly where its exclusions are few
pub data_back : (h : DataHash) → (data_hash_of (data_hash_item h) ≡ Ok h) ↔ (length h.exclusions ≤ most_exclusions)
data_back h =
    (λ r. few h (ltb most_exclusions (length h.exclusions)) refl (sym (data_is h) ∙ r), λ le. data_is h ∙ ap (by_count h) (le-ltb most_exclusions (length h.exclusions) le))

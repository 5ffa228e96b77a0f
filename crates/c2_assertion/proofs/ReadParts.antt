-- What is left to read of a hash once its exclusions are read.
use Rattle.std.proofs.Common.{◌≡◌, ℕ, Bool, true, false, not, cond, List, length, ltb, is_some, codes, Option, Some, None, Ok, Err, refl, sym, ap, ◌∙◌, inr}
use Rattle.std.specs.declared.result.Result.{Result}
use Rattle.std.specs.List.{list_any}
use Rattle.c2_base.specs.declared.values.Range.{Range}
use Rattle.c2_spec.specs.C2pa.Assertion.{data_hash_of, most_exclusions, range_of}
use Rattle.c2_spec.specs.Bmff.Hash.{BmffHash, Exclusion, any_of, bmff_hash_of, exclusion_of, has_other_test}
use Rattle.c2_spec.specs.Bmff.Paths.{enters_other}
use Rattle.c2_spec.specs.Cbor.Item.{Item}
use Rattle.c2_spec.specs.Cbor.Lookup.{field_of}
use Rattle.c2_spec.specs.Cbor.Fields.{IsAnswer, require, is_map, bytes_of, list_of, optional_list, optional_text}
use Rattle.c2_spec.specs.declared.assertion.DataHash.{DataHash}
use Rattle.c2_spec.specs.declared.assertion.FieldError.{FieldError}
use Rattle.c2_spec.specs.declared.assertion.FieldError.TheVariants.{Merkle, Form, TooMany, Test, Path}
use Rattle.c2_assertion.specs.Reading.{bmff_hash_from, data_hash_from, digest_from, digest_of, unless_fault}
use Rattle.c2_assertion.specs.declared.digest.Digest.{Digest}

-- what is the same as what is expected is an answer
pub same_answer : {A E : Type 0} (memory : E) (expected answer : Result A E) → answer ≡ expected
    → IsAnswer memory expected answer
same_answer memory expected (Ok x) same = sym same
same_answer memory expected (Err e) same = inr (sym same)

-- two steps that come to the same for each value
alike : {A B E : Type 0} (refusal : E) (o : Option A) (first other : A → Result B E)
    → ((x : A) → first x ≡ other x) → require refusal o first ≡ require refusal o other
alike refusal None first other same = refl
alike refusal (Some x) first other same = same x

-- the algorithm and the digest, one after the other, are the digest
by_digest : {A : Type 0} (alg : Option (Option (List ℕ))) (hash : Option (List ℕ)) (more : Digest → Result A FieldError)
    → require Form alg (λ a. require Form hash (λ h. more (record { alg = a; hash = h })))
    ≡ require Form (digest_from alg hash) more
by_digest None hash more = refl
by_digest (Some alg) None more = refl
by_digest (Some alg) (Some hash) more = refl

-- a data hash with these exclusions, by the rest of its fields
abbrev data_rest : Item → List Range → Result DataHash FieldError
data_rest v es =
    require Form (optional_text (field_of (codes "alg") v)) (λ alg. require Form (bytes_of (field_of (codes "hash") v)) (λ hash. data_hash_from es (record { alg = alg; hash = hash })))

-- a data hash by its first test and its exclusions
abbrev data_first : Item → Bool → Option (List Range) → Result DataHash FieldError
data_first v map exclusions = cond (not map) (Err Form) (require Form exclusions (data_rest v))

-- behind the exclusions of a data hash, its digest is left
pub data_left : (v : Item) (es : List Range) → is_map v ≡ true
    → optional_list range_of (field_of (codes "exclusions") v) ≡ Some es
    → data_hash_of v ≡ require Form (digest_of v) (data_hash_from es)
data_left v es map are =
    ap (λ (b : Bool). data_first v b (optional_list range_of (field_of (codes "exclusions") v))) map
    ∙ ap (data_first v true) are
    ∙ by_digest (optional_text (field_of (codes "alg") v)) (bytes_of (field_of (codes "hash") v)) (data_hash_from es)

-- a BMFF hash by the tests of its exclusions, from the first on
abbrev by_tests : Bool → Bool → Bool → ℕ → BmffHash → Result BmffHash FieldError
by_tests many other enters n h = cond many (Err (TooMany n)) (cond other (Err Test) (cond enters (Err Path) (Ok h)))

-- it is refused for the first fault
by_fault : (many other enters : Bool) (n : ℕ) (h : BmffHash)
    → by_tests many other enters n h
    ≡ unless_fault (cond many (Some (TooMany n)) (cond other (Some Test) (cond enters (Some Path) None))) h
by_fault true other enters n h = refl
by_fault false true enters n h = refl
by_fault false false true n h = refl
by_fault false false false n h = refl

-- a BMFF hash with these exclusions and this digest, by those tests
abbrev bmff_tested : Item → List Exclusion → Digest → Result BmffHash FieldError
bmff_tested v es d =
    by_tests (ltb most_exclusions (length es)) (any_of has_other_test (field_of (codes "exclusions") v))
    (list_any (λ (e : Exclusion). enters_other e.path) es) (length es)
    (record { exclusions = es; alg = d.alg; hash = d.hash })

-- a BMFF hash with these exclusions, by the rest of its fields
abbrev bmff_rest : Item → List Exclusion → Result BmffHash FieldError
bmff_rest v es =
    require Form (optional_text (field_of (codes "alg") v)) (λ alg. require Form (bytes_of (field_of (codes "hash") v)) (λ hash. bmff_tested v es (record { alg = alg; hash = hash })))

-- a BMFF hash by its first tests and its exclusions
abbrev bmff_first : Item → Bool → Bool → Option (List Exclusion) → Result BmffHash FieldError
bmff_first v merkle map exclusions =
    cond merkle (Err Merkle) (cond (not map) (Err Form) (require Form exclusions (bmff_rest v)))

-- behind the exclusions of a BMFF hash, its digest is left
pub bmff_left : (v : Item) (es : List Exclusion) → is_some (field_of (codes "merkle") v) ≡ false → is_map v ≡ true
    → list_of exclusion_of (field_of (codes "exclusions") v) ≡ Some es
    → bmff_hash_of v ≡ require Form (digest_of v) (bmff_hash_from v es)
bmff_left v es merkle map are =
    let exclusions : Option (List Exclusion) = list_of exclusion_of (field_of (codes "exclusions") v) in
    ap (λ (b : Bool). bmff_first v b (is_map v) exclusions) merkle
    ∙ ap (λ (b : Bool). bmff_first v false b exclusions) map
    ∙ ap (bmff_first v false true) are
    ∙ by_digest (optional_text (field_of (codes "alg") v)) (bytes_of (field_of (codes "hash") v)) (bmff_tested v es)
    ∙ alike Form (digest_of v) (bmff_tested v es) (bmff_hash_from v es)
    (λ d. by_fault (ltb most_exclusions (length es)) (any_of has_other_test (field_of (codes "exclusions") v)) (list_any (λ (e : Exclusion). enters_other e.path) es) (length es) (record { exclusions = es; alg = d.alg; hash = d.hash }))

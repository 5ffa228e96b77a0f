-- The item of a BMFF hash is read as that hash.
use Rattle.std.proofs.Common.{◌≡◌, ◌≤◌, ℕ, Bool, true, false, cond, ◌||◌, ltb, List, [], ◌∷◌, length, All, map, Option, Some, None, Ok, Err, get_or, drop, refl, sym, ap, ap₂, ◌∙◌, subst, arith}
use Rattle.std.specs.Prelude.{◌↔◌, option_and_then, option_map}
use Rattle.std.specs.declared.result.Result.{Result}
use Rattle.std.specs.List.{list_any}
use Rattle.std.proofs.lemmas.Bool.{le-ltb, or_parts}
use Rattle.std.proofs.lemmas.Option.{same_Some}
use borrow.Author.Tests.{ltb-false}
use Rattle.c2_base.specs.declared.values.Range.{Range}
use Rattle.c2_spec.specs.C2pa.Assertion.{most_exclusions}
use Rattle.c2_spec.specs.Bmff.Hash.{BmffHash, ByteTest, Exclusion, any_item, bmff_hash_of, exclusion_from, exclusion_of, has_other_test, part_of, some_parts, test_of}
use Rattle.c2_spec.specs.Bmff.Paths.{PathStep, enters_other, path_of, steps_text}
use Rattle.c2_spec.specs.Cbor.Fields.{each_of, joined, require}
use Rattle.c2_spec.specs.Cbor.View.{items_of}
use Rattle.c2_spec.specs.declared.assertion.FieldError.{FieldError}
use Rattle.c2_spec.specs.declared.assertion.FieldError.TheVariants.{Form, TooMany, Test, Path}
use Rattle.c2_assertion.specs.ReadBack.{IsReadable}
use Rattle.c2_assertion.specs.Written.{bmff_hash_item, exclusion_item, part_item, test_item}
use Rattle.c2_assertion.proofs.ListBack.{all_cons, all_head, all_tail, each_back}

-- what is read of a subset that may be absent
abbrev read_subset : Option (List Range) → Option (Option (List Range))
read_subset None = Some None
read_subset (Some parts) = option_and_then some_parts (each_of part_of (items_of (map part_item parts)))

-- a subset that may be absent and has a part is read as itself
read_subset_is : (subset : Option (List Range)) → (subset ≡ Some [] → ⊥) → read_subset subset ≡ Some subset
read_subset_is None h = refl
read_subset_is (Some []) h = absurd (h refl)
read_subset_is (Some (r ∷ rs)) h = ap (option_and_then some_parts) (each_back part_of part_item (λ p. refl) (r ∷ rs))

-- the fields of an exclusion are read under their names
of_fields : (path : List PathStep) (len : Option ℕ) (tests : List ByteTest) (subset : Option (List Range))
    → exclusion_of (exclusion_item (record { path = path; length = len; tests = tests; subset = subset }))
    ≡ exclusion_from (path_of (steps_text path)) (Some len) (each_of test_of (items_of (map test_item tests)))
    (read_subset subset)
of_fields path None [] None = refl
of_fields path None [] (Some s) = refl
of_fields path None (t ∷ ts) None = refl
of_fields path None (t ∷ ts) (Some s) = refl
of_fields path (Some n) [] None = refl
of_fields path (Some n) [] (Some s) = refl
of_fields path (Some n) (t ∷ ts) None = refl
of_fields path (Some n) (t ∷ ts) (Some s) = refl

-- an exclusion is read of its item
exclusion_back : (e : Exclusion) → IsReadable e → exclusion_of (exclusion_item e) ≡ Some e
exclusion_back e h =
    of_fields e.path e.length e.tests e.subset
    ∙ ap
    (λ p. exclusion_from p (Some e.length) (each_of test_of (items_of (map test_item e.tests))) (read_subset e.subset))
    h.path
    ∙ ap₂ (exclusion_from (Some e.path) (Some e.length)) (each_back test_of test_item (λ t. refl) e.tests)
    (read_subset_is e.subset h.rest.parts)

-- the exclusions of a list are read of the items that they are written as
exclusions_back : (es : List Exclusion) → All IsReadable es
    → each_of exclusion_of (items_of (map exclusion_item es)) ≡ Some es
exclusions_back [] h = refl
exclusions_back (e ∷ es) h =
    ap₂ joined (exclusion_back e (all_head IsReadable e es h)) (exclusions_back es (all_tail IsReadable e es h))

-- no test that isn't known is written
no_other : (path : List PathStep) (len : Option ℕ) (tests : List ByteTest) (subset : Option (List Range))
    → has_other_test (exclusion_item (record { path = path; length = len; tests = tests; subset = subset })) ≡ false
no_other path None [] None = refl
no_other path None [] (Some s) = refl
no_other path None (t ∷ ts) None = refl
no_other path None (t ∷ ts) (Some s) = refl
no_other path (Some n) [] None = refl
no_other path (Some n) [] (Some s) = refl
no_other path (Some n) (t ∷ ts) None = refl
no_other path (Some n) (t ∷ ts) (Some s) = refl

-- in none of the exclusions
none_other : (es : List Exclusion) → any_item has_other_test (items_of (map exclusion_item es)) ≡ false
none_other [] = refl
none_other (e ∷ es) = ap₂ ◌||◌ (no_other e.path e.length e.tests e.subset) (none_other es)

-- no path enters a box that none may enter
none_enters : (es : List Exclusion) → All IsReadable es → list_any (λ (e : Exclusion). enters_other e.path) es ≡ false
none_enters [] h = refl
none_enters (e ∷ es) h =
    ap₂ ◌||◌ ((all_head IsReadable e es h).rest.enters) (none_enters es (all_tail IsReadable e es h))

-- the hash by its last three tests
abbrev by_tests : BmffHash → Bool → Bool → Bool → Result BmffHash FieldError
by_tests h many other enters =
    cond many (Err (TooMany (length h.exclusions))) (cond other (Err Test) (cond enters (Err Path) (Ok h)))

-- the hash by the exclusions that are read
abbrev by_exclusions : Option (List ℕ) → List ℕ → Bool → Option (List Exclusion) → Result BmffHash FieldError
by_exclusions alg hash other read =
    require Form read
    (λ es. by_tests (record { exclusions = es; alg = alg; hash = hash }) (ltb most_exclusions (length es)) other (list_any (λ (e : Exclusion). enters_other e.path) es))

-- all else is read as it was written
of_parts : (es : List Exclusion) (alg : Option (List ℕ)) (hash : List ℕ)
    → bmff_hash_of (bmff_hash_item (record { exclusions = es; alg = alg; hash = hash }))
    ≡ by_exclusions alg hash (any_item has_other_test (items_of (map exclusion_item es)))
    (each_of exclusion_of (items_of (map exclusion_item es)))
of_parts es None hash = refl
of_parts es (Some alg) hash = refl

-- a hash with few exclusions that can all be read is read of its item
bmff_read : (h : BmffHash) → length h.exclusions ≤ most_exclusions → All IsReadable h.exclusions
    → bmff_hash_of (bmff_hash_item h) ≡ Ok h
bmff_read h few each =
    of_parts h.exclusions h.alg h.hash
    ∙ ap₂ (by_exclusions h.alg h.hash) (none_other h.exclusions) (exclusions_back h.exclusions each)
    ∙ ap₂ (λ many enters. by_tests h many false enters) (le-ltb most_exclusions (length h.exclusions) few)
    (none_enters h.exclusions each)

-- ---- and no other hash is

-- the exclusion that is read of its item has a path that is read of its text, and a part in its subset
readable_parts :
    (e : Exclusion) (p : Option (List PathStep)) (tests : Option (List ByteTest)) (subset : Option (List Range))
    → exclusion_from p (Some e.length) tests (read_subset subset) ≡ Some e
    → (p ≡ Some e.path) × (subset ≡ Some [] → ⊥)
readable_parts e None tests subset h = absurd (cc (h))
readable_parts e (Some path) None subset h = absurd (cc (h))
readable_parts e (Some path) (Some tests) (Some []) h = absurd (cc (h))
readable_parts e (Some path) (Some tests) None h = (ap (option_map (λ (x : Exclusion). x.path)) h, λ n. absurd (cc (n)))
readable_parts e (Some path) (Some tests) (Some (r ∷ rs)) h =
    let same : exclusion_from (Some path) (Some e.length) (Some tests) (Some (Some (r ∷ rs))) ≡ Some e =
    ap (exclusion_from (Some path) (Some e.length) (Some tests)) (sym (read_subset_is (Some (r ∷ rs)) (λ n. absurd (cc (n))))) ∙ h in
    (ap (option_map (λ (x : Exclusion). x.path)) same, λ n. absurd (cc (n)))

-- an exclusion that is read of its item, and enters no box that none may enter, is readable
readable : (e : Exclusion) → exclusion_of (exclusion_item e) ≡ Some e → enters_other e.path ≡ false → IsReadable e
readable e h enters =
    let parts =
    readable_parts e (path_of (steps_text e.path)) (each_of test_of (items_of (map test_item e.tests))) e.subset
    (sym (of_fields e.path e.length e.tests e.subset) ∙ h) in
    record { path = parts.0; rest = record { enters = enters; parts = parts.1 } }

-- the first of two lists that are joined, and the rest
joined_parts : (o : Option Exclusion) (p : Option (List Exclusion)) (e : Exclusion) (es : List Exclusion)
    → joined o p ≡ Some (e ∷ es) → (o ≡ Some e) × (p ≡ Some es)
joined_parts None p e es h = absurd (cc (h))
joined_parts (Some x) None e es h = absurd (cc (h))
joined_parts (Some x) (Some xs) e es h = let same : x ∷ xs ≡ e ∷ es = same_Some (x ∷ xs) (e ∷ es) h in (ap Some (ap (λ (ys : List Exclusion). get_or ys 0 e) same), ap Some (ap (λ (ys : List Exclusion). drop 1 ys) same))

-- exclusions that are read of their items are readable
all_readable : (es : List Exclusion) → each_of exclusion_of (items_of (map exclusion_item es)) ≡ Some es
    → list_any (λ (e : Exclusion). enters_other e.path) es ≡ false → All IsReadable es
all_readable [] h n = λ k d lt. absurd (omega (arith, lt))
all_readable (e ∷ es) h n =
    let parts =
    joined_parts (exclusion_of (exclusion_item e)) (each_of exclusion_of (items_of (map exclusion_item es))) e es h in
    let none = or_parts (enters_other e.path) (list_any (λ (x : Exclusion). enters_other x.path) es) n in
    all_cons IsReadable e es (readable e parts.0 none.0) (all_readable es parts.1 none.1)

-- the hash, where one is read
abbrev hash_or : BmffHash → Result BmffHash FieldError → BmffHash
hash_or g (Ok h) = h
hash_or g (Err e) = g

-- the tests that a hash has passed which is read
passed : (g h : BmffHash) (many other enters : Bool) → by_tests g many other enters ≡ Ok h
    → (many ≡ false) × (enters ≡ false) × (g ≡ h)
passed g h true other enters e = absurd (cc (e))
passed g h false true enters e = absurd (cc (e))
passed g h false false true e = absurd (cc (e))
passed g h false false false e = (refl, refl, ap (hash_or g) e)

-- a hash that is read of its item has few exclusions, and each can be read
bmff_readable : (h : BmffHash) (read : Option (List Exclusion))
    → each_of exclusion_of (items_of (map exclusion_item h.exclusions)) ≡ read
    → by_exclusions h.alg h.hash (any_item has_other_test (items_of (map exclusion_item h.exclusions))) read ≡ Ok h
    → (length h.exclusions ≤ most_exclusions) × All IsReadable h.exclusions
bmff_readable h None e n = absurd (cc (n))
bmff_readable h (Some es) e n =
    let p =
    passed (record { exclusions = es; alg = h.alg; hash = h.hash }) h (ltb most_exclusions (length es))
    (any_item has_other_test (items_of (map exclusion_item h.exclusions)))
    (list_any (λ (x : Exclusion). enters_other x.path) es) n in
    let same : es ≡ h.exclusions = ap (λ (g : BmffHash). g.exclusions) p.2 in (
      subst (λ (xs : List Exclusion). length xs ≤ most_exclusions) same (ltb-false most_exclusions (length es) p.0),
      all_readable h.exclusions (e ∙ ap Some same) (subst (λ (xs : List Exclusion). list_any (λ (x : Exclusion). enters_other x.path) xs ≡ false) same p.1),
    )

-- the item of a hash is read as it exactly where it has few exclusions that can all be read
pub bmff_back : (h : BmffHash)
    → (bmff_hash_of (bmff_hash_item h) ≡ Ok h) ↔ ((length h.exclusions ≤ most_exclusions) × All IsReadable h.exclusions)
bmff_back h =
    (λ r. bmff_readable h (each_of exclusion_of (items_of (map exclusion_item h.exclusions))) refl (sym (of_parts h.exclusions h.alg h.hash) ∙ r), λ c. bmff_read h c.0 c.1)

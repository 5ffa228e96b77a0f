-- Which test on the numbers of a new file fails first, and how long its store is.
use Rattle.std.proofs.Common.{◌≡◌, ℕ, ◌+◌, ◌<◌, ◌≤◌, arith, Bool, false, cond, Option, Some, None, refl, ap, ◌∙◌}
use Rattle.std.specs.Prelude.{nat_lt, nat_le}
use Rattle.std.proofs.lemmas.Bool.{lt-ltb, le-ltb, le-leb, lt-leb}
use Rattle.c2_base.specs.declared.limits.TheConstants.{MAX_MANIFESTS, MAX_STORE_LEN, FILE_LEN_LIMIT}
use Rattle.c2_spec.specs.declared.reason.Reason.TheVariants.{FileTooLarge}
use Rattle.c2_new_file_spec.specs.Store.{Content}
use Rattle.c2_new_file_spec.specs.Places.{Place, in_boxes, in_segments}
use Rattle.c2_build_refusals.specs.Refusals.{box_tests, first_refusal, new_range_len, new_store_len, number_tests, place_tests}
use Rattle.c2_build_parts.specs.Bound.{point_range_len, point_store_len}
use Rattle.c2_build_in_place.specs.Numbers.{HasLen, IsToldLen}
use Rattle.c2_build_refusals.specs.InsertPoints.{IsInsertPoint}
use Rattle.c2_build_refusals.specs.declared.error.BuildError.{BuildError}
use Rattle.c2_build_refusals.specs.declared.error.BuildError.TheVariants.{MediaRefused, TooManyManifests, StoreTooLarge}
use Rattle.c2_build_refusals.specs.declared.types.InsertPoint.{InsertPoint}
use Rattle.c2_build_refusals.proofs.Stages.{first_fails, first_passes}

-- ---- numbers

-- the tests behind those on the place alone, by whether there are too many manifests, the store is too large, and the file is too long
abbrev by_numbers : Bool → Bool → Bool → ℕ → ℕ → Content → Place → Option BuildError
by_numbers many large long size ms c p =
    cond many (Some (TooManyManifests ms))
    (cond large (Some (StoreTooLarge (new_store_len p c))) (cond long (Some (MediaRefused FileTooLarge (size + new_range_len p c))) (first_refusal (box_tests p))))

-- nothing can be put in at the place
pub no_place : (size ms : ℕ) (c : Content) (p : Place) (e : BuildError) → first_refusal (place_tests p) ≡ Some e
    → first_refusal (number_tests size ms c p) ≡ Some e
no_place size ms c p e h = first_fails (place_tests p) _ e h

-- else those are the tests
numbers_are : (size ms : ℕ) (c : Content) (p : Place) → first_refusal (place_tests p) ≡ None
    → first_refusal (number_tests size ms c p) ≡ by_numbers (nat_lt MAX_MANIFESTS ms) (nat_lt MAX_STORE_LEN (new_store_len p c)) (nat_le FILE_LEN_LIMIT (size + new_range_len p c)) size ms c p
numbers_are size ms c p is = first_passes (place_tests p) _ _ is refl

-- there are too many manifests
pub too_many : (size ms : ℕ) (c : Content) (p : Place) → first_refusal (place_tests p) ≡ None → MAX_MANIFESTS < ms
    → first_refusal (number_tests size ms c p) ≡ Some (TooManyManifests ms)
too_many size ms c p is many =
    numbers_are size ms c p is
    ∙ ap
    (λ (b : Bool). by_numbers b (nat_lt MAX_STORE_LEN (new_store_len p c)) (nat_le FILE_LEN_LIMIT (size + new_range_len p c)) size ms c p)
    (lt-ltb MAX_MANIFESTS ms many)

-- there aren't
few_are : (size ms : ℕ) (c : Content) (p : Place) → first_refusal (place_tests p) ≡ None → ms ≤ MAX_MANIFESTS
    → first_refusal (number_tests size ms c p) ≡ by_numbers false (nat_lt MAX_STORE_LEN (new_store_len p c)) (nat_le FILE_LEN_LIMIT (size + new_range_len p c)) size ms c p
few_are size ms c p is few =
    numbers_are size ms c p is
    ∙ ap
    (λ (b : Bool). by_numbers b (nat_lt MAX_STORE_LEN (new_store_len p c)) (nat_le FILE_LEN_LIMIT (size + new_range_len p c)) size ms c p)
    (le-ltb MAX_MANIFESTS ms few)

-- the store is too large
pub large_store : (size ms : ℕ) (c : Content) (p : Place) → first_refusal (place_tests p) ≡ None → ms ≤ MAX_MANIFESTS
    → MAX_STORE_LEN < new_store_len p c
    → first_refusal (number_tests size ms c p) ≡ Some (StoreTooLarge (new_store_len p c))
large_store size ms c p is few large =
    few_are size ms c p is few
    ∙ ap (λ (b : Bool). by_numbers false b (nat_le FILE_LEN_LIMIT (size + new_range_len p c)) size ms c p)
    (lt-ltb MAX_STORE_LEN (new_store_len p c) large)

-- a store that isn't too large passes all tests by numbers but that on the file's length
small_are : (size ms : ℕ) (c : Content) (p : Place) → first_refusal (place_tests p) ≡ None → ms ≤ MAX_MANIFESTS
    → new_store_len p c ≤ MAX_STORE_LEN
    → first_refusal (number_tests size ms c p) ≡ by_numbers false false (nat_le FILE_LEN_LIMIT (size + new_range_len p c)) size ms c p
small_are size ms c p is few small =
    few_are size ms c p is few
    ∙ ap (λ (b : Bool). by_numbers false b (nat_le FILE_LEN_LIMIT (size + new_range_len p c)) size ms c p)
    (le-ltb MAX_STORE_LEN (new_store_len p c) small)

-- the file is too long
pub long_file : (size ms : ℕ) (c : Content) (p : Place) → first_refusal (place_tests p) ≡ None → ms ≤ MAX_MANIFESTS
    → new_store_len p c ≤ MAX_STORE_LEN → FILE_LEN_LIMIT ≤ size + new_range_len p c
    → first_refusal (number_tests size ms c p) ≡ Some (MediaRefused FileTooLarge (size + new_range_len p c))
long_file size ms c p is few small long =
    small_are size ms c p is few small
    ∙ ap (λ (b : Bool). by_numbers false false b size ms c p) (le-leb FILE_LEN_LIMIT (size + new_range_len p c) long)

-- nothing is, but for the count of root boxes
pub numbers_pass : (size ms : ℕ) (c : Content) (p : Place) (o : Option BuildError)
    → first_refusal (place_tests p) ≡ None → ms ≤ MAX_MANIFESTS → new_store_len p c ≤ MAX_STORE_LEN
    → size + new_range_len p c < FILE_LEN_LIMIT → first_refusal (box_tests p) ≡ o
    → first_refusal (number_tests size ms c p) ≡ o
numbers_pass size ms c p o is few small short boxes =
    small_are size ms c p is few small
    ∙ ap (λ (b : Bool). by_numbers false false b size ms c p) (lt-leb FILE_LEN_LIMIT (size + new_range_len p c) short)
    ∙ boxes

-- ---- lengths

-- a length that is told and isn't too large is the store's
pub told_small : (s : InsertPoint) (c : Content) (n : ℕ) → IsToldLen s c n → n ≤ MAX_STORE_LEN → n ≡ point_store_len s c
told_small s c n told small = omega (arith, told, small)

-- each length that is answered is the store's, where 64 bits hold it
pub told_is : (s : InsertPoint) (c : Content) (n : ℕ) → IsToldLen s c n → HasLen s c → n ≡ point_store_len s c
told_is s c n told has = omega (arith, told, has)

-- a store is as long in a place as in its point
pub point_store : (s : InsertPoint) (p : Place) (c : Content) → IsInsertPoint s p
    → new_store_len p c ≡ point_store_len s c
point_store (InsertPoint.Segments start number) (in_segments segments en) c h = refl
point_store (InsertPoint.Segments start number) (in_boxes roots) c h = absurd h
point_store (InsertPoint.Boxes rows) (in_segments segments en) c h = absurd h
point_store (InsertPoint.Boxes rows) (in_boxes roots) c h = refl

-- what is put in is as long in a place as in its point
pub point_range : (s : InsertPoint) (p : Place) (c : Content) → IsInsertPoint s p
    → new_range_len p c ≡ point_range_len s c
point_range (InsertPoint.Segments start number) (in_segments segments en) c h = refl
point_range (InsertPoint.Segments start number) (in_boxes roots) c h = absurd h
point_range (InsertPoint.Boxes rows) (in_segments segments en) c h = absurd h
point_range (InsertPoint.Boxes rows) (in_boxes roots) c h = refl

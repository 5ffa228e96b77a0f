-- The first of what is refused, list by list: where tests of a build refuse, so does what they stand for.
use Rattle.std.proofs.Common.{◌≡◌, ℕ, ◌+◌, Bool, true, false, cond, List, [], ◌∷◌, ◌++◌, length, Option, Some, None, refl, sym, ap, ◌∙◌, subst, nat_le, nat_lt}
use Rattle.std.specs.Prelude.{is_none, option_map}
use Rattle.std.specs.Option.{option_or, option_to_list}
use Rattle.c2_lemmas.proofs.Lists.{none_both}
use Rattle.c2_base.specs.declared.limits.TheConstants.{FILE_LEN_LIMIT, MAX_MANIFESTS, MAX_ROOT_BOXES, MAX_STORE_LEN}
use Rattle.c2_spec.specs.Bmff.Paths.{placed_from}
use Rattle.c2_spec.specs.Bmff.Writing.{open_end}
use Rattle.c2_spec.specs.C2pa.Message.{bare_bytes}
use Rattle.c2_spec.specs.C2pa.Sign1.{SignParts}
use Rattle.c2_spec.specs.declared.reason.Reason.TheVariants.{FileTooLarge, TooManyBoxes}
use Rattle.c2_new_file_spec.specs.Store.{Content}
use Rattle.c2_definition.specs.declared.types.Definition.{Definition}
use Rattle.c2_new_signature.specs.Refusals.{reserve_needed}
use Rattle.c2_new_file_spec.specs.Places.{Place, in_boxes, in_segments, range_len, store_len}
use Rattle.c2_collect_spec.specs.Order.{CollectRefusal, box_refusals, file_refusals, media_refused, no_instance, open_box, place_refusals, reserve_refusals, reserve_too_small, size_refusals, store_too_large, too_many_manifests}
use Rattle.c2_build_refusals.specs.Refusals.{BuildTest, IsReserveRefusal, box_tests, first_refusal, number_tests, place_tests, refuse_if}
use Rattle.c2_build_refusals.specs.declared.error.BuildError.{BuildError}
use Rattle.c2_build_refusals.specs.declared.error.BuildError.TheVariants as build
use Rattle.c2_build_refusals.proofs.Stages.{first_of_both}
use Rattle.c2_build_collect_base.specs.Errors.{error_of}
use Rattle.c2_build_collect.specs.Steps.{IsFirstError}

-- ---- lists one after the other

-- the first of a list is that of it and what comes behind it
pub first_before : (xs ys : List CollectRefusal) (e : BuildError) → IsFirstError xs e → IsFirstError (xs ++ ys) e
first_before xs ys e h = (h.0, h.1 ++ ys, ap (λ (zs : List CollectRefusal). zs ++ ys) h.2, h.3)

-- behind an empty list comes the first of the next
pub first_behind : (xs ys : List CollectRefusal) (e : BuildError) → xs ≡ [] → IsFirstError ys e
    → IsFirstError (xs ++ ys) e
first_behind xs ys e none h = subst (λ (zs : List CollectRefusal). IsFirstError (zs ++ ys) e) (sym none) h

-- ---- tests

-- Tests stand for refusals: what they refuse first has the error of the first of these, and there is none where they pass.
record StandFor (ts : List BuildTest) (rs : List CollectRefusal) : Type 0 where
  fails : (e : BuildError) → first_refusal ts ≡ Some e → IsFirstError rs e
  passes : first_refusal ts ≡ None → rs ≡ []

-- tests one after the other stand for the refusals of both
both_stand : (ts us : List BuildTest) (rs ss : List CollectRefusal) → StandFor ts rs → StandFor us ss
    → StandFor (ts ++ us) (rs ++ ss)
both_stand ts us rs ss h k = record { fails = λ e f. by (first_refusal ts) refl e (sym (first_of_both ts us) ∙ f); passes = λ f. none (first_refusal ts) refl (sym (first_of_both ts us) ∙ f) }
  where
    by : (o : Option BuildError) → first_refusal ts ≡ o → (e : BuildError)
        → option_or (first_refusal ts) (first_refusal us) ≡ Some e → IsFirstError (rs ++ ss) e
    by (Some x) is e f =
        first_before rs ss e
        (h.fails e (is ∙ sym (ap (λ (p : Option BuildError). option_or p (first_refusal us)) is) ∙ f))
    by None is e f =
        first_behind rs ss e (h.passes is)
        (k.fails e (sym (ap (λ (p : Option BuildError). option_or p (first_refusal us)) is) ∙ f))

    none : (o : Option BuildError) → first_refusal ts ≡ o → option_or (first_refusal ts) (first_refusal us) ≡ None
        → rs ++ ss ≡ []
    none (Some x) is f =
        absurd (let bad = sym (ap (λ (p : Option BuildError). option_or p (first_refusal us)) is) ∙ f in cc (bad))
    none None is f =
        none_both rs ss (h.passes is)
        (k.passes (sym (ap (λ (p : Option BuildError). option_or p (first_refusal us)) is) ∙ f))

-- no tests stand for no refusals
none_stand : StandFor [] []
none_stand = record { fails = λ e f. absurd (cc (f)); passes = λ f. refl }

-- two errors that are told are one
same_error : (a b : BuildError) → Some a ≡ Some b → b ≡ a
same_error a b e = cc (e)

-- one test stands for its refusal
one_stands : (b : Bool) (r : CollectRefusal) → StandFor (refuse_if b (error_of r) ∷ []) (cond b (r ∷ []) [])
one_stands true r = record { fails = λ e f. (r, [], refl, same_error (error_of r) e f); passes = λ f. absurd (cc (f)) }
one_stands false r = record { fails = λ e f. absurd (cc (f)); passes = λ f. refl }

-- a test that is there or not stands for its refusal
some_stands : {A : Type 0} (f : A → BuildError) (g : A → CollectRefusal) → ((a : A) → f a ≡ error_of (g a))
    → (o : Option A)
    → StandFor (option_to_list (option_map (λ (a : A). refuse_if true (f a)) o)) (option_to_list (option_map g o))
some_stands f g same None = none_stand
some_stands f g same (Some a) =
    record { fails = λ e k. (g a, [], refl, same_error (f a) e k ∙ same a); passes = λ k. absurd (cc (k)) }

-- ---- the tests on the numbers of a new file

-- the tests on a place stand for what is refused of it
place_stands : (p : Place) → StandFor (place_tests p) (place_refusals p)
place_stands (in_segments segments number) = one_stands (is_none number) no_instance
place_stands (in_boxes roots) = some_stands build.OpenBox open_box (λ a. refl) (open_end (placed_from 0 roots))

-- the tests on root boxes stand for what is refused of them
box_stands : (p : Place) → StandFor (box_tests p) (box_refusals p)
box_stands (in_segments segments number) = none_stand
box_stands (in_boxes roots) =
    one_stands (nat_le MAX_ROOT_BOXES (length roots)) (media_refused TooManyBoxes MAX_ROOT_BOXES)

-- the tests on sizes
abbrev size_tests : ℕ → ℕ → ℕ → List BuildTest
size_tests manifests store file =
    refuse_if (nat_lt MAX_MANIFESTS manifests) (build.TooManyManifests manifests)
    ∷ refuse_if (nat_lt MAX_STORE_LEN store) (build.StoreTooLarge store)
    ∷ refuse_if (nat_le FILE_LEN_LIMIT file) (build.MediaRefused FileTooLarge file)
    ∷ []

-- the tests on sizes stand for what is refused of them
size_stands : (manifests store file : ℕ)
    → StandFor (size_tests manifests store file) (size_refusals manifests store file)
size_stands manifests store file =
    both_stand (refuse_if (nat_lt MAX_MANIFESTS manifests) (build.TooManyManifests manifests) ∷ [])
    (refuse_if (nat_lt MAX_STORE_LEN store) (build.StoreTooLarge store) ∷ refuse_if (nat_le FILE_LEN_LIMIT file) (build.MediaRefused FileTooLarge file) ∷ [])
    _ _
    (one_stands (nat_lt MAX_MANIFESTS manifests) (too_many_manifests manifests))
    (both_stand (refuse_if (nat_lt MAX_STORE_LEN store) (build.StoreTooLarge store) ∷ []) (refuse_if (nat_le FILE_LEN_LIMIT file) (build.MediaRefused FileTooLarge file) ∷ []) _ _
    (one_stands (nat_lt MAX_STORE_LEN store) (store_too_large store)) (one_stands (nat_le FILE_LEN_LIMIT file) (media_refused FileTooLarge file)))

-- all of them
abbrev all_tests : ℕ → ℕ → Content → ℕ → Place → List BuildTest
all_tests size manifests c reserve p =
    place_tests p ++ (size_tests manifests (store_len p c reserve) (size + range_len p c reserve) ++ box_tests p)

-- all tests on the numbers of a new file stand for what is refused of it
all_stand : (base : List ℕ) (c : Content) (reserve manifests : ℕ) (p : Place)
    → StandFor (all_tests (length base) manifests c reserve p) (file_refusals base c reserve manifests p)
all_stand base c reserve manifests p =
    let store : ℕ = store_len p c reserve in
    let file : ℕ = length base + range_len p c reserve in
    both_stand (place_tests p) (size_tests manifests store file ++ box_tests p) (place_refusals p)
    (size_refusals manifests store file ++ box_refusals p) (place_stands p)
    (both_stand (size_tests manifests store file) (box_tests p) (size_refusals manifests store file) (box_refusals p) (size_stands manifests store file) (box_stands p))

module _ (base : List ℕ) (c : Content) (reserve manifests : ℕ) (p : Place) (room : reserve ≡ c.definition.reserve) where
  -- the tests of a build are these
  tests_are : (o : Option BuildError) → first_refusal (number_tests (length base) manifests c p) ≡ o
      → first_refusal (all_tests (length base) manifests c reserve p) ≡ o
  tests_are o f = ap (λ (n : ℕ). first_refusal (all_tests (length base) manifests c n p)) room ∙ f

  -- one of them refuses
  pub numbers_refused : (e : BuildError) → first_refusal (number_tests (length base) manifests c p) ≡ Some e
      → IsFirstError (file_refusals base c reserve manifests p) e
  numbers_refused e f = (all_stand base c reserve manifests p).fails e (tests_are (Some e) f)

  -- none does
  pub numbers_passed : first_refusal (number_tests (length base) manifests c p) ≡ None
      → file_refusals base c reserve manifests p ≡ []
  numbers_passed f = (all_stand base c reserve manifests p).passes (tests_are None f)

-- ---- the message

-- a message that fits isn't refused
pub reserve_none : (d : Definition) (parts : SignParts) → reserve_needed d.reserve (length (bare_bytes parts)) ≡ None
    → reserve_refusals d parts ≡ []
reserve_none d parts h = ap (λ (o : Option ℕ). option_to_list (option_map reserve_too_small o)) h

-- one that doesn't is
pub reserve_first : (d : Definition) (parts : SignParts) (e : BuildError) → IsReserveRefusal d parts e
    → IsFirstError (reserve_refusals d parts) e
reserve_first d parts e h =
    (reserve_too_small h.0, [], ap (λ (o : Option ℕ). option_to_list (option_map reserve_too_small o)) h.1, h.2)

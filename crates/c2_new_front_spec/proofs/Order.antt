-- What is refused, and what can be built.
use Rattle.std.proofs.Common.{◌≡◌, ℕ, ◌+◌, Bool, true, false, cond, List, [], ◌∷◌, length, map, Option, Some, None, option_map, refl, sym, ap, ◌∙◌, subst, ⊎_elim}
use Rattle.std.specs.Prelude.{nat_lt, nat_le}
use Rattle.std.specs.List.{flat_map}
use Rattle.std.specs.Option.{option_to_list}
use Rattle.std.proofs.lemmas.Bool.{le-ltb, leb-false, lt-leb, ltb-false}
use Rattle.c2_base.specs.declared.limits.TheConstants.{MAX_STORE_LEN, MAX_ROOT_BOXES, FILE_LEN_LIMIT}
use Rattle.c2_spec.specs.C2pa.Message.{bare_bytes}
use Rattle.c2_spec.specs.declared.reason.Reason.TheVariants.{FileTooLarge, TooManyBoxes}
use Rattle.c2_bmff_rows.specs.Rows.{rows_of}
use Rattle.c2_bmff_chunks.specs.Fields.{overflow_places}
use Rattle.c2_bmff_chunks.specs.Refusals.{shift_refusals}
use Rattle.c2_new_signature.proofs.TheLaws.{a_message_fills_its_reserve_or_needs_more}
use Rattle.c2_new_signature.specs.Refusals.{reserve_needed}
use Rattle.c2_new_signature.specs.Signed.{IsSigned}
use Rattle.c2_new_file_spec.specs.Fresh.{fresh_content}
use Rattle.c2_new_file_spec.proofs.ParentLaws.{redactions_that_pass_may_be_made_none}
use Rattle.c2_new_file_spec.specs.Refusing.{redaction_refusal}
use Rattle.c2_new_file_spec.specs.declared.refused.RefusedRedaction.{RefusedRedaction}
use Rattle.c2_new_file_spec.specs.Films.{bmff_len, bmff_store_size}
use Rattle.c2_new_front_spec.specs.Fronts.{CanBuildFront, front_file, tables_of}
use Rattle.c2_new_front_spec.specs.InFront.{front_place, open_first}
use Rattle.c2_new_front_spec.specs.Order.{BuiltIsNotRefused, CanPlanFront, FrontRefusal, IsFrontFile, NothingRefusedIsBuilt, PlannedIsFresh, PlannedIsNotRefused, UnrefusedCanBePlanned}
use Rattle.c2_new_front_spec.specs.Order.{media_refused, open_box, overflow, overflow_refusals, plan_refusals, redaction_refused, reserve_too_small, shift_refusal, size_refusals, store_too_large}
use Rattle.c2_new_front_spec.proofs.Building.{front_is}
use Rattle.c2_new_front_spec.proofs.Shifts.{none_shifted}
use Rattle.c2_lemmas.proofs.Options.{never_some}
use Rattle.c2_lemmas.proofs.Lists.{both_none, none_both}

-- ---- no refusal

-- nothing comes of nothing
none_told : {A : Type 0} (f : A → FrontRefusal) (o : Option A) → option_to_list (option_map f o) ≡ [] → o ≡ None
none_told f None e = refl
none_told f (Some a) e = absurd (cc (e))

-- a list of which nothing is made is empty
empty_told : {A : Type 0} (f : A → FrontRefusal) (xs : List A) → map f xs ≡ [] → xs ≡ []
empty_told f [] e = refl
empty_told f (x ∷ xs) e = absurd (cc (e))

-- a test that passes
test_false : (b : Bool) (r : FrontRefusal) → cond b (r ∷ []) [] ≡ [] → b ≡ false
test_false true r e = absurd (cc (e))
test_false false r e = refl

-- a test that passes refuses nothing
pub test_none : (b : Bool) (r : FrontRefusal) → b ≡ false → cond b (r ∷ []) [] ≡ []
test_none b r e = ap (λ (t : Bool). cond t (r ∷ []) []) e

-- ---- both ways

-- where nothing is refused of a plan, a new file can be built
pub unrefused_can : UnrefusedCanBePlanned
unrefused_can media roots d film bytes has none e =
    let store : ℕ = bmff_store_size (fresh_content d) d.reserve in
    let len : ℕ = bmff_len (fresh_content d) d.reserve in
    let file : ℕ = length media + len in
    let opens = both_none (option_to_list (option_map open_box (open_first roots))) _ e in
    let redacts =
    both_none (option_to_list (option_map redaction_refused (redaction_refusal d.label [] d.redact))) _ opens.1 in
    let shifts = both_none (flat_map shift_refusal (shift_refusals media (rows_of roots))) _ redacts.1 in
    let sizes = both_none (size_refusals store file (length roots)) _ shifts.1 in
    let stores = both_none (cond (nat_lt MAX_STORE_LEN store) (store_too_large store ∷ []) []) _ sizes.0 in
    let files = both_none (cond (nat_le FILE_LEN_LIMIT file) (media_refused FileTooLarge file ∷ []) []) _ stores.1 in
    record {
      can = record {
        movable = record {
          film = film;
          bytes = bytes;
          has_roots = has;
          none = none;
          closed = none_told open_box (open_first roots) opens.0;
          unrefused = none_shifted media (rows_of roots) shifts.0;
        };
        small =
            ltb-false MAX_STORE_LEN store (test_false (nat_lt MAX_STORE_LEN store) (store_too_large store) stores.0);
        fits =
            leb-false FILE_LEN_LIMIT file
            (test_false (nat_le FILE_LEN_LIMIT file) (media_refused FileTooLarge file) files.0);
        few =
            leb-false MAX_ROOT_BOXES (length roots)
            (test_false (nat_le MAX_ROOT_BOXES (length roots)) (media_refused TooManyBoxes MAX_ROOT_BOXES) files.1);
        moves = empty_told overflow (overflow_places (front_place roots) len media (tables_of media roots)) sizes.1;
      };
      redactions = none_told redaction_refused (redaction_refusal d.label [] d.redact) redacts.0;
    }

-- where a file can be built, nothing is refused of a plan
pub can_unrefused : PlannedIsNotRefused
can_unrefused media roots d h =
    let store : ℕ = bmff_store_size (fresh_content d) d.reserve in
    let len : ℕ = bmff_len (fresh_content d) d.reserve in
    let file : ℕ = length media + len in
    let sizes : size_refusals store file (length roots) ≡ [] =
    none_both (cond (nat_lt MAX_STORE_LEN store) (store_too_large store ∷ []) []) _
    (test_none (nat_lt MAX_STORE_LEN store) (store_too_large store) (le-ltb MAX_STORE_LEN store h.can.small))
    (none_both (cond (nat_le FILE_LEN_LIMIT file) (media_refused FileTooLarge file ∷ []) []) _ (test_none (nat_le FILE_LEN_LIMIT file) (media_refused FileTooLarge file) (lt-leb FILE_LEN_LIMIT file h.can.fits))
    (test_none (nat_le MAX_ROOT_BOXES (length roots)) (media_refused TooManyBoxes MAX_ROOT_BOXES) (lt-leb MAX_ROOT_BOXES (length roots) h.can.few))) in
    let moves : overflow_refusals len media roots ≡ [] = ap (map overflow) h.can.moves in
    none_both (option_to_list (option_map open_box (open_first roots))) _
    (ap (λ (o : Option ℕ). option_to_list (option_map open_box o)) h.can.movable.closed)
    (none_both (option_to_list (option_map redaction_refused (redaction_refusal d.label [] d.redact))) _ (ap (λ (o : Option RefusedRedaction). option_to_list (option_map redaction_refused o)) h.redactions)
    (none_both (flat_map shift_refusal (shift_refusals media (rows_of roots))) _ (ap (flat_map shift_refusal) h.can.movable.unrefused)
    (none_both (size_refusals store file (length roots)) (overflow_refusals len media roots) sizes moves)))

-- where a file can be planned, the definition redacts nothing
pub can_fresh : PlannedIsFresh
can_fresh media roots d h = record { carried = refl; ingredients = refl; redact = by d.redact refl }
  where
    by : (texts : List (List ℕ)) → d.redact ≡ texts → d.redact ≡ []
    by [] e = e
    by (t ∷ ts) e =
        let bad =
        sym h.redactions ∙ ap (λ (xs : List (List ℕ)). redaction_refusal d.label [] xs) e
        ∙ redactions_that_pass_may_be_made_none d.label t ts in
        absurd (cc (bad))

-- ---- with a message

-- where nothing is refused, the message fills what is reserved for it, and the file is built with it
pub nothing_refused : NothingRefusedIsBuilt
nothing_refused hash d bytes p media roots h pads film are has none e =
    let both = both_none (plan_refusals media roots d) _ e in
    let can : CanPlanFront media roots d = unrefused_can media roots d film are has none both.0 in
    let enough : reserve_needed d.reserve (length (bare_bytes p)) ≡ None =
    none_told reserve_too_small (reserve_needed d.reserve (length (bare_bytes p))) both.1 in
    ⊎_elim (λ s. made can s) (λ n. absurd (let bad = sym enough ∙ n.1 in cc (bad)))
    (a_message_fills_its_reserve_or_needs_more.either bytes p d.reserve pads)
  where
    made : CanPlanFront media roots d → (message : List ℕ) × IsSigned p d.reserve message
        → (file : List ℕ) × IsFrontFile hash d p media roots file
    made can s =
        let fits : CanBuildFront (fresh_content d) (length s.0) media roots =
        subst (λ n. CanBuildFront (fresh_content d) n media roots) (sym s.1.filled) can.can in
        (front_file hash (fresh_content d) s.0 media roots, record { can = can; message = s.0; signed = s.1; built = front_is hash (fresh_content d) s.0 media roots h fits })

-- where a file is built, nothing is refused
pub built_not_refused : BuiltIsNotRefused
built_not_refused hash d p media roots file b =
    let needed : Option ℕ = reserve_needed d.reserve (length (bare_bytes p)) in
    let enough : needed ≡ None =
    never_some needed
    (λ n e. a_message_fills_its_reserve_or_needs_more.never_both p d.reserve b.message b.signed (n, e)) in
    none_both (plan_refusals media roots d) _ (can_unrefused media roots d b.can)
    (ap (λ (o : Option ℕ). option_to_list (option_map reserve_too_small o)) enough)

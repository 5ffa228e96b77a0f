-- The first of what is refused, list by list, and what an error of a shift says of it.
use Rattle.std.proofs.Common.{◌≡◌, ℕ, min, ◌^◌, ◌-◌, ◌+◌, ◌<◌, ◌≤◌, Bool, true, cond, List, [], ◌∷◌, ◌++◌, length, map, Option, None, refl, sym, ap, ◌∙◌, subst, nat_lt, nat_le, arith}
use Rattle.std.specs.Prelude.{option_map}
use Rattle.std.specs.List.{flat_map}
use Rattle.std.specs.Option.{option_to_list}
use Rattle.std.proofs.lemmas.Bool.{le-leb, le-ltb, lt-leb, lt-ltb}
use Rattle.c2_lemmas.proofs.Lists.{none_both}
use Rattle.c2_base.specs.declared.limits.TheConstants.{FILE_LEN_LIMIT, MAX_ROOT_BOXES, MAX_STORE_LEN}
use Rattle.c2_spec.specs.Bmff.Boxes.{Box}
use Rattle.c2_spec.specs.declared.reason.Reason.TheVariants.{FileTooLarge, TooManyBoxes}
use Rattle.c2_bmff_rows.specs.Rows.{rows_of}
use Rattle.c2_bmff_chunks.specs.Fields.{overflow_places}
use Rattle.c2_bmff_chunks.specs.Refusals.{IsFirstRefusal, shift_refusals}
use Rattle.c2_bmff_chunks.specs.declared.table.ChunkTable.{ChunkTable}
use Rattle.c2_bmff_chunks.specs.declared.table.ShiftError.{ShiftError}
use Rattle.c2_bmff_chunks.specs.declared.table.ShiftError.TheVariants as shift
use Rattle.c2_shift.specs.Causes.{IsCheckCause, IsFirstOverflow, IsTablesCause, OrShiftFault}
use Rattle.c2_definition.specs.declared.types.Definition.{Definition}
use Rattle.c2_new_file_spec.specs.Refusing.{redaction_refusal}
use Rattle.c2_new_file_spec.specs.declared.refused.RefusedRedaction.{RefusedRedaction}
use Rattle.c2_new_front_spec.specs.Fronts.{tables_of}
use Rattle.c2_new_front_spec.specs.InFront.{front_place, open_first}
use Rattle.c2_new_front_spec.specs.Order.{FrontRefusal, media_refused, open_box, overflow, overflow_refusals, plan_refusals, redaction_refused, shift_refusal, size_refusals, store_too_large}
use Rattle.c2_build_refusals.specs.Kinds.{WithoutFault}
use Rattle.c2_build_refusals.specs.declared.error.BuildError.{BuildError}
use Rattle.c2_build_refusals.specs.declared.error.BuildError.TheVariants as build
use Rattle.c2_build_front.specs.Steps.{IsFirstError, IsPlanStep, error_of_shift, box_len, store_size}
use Rattle.c2_new_front_spec.proofs.Order.{test_none}

-- ---- lists one after the other

-- the first of a list is that of it and what comes behind it
pub first_before : (xs ys : List FrontRefusal) (e : BuildError) → IsFirstError xs e → IsFirstError (xs ++ ys) e
first_before xs ys e h = (h.0, h.1 ++ ys, ap (λ (zs : List FrontRefusal). zs ++ ys) h.2, h.3)

-- behind an empty list comes the first of the next
pub first_behind : (xs ys : List FrontRefusal) (e : BuildError) → xs ≡ [] → IsFirstError ys e
    → IsFirstError (xs ++ ys) e
first_behind xs ys e none h = subst (λ (zs : List FrontRefusal). IsFirstError (zs ++ ys) e) (sym none) h

-- ---- the five lists of a plan

-- what is refused of the first root box
abbrev pub open_refusals : List Box → List FrontRefusal
open_refusals roots = option_to_list (option_map open_box (open_first roots))

-- what is refused of redactions
abbrev pub redaction_refusals : Definition → List FrontRefusal
redaction_refusals d = option_to_list (option_map redaction_refused (redaction_refusal d.label [] d.redact))

-- what is refused of moving chunk offsets
abbrev pub moving_refusals : List ℕ → List Box → List FrontRefusal
moving_refusals media roots = flat_map shift_refusal (shift_refusals media (rows_of roots))

-- what is refused of sizes
abbrev pub sizes_refused : List ℕ → List Box → Definition → List FrontRefusal
sizes_refused media roots d = size_refusals (store_size d) (length media + box_len d) (length roots)

-- what is refused of the moved offsets
abbrev pub offsets_refused : List ℕ → List Box → Definition → List FrontRefusal
offsets_refused media roots d = overflow_refusals (box_len d) media roots

-- nothing comes of a first box that says its size
pub open_none : (roots : List Box) → open_first roots ≡ None → open_refusals roots ≡ []
open_none roots h = ap (λ (o : Option ℕ). option_to_list (option_map open_box o)) h

-- nothing is refused of redactions of which none is
pub redaction_none : (d : Definition) → redaction_refusal d.label [] d.redact ≡ None → redaction_refusals d ≡ []
redaction_none d h = ap (λ (o : Option RefusedRedaction). option_to_list (option_map redaction_refused o)) h

-- nothing is refused of moving chunk offsets where nothing stands in the way
pub moving_none : (media : List ℕ) (roots : List Box) → shift_refusals media (rows_of roots) ≡ []
    → moving_refusals media roots ≡ []
moving_none media roots h = ap (flat_map shift_refusal) h

-- nothing is refused of the moved offsets where each fits
pub offsets_none : (media : List ℕ) (roots : List Box) (d : Definition)
    → overflow_places (front_place roots) (box_len d) media (tables_of media roots) ≡ []
    → offsets_refused media roots d ≡ []
offsets_none media roots d h = ap (map overflow) h

-- the offsets of a draft are those of a plan
pub places_are : (media : List ℕ) (roots : List Box) (d : Definition) (place len : ℕ) (ts : List ChunkTable)
    → place ≡ front_place roots → len ≡ box_len d → ts ≡ tables_of media roots
    → overflow_places place len media ts ≡ overflow_places (front_place roots) (box_len d) media (tables_of media roots)
places_are media roots d place len ts p n t =
    ap (λ (x : ℕ). overflow_places x len media ts) p ∙ ap (λ (x : ℕ). overflow_places (front_place roots) x media ts) n
    ∙ ap (λ (x : List ChunkTable). overflow_places (front_place roots) (box_len d) media x) t

-- the first root box says no size
pub plan_open : (media : List ℕ) (roots : List Box) (d : Definition) (e : BuildError)
    → IsFirstError (open_refusals roots) e → IsFirstError (plan_refusals media roots d) e
plan_open media roots d e h =
    first_before (open_refusals roots)
    (redaction_refusals d ++ (moving_refusals media roots ++ (sizes_refused media roots d ++ offsets_refused media roots d)))
    e h

-- a redaction is refused
pub plan_redaction : (media : List ℕ) (roots : List Box) (d : Definition) (e : BuildError) → open_refusals roots ≡ []
    → IsFirstError (redaction_refusals d) e → IsFirstError (plan_refusals media roots d) e
plan_redaction media roots d e a h =
    first_behind (open_refusals roots)
    (redaction_refusals d ++ (moving_refusals media roots ++ (sizes_refused media roots d ++ offsets_refused media roots d)))
    e a
    (first_before (redaction_refusals d) (moving_refusals media roots ++ (sizes_refused media roots d ++ offsets_refused media roots d)) e h)

-- something stands in the way of moving offsets
pub plan_moving : (media : List ℕ) (roots : List Box) (d : Definition) (e : BuildError) → open_refusals roots ≡ []
    → redaction_refusals d ≡ [] → IsFirstError (moving_refusals media roots) e
    → IsFirstError (plan_refusals media roots d) e
plan_moving media roots d e a b h =
    first_behind (open_refusals roots)
    (redaction_refusals d ++ (moving_refusals media roots ++ (sizes_refused media roots d ++ offsets_refused media roots d)))
    e a
    (first_behind (redaction_refusals d) (moving_refusals media roots ++ (sizes_refused media roots d ++ offsets_refused media roots d)) e b
    (first_before (moving_refusals media roots) (sizes_refused media roots d ++ offsets_refused media roots d) e h))

-- something is too large
pub plan_sizes : (media : List ℕ) (roots : List Box) (d : Definition) (e : BuildError) → open_refusals roots ≡ []
    → redaction_refusals d ≡ [] → moving_refusals media roots ≡ [] → IsFirstError (sizes_refused media roots d) e
    → IsFirstError (plan_refusals media roots d) e
plan_sizes media roots d e a b c h =
    first_behind (open_refusals roots)
    (redaction_refusals d ++ (moving_refusals media roots ++ (sizes_refused media roots d ++ offsets_refused media roots d)))
    e a
    (first_behind (redaction_refusals d) (moving_refusals media roots ++ (sizes_refused media roots d ++ offsets_refused media roots d)) e b
    (first_behind (moving_refusals media roots) (sizes_refused media roots d ++ offsets_refused media roots d) e c
    (first_before (sizes_refused media roots d) (offsets_refused media roots d) e h)))

-- a moved offset doesn't fit
pub plan_offsets : (media : List ℕ) (roots : List Box) (d : Definition) (e : BuildError) → open_refusals roots ≡ []
    → redaction_refusals d ≡ [] → moving_refusals media roots ≡ [] → sizes_refused media roots d ≡ []
    → IsFirstError (offsets_refused media roots d) e
    → IsFirstError (plan_refusals media roots d) e
plan_offsets media roots d e a b c s h =
    first_behind (open_refusals roots)
    (redaction_refusals d ++ (moving_refusals media roots ++ (sizes_refused media roots d ++ offsets_refused media roots d)))
    e a
    (first_behind (redaction_refusals d) (moving_refusals media roots ++ (sizes_refused media roots d ++ offsets_refused media roots d)) e b
    (first_behind (moving_refusals media roots) (sizes_refused media roots d ++ offsets_refused media roots d) e c
    (first_behind (sizes_refused media roots d) (offsets_refused media roots d) e s h)))

-- nothing is refused of any
pub plan_passes : (media : List ℕ) (roots : List Box) (d : Definition) → open_refusals roots ≡ []
    → redaction_refusals d ≡ [] → moving_refusals media roots ≡ [] → sizes_refused media roots d ≡ []
    → offsets_refused media roots d ≡ []
    → plan_refusals media roots d ≡ []
plan_passes media roots d a b c s o =
    none_both (open_refusals roots)
    (redaction_refusals d ++ (moving_refusals media roots ++ (sizes_refused media roots d ++ offsets_refused media roots d)))
    a
    (none_both (redaction_refusals d) (moving_refusals media roots ++ (sizes_refused media roots d ++ offsets_refused media roots d)) b
    (none_both (moving_refusals media roots) (sizes_refused media roots d ++ offsets_refused media roots d) c
    (none_both (sizes_refused media roots d) (offsets_refused media roots d) s o)))

-- ---- errors of a shift

-- what stands in the way of moving offsets has the error of the first of it
pub shift_first : (refusals : List ShiftError) (len before now : ℕ) (e : ShiftError) → IsTablesCause len before now e
    → OrShiftFault e (IsFirstRefusal refusals e)
    → WithoutFault (error_of_shift e) (IsFirstError (flat_map shift_refusal refusals) (error_of_shift e))
shift_first refusals len before now (shift.OffsetTable at) c h =
    (_, flat_map shift_refusal h.others, ap (flat_map shift_refusal) h.first, refl)
shift_first refusals len before now (shift.BadTree at) c h =
    (_, flat_map shift_refusal h.others, ap (flat_map shift_refusal) h.first, refl)
shift_first refusals len before now (shift.BadTable at) c h =
    (_, flat_map shift_refusal h.others, ap (flat_map shift_refusal) h.first, refl)
shift_first refusals len before now (shift.Overflow at) c h = absurd c
shift_first refusals len before now shift.ReadFault c h = tt
shift_first refusals len before now shift.NoMemory c h = tt

-- a place that doesn't fit has the error of the first that doesn't
pub overflow_first : (places : List ℕ) (e : ShiftError) → IsFirstOverflow places e
    → WithoutFault (error_of_shift e) (IsFirstError (map overflow places) (error_of_shift e))
overflow_first places (shift.OffsetTable at) h = absurd h
overflow_first places (shift.BadTree at) h = absurd h
overflow_first places (shift.BadTable at) h = absurd h
overflow_first places (shift.Overflow at) h = (overflow at, map overflow h.others, ap (map overflow) h.first, refl)
overflow_first places shift.ReadFault h = tt
overflow_first places shift.NoMemory h = absurd h

-- the causes of both are those of a step
pub tables_step : (len before now : ℕ) (e : ShiftError) → IsTablesCause len before now e
    → IsPlanStep before now (error_of_shift e)
tables_step len before now (shift.OffsetTable at) h = h.1
tables_step len before now (shift.BadTree at) h = h.1
tables_step len before now (shift.BadTable at) h = h.1
tables_step len before now (shift.Overflow at) h = absurd h
tables_step len before now shift.ReadFault h = h
tables_step len before now shift.NoMemory h = tt

-- the cause of an error of offsets that don't fit is one of a step of a plan
pub check_step : (len before now : ℕ) (e : ShiftError) → IsCheckCause len before now e
    → IsPlanStep before now (error_of_shift e)
check_step len before now (shift.OffsetTable at) h = absurd h
check_step len before now (shift.BadTree at) h = absurd h
check_step len before now (shift.BadTable at) h = absurd h
check_step len before now (shift.Overflow at) h = h.1
check_step len before now shift.ReadFault h = h
check_step len before now shift.NoMemory h = absurd h

-- ---- sizes

-- a test that holds has its refusal
held : (b : Bool) (r : FrontRefusal) → b ≡ true → cond b (r ∷ []) [] ≡ r ∷ []
held b r h = ap (λ (x : Bool). cond x (r ∷ []) []) h

-- the new store is too large
pub store_first : (store len file boxes : ℕ) → len ≡ store → MAX_STORE_LEN < len
    → IsFirstError (size_refusals store file boxes) (build.StoreTooLarge len)
store_first store len file boxes same large =
    let rest : List FrontRefusal =
    cond (nat_le FILE_LEN_LIMIT file) (media_refused FileTooLarge file ∷ []) [] ++ cond
    (nat_le MAX_ROOT_BOXES boxes) (media_refused TooManyBoxes MAX_ROOT_BOXES ∷ []) [] in
    (store_too_large store, rest, ap (λ (xs : List FrontRefusal). xs ++ rest) (held (nat_lt MAX_STORE_LEN store) (store_too_large store) (lt-ltb MAX_STORE_LEN store (omega (arith, same, large)))), ap build.StoreTooLarge same)

-- the new file is too long
pub file_first : (store file boxes : ℕ) → store ≤ MAX_STORE_LEN → FILE_LEN_LIMIT ≤ file
    → IsFirstError (size_refusals store file boxes) (build.MediaRefused FileTooLarge file)
file_first store file boxes small long =
    let rest : List FrontRefusal =
    cond (nat_le MAX_ROOT_BOXES boxes) (media_refused TooManyBoxes MAX_ROOT_BOXES ∷ []) [] in
    first_behind (cond (nat_lt MAX_STORE_LEN store) (store_too_large store ∷ []) [])
    (cond (nat_le FILE_LEN_LIMIT file) (media_refused FileTooLarge file ∷ []) [] ++ rest)
    (build.MediaRefused FileTooLarge file)
    (test_none (nat_lt MAX_STORE_LEN store) (store_too_large store) (le-ltb MAX_STORE_LEN store small))
    (media_refused FileTooLarge file, rest, ap (λ (xs : List FrontRefusal). xs ++ rest) (held (nat_le FILE_LEN_LIMIT file) (media_refused FileTooLarge file) (le-leb FILE_LEN_LIMIT file long)), refl)

-- the media has as many root boxes as a file may have
pub boxes_first : (store file boxes : ℕ) → store ≤ MAX_STORE_LEN → file < FILE_LEN_LIMIT → MAX_ROOT_BOXES ≤ boxes
    → IsFirstError (size_refusals store file boxes) (build.MediaRefused TooManyBoxes MAX_ROOT_BOXES)
boxes_first store file boxes small short many =
    let last : List FrontRefusal =
    cond (nat_le MAX_ROOT_BOXES boxes) (media_refused TooManyBoxes MAX_ROOT_BOXES ∷ []) [] in
    first_behind (cond (nat_lt MAX_STORE_LEN store) (store_too_large store ∷ []) [])
    (cond (nat_le FILE_LEN_LIMIT file) (media_refused FileTooLarge file ∷ []) [] ++ last)
    (build.MediaRefused TooManyBoxes MAX_ROOT_BOXES)
    (test_none (nat_lt MAX_STORE_LEN store) (store_too_large store) (le-ltb MAX_STORE_LEN store small))
    (first_behind (cond (nat_le FILE_LEN_LIMIT file) (media_refused FileTooLarge file ∷ []) []) last (build.MediaRefused TooManyBoxes MAX_ROOT_BOXES) (test_none (nat_le FILE_LEN_LIMIT file) (media_refused FileTooLarge file) (lt-leb FILE_LEN_LIMIT file short))
    (media_refused TooManyBoxes MAX_ROOT_BOXES, [], held (nat_le MAX_ROOT_BOXES boxes) (media_refused TooManyBoxes MAX_ROOT_BOXES) (le-leb MAX_ROOT_BOXES boxes many), refl))

-- nothing is too large
pub sizes_pass : (store file boxes : ℕ) → store ≤ MAX_STORE_LEN → file < FILE_LEN_LIMIT → boxes < MAX_ROOT_BOXES
    → size_refusals store file boxes ≡ []
sizes_pass store file boxes small short few =
    none_both (cond (nat_lt MAX_STORE_LEN store) (store_too_large store ∷ []) [])
    (cond (nat_le FILE_LEN_LIMIT file) (media_refused FileTooLarge file ∷ []) [] ++ cond (nat_le MAX_ROOT_BOXES boxes) (media_refused TooManyBoxes MAX_ROOT_BOXES ∷ []) [])
    (test_none (nat_lt MAX_STORE_LEN store) (store_too_large store) (le-ltb MAX_STORE_LEN store small))
    (none_both (cond (nat_le FILE_LEN_LIMIT file) (media_refused FileTooLarge file ∷ []) []) (cond (nat_le MAX_ROOT_BOXES boxes) (media_refused TooManyBoxes MAX_ROOT_BOXES ∷ []) []) (test_none (nat_le FILE_LEN_LIMIT file) (media_refused FileTooLarge file) (lt-leb FILE_LEN_LIMIT file short))
    (test_none (nat_le MAX_ROOT_BOXES boxes) (media_refused TooManyBoxes MAX_ROOT_BOXES) (lt-leb MAX_ROOT_BOXES boxes few)))

-- a store whose length is told is too large
pub told_first : (store len file boxes : ℕ) → len ≡ min store (2 ^ 64 - 1) → MAX_STORE_LEN < len → store < 2 ^ 64 - 1
    → IsFirstError (size_refusals store file boxes) (build.StoreTooLarge len)
told_first store len file boxes told large fits = let same : len ≡ store = omega (arith, told, fits) in store_first store len file boxes same large

-- the length of the new file, by a sum that may stand still
pub file_is : (n size store file : ℕ) → n ≡ min (size + (45 + store)) (2 ^ 64 - 1) → size ≡ file → file < 2 ^ 62
    → store ≤ MAX_STORE_LEN → n ≡ file + (45 + store)
file_is n size store file told same short small = omega (arith, told, same, short, small)

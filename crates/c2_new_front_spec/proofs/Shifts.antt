-- Each thing in the list of what stands in the way of moving media data is a refusal: no error that says nothing of the file is among them.
use Rattle.std.proofs.Common.{◌≡◌, ℕ, Bool, true, false, cond, List, [], ◌∷◌, ◌++◌, Option, Some, None, codes, bytes_eq, refl}
use Rattle.std.specs.List.{AllByRecursion, flat_map}
use Rattle.std.specs.Option.{option_map_or}
use Rattle.c2_lemmas.proofs.Lists.{both_none}
use Rattle.c2_bmff_rows.specs.Rows.{payload_at}
use Rattle.c2_bmff_rows.specs.declared.row.RootBox.{RootBox}
use Rattle.c2_bmff_chunks.specs.Refusals.{is_other_table, refusals_below, root_refusals, shift_refusals, sibling_refusals}
use Rattle.c2_bmff_chunks.specs.Tables.{inner, is_table, is_table_kind, table_path, wide_kind}
use Rattle.c2_bmff_chunks.specs.declared.table.ShiftError.{ShiftError}
use Rattle.c2_bmff_chunks.specs.declared.table.ShiftError.TheVariants.{OffsetTable, BadTree, BadTable}
use Rattle.c2_new_front_spec.specs.Order.{shift_refusal}

-- ---- errors that are refusals

-- the error is a refusal
abbrev IsNamed : ShiftError → Type 0
IsNamed e = shift_refusal e ≡ [] → ⊥

-- each of these is
abbrev AreNamed : List ShiftError → Type 0
AreNamed es = AllByRecursion IsNamed es

-- the errors of two lists are named where those of each are
named_append : (xs ys : List ShiftError) → AreNamed xs → AreNamed ys → AreNamed (xs ++ ys)
named_append [] ys h k = k
named_append (x ∷ xs) ys h k = (h.0, named_append xs ys h.1 k)

-- what many lists refuse is named where that of each is
named_flat : (f : RootBox → List ShiftError) → ((r : RootBox) → AreNamed (f r)) → (rows : List RootBox)
    → AreNamed (flat_map f rows)
named_flat f h [] = tt
named_flat f h (r ∷ rows) = named_append (f r) (flat_map f rows) (h r) (named_flat f h rows)

-- by the types of root boxes
named_roots : (rows : List RootBox) → AreNamed (root_refusals rows)
named_roots rows = named_flat _ (λ r. by r (is_other_table r.kind)) rows
  where
    by : (r : RootBox) (t : Bool) → AreNamed (cond t (OffsetTable r.start ∷ []) [])
    by r true = ((λ h. cc (h)), tt)
    by r false = tt

-- by a box beside tables
named_sibling : (file : List ℕ) (r : RootBox) → AreNamed (sibling_refusals file r)
named_sibling file r = by (bytes_eq r.kind (codes "saio")) (is_table_kind r.kind) (is_table (bytes_eq r.kind wide_kind) (payload_at file r))
  where
    by : (a b c : Bool) → AreNamed (cond a (OffsetTable r.start ∷ []) (cond b (cond c [] (BadTable r.start ∷ [])) []))
    by true b c = ((λ h. cc (h)), tt)
    by false true true = tt
    by false true false = ((λ h. cc (h)), tt)
    by false false c = tt

-- by the boxes on a path
named_below : (file : List ℕ) (kinds : List (List ℕ)) (rows : List RootBox) → AreNamed (refusals_below file kinds rows)
named_below file [] rows = named_flat (sibling_refusals file) (named_sibling file) rows
named_below file (kind ∷ kinds) rows = named_flat _ (λ r. by r (λ inside. named_below file kinds inside) (bytes_eq r.kind kind) (inner file r)) rows
  where
    by : (r : RootBox) → ((inside : List RootBox) → AreNamed (refusals_below file kinds inside))
        → (t : Bool) (o : Option (List RootBox))
        → AreNamed (cond t (option_map_or (refusals_below file kinds) o (BadTree r.start ∷ [])) [])
    by r rest true None = ((λ h. cc (h)), tt)
    by r rest true (Some inside) = rest inside
    by r rest false o = tt

-- all errors of a file are named
named_all : (file : List ℕ) (rows : List RootBox) → AreNamed (shift_refusals file rows)
unfolding shift_refusals
named_all file rows =
    named_append (root_refusals rows) (refusals_below file table_path rows) (named_roots rows)
    (named_below file table_path rows)

-- where no refusal is told of named errors, there is none of these
none_named : (es : List ShiftError) → AreNamed es → flat_map shift_refusal es ≡ [] → es ≡ []
none_named [] n e = refl
none_named (x ∷ es) n e = absurd (n.0 (both_none (shift_refusal x) (flat_map shift_refusal es) e).0)

-- nothing stands in the way of moving media data where nothing of it is refused
pub none_shifted : (file : List ℕ) (rows : List RootBox) → flat_map shift_refusal (shift_refusals file rows) ≡ []
    → shift_refusals file rows ≡ []
none_shifted file rows = none_named (shift_refusals file rows) (named_all file rows)

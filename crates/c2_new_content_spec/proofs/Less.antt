-- A chain less what is redacted: labels, children and what is reached stay, also with a new manifest behind it.
use Rattle.std.proofs.Common.{◌≡◌, ℕ, zero, suc, ◌+◌, ◌<◌, Bool, true, false, not, cond, List, [], ◌∷◌, ◌++◌, length, Option, Some, None, slice_get, refl, sym, ap, ◌∙◌, arith, bytes_eq}
use Rattle.std.specs.Prelude.{nat_lt, filter, filter_map, option_and_then}
use Rattle.std.specs.List.{AllByRecursion, prefix_len, cons_option}
use Rattle.c2_rules.specs.Chains.{label_in, place_of, place_before, child_of, boxes_at, children, reaches_within, named_in, named_by}
use Rattle.c2_rules.specs.Ingredients.{is_ingredient}
use Rattle.c2_rules.specs.Readings.{ReadBox, Reading, value_in}
use Rattle.c2_chain_spec.specs.Older.{is_kept}
use Rattle.c2_new_file_spec.specs.Less.{AreLess}
use Rattle.c2_new_file_spec.specs.Redacting.{takes_out}
use Rattle.c2_new_file_spec.proofs.Places.{less_at, less_label, less_len}
use Rattle.c2_new_content_spec.proofs.More.{children_front, reach_same}

-- places by label
less_prefix : (redacts : List (List ℕ)) (label : List ℕ) (rs ss : List Reading) → AreLess redacts rs ss
    → prefix_len (λ (x : Reading). not (bytes_eq (label_in x) label)) ss ≡ prefix_len (λ (x : Reading). not (bytes_eq (label_in x) label)) rs
less_prefix redacts label [] [] h = refl
less_prefix redacts label [] (s ∷ ss) h = absurd h
less_prefix redacts label (r ∷ rs) [] h = absurd h
less_prefix redacts label (r ∷ rs) (s ∷ ss) h =
    ap
    (λ (l : List ℕ). cond (not (bytes_eq l label)) (1 + prefix_len (λ (x : Reading). not (bytes_eq (label_in x) label)) ss) 0)
    (less_label redacts r s h.0)
    ∙ ap (λ n. cond (not (bytes_eq (label_in r) label)) (1 + n) 0) (less_prefix redacts label rs ss h.1)

-- a label's place stays
pub less_place : (redacts : List (List ℕ)) (rs ss : List Reading) (label : List ℕ) → AreLess redacts rs ss
    → place_of ss label ≡ place_of rs label
less_place redacts rs ss label h =
    ap (λ n. cond (nat_lt n (length ss)) (Some n) None) (less_prefix redacts label rs ss h)
    ∙ ap
    (λ m. cond (nat_lt (prefix_len (λ (x : Reading). not (bytes_eq (label_in x) label)) rs) m) (Some (prefix_len (λ (x : Reading). not (bytes_eq (label_in x) label)) rs)) None)
    (less_len redacts rs ss h)

-- ---- children

-- a box that is lost names nothing
unfoldable pub Silent : List (List ℕ) → List ℕ → ReadBox → Type 0
Silent redacts label b = is_kept (takes_out redacts label) b ≡ false → value_in b.ingredient ≡ None

-- boxes that are lost name nothing
pub silent_boxes : (redacts : List (List ℕ)) (label : List ℕ) (bs : List ReadBox)
    → AllByRecursion (λ (b : ReadBox). is_kept (takes_out redacts label) b ≡ false → is_ingredient b.boxed ≡ false) bs
    → AllByRecursion (λ (b : ReadBox). is_ingredient b.boxed ≡ false → value_in b.ingredient ≡ None) bs
    → AllByRecursion (Silent redacts label) bs
unfolding Silent
silent_boxes redacts label [] h k = tt
silent_boxes redacts label (b ∷ bs) h k = (λ e. k.0 (h.0 e), silent_boxes redacts label bs h.1 k.1)

-- a box names the same child
child_same : (redacts : List (List ℕ)) (rs ss : List Reading) (i : ℕ) (b : ReadBox) → AreLess redacts rs ss
    → child_of ss i b ≡ child_of rs i b
child_same redacts rs ss i b h = go (named_in b)
  where
    go : (o : Option (List ℕ))
        → place_before i (option_and_then (place_of ss) o) ≡ place_before i (option_and_then (place_of rs) o)
    go None = refl
    go (Some label) = ap (place_before i) (less_place redacts rs ss label h)

-- one box more
kept_step : (redacts : List (List ℕ)) (rs ss : List Reading) (i : ℕ) (label : List ℕ) (b : ReadBox)
    (kept : List ReadBox) (x : Bool)
    → is_kept (takes_out redacts label) b ≡ x → Silent redacts label b → AreLess redacts rs ss
    → filter_map (child_of ss i) (cond x (b ∷ kept) kept) ≡ cons_option (child_of rs i b) (filter_map (child_of ss i) kept)
unfolding Silent
kept_step redacts rs ss i label b kept true e s h =
    ap (λ o. cons_option o (filter_map (child_of ss i) kept)) (child_same redacts rs ss i b h)
kept_step redacts rs ss i label b kept false e s h =
    sym
    (ap (λ o. cons_option (place_before i (option_and_then (place_of rs) (named_by o))) (filter_map (child_of ss i) kept)) (s e))

-- the boxes that are kept name the same children
kept_children : (redacts : List (List ℕ)) (rs ss : List Reading) (i : ℕ) (label : List ℕ) (bs : List ReadBox)
    → AllByRecursion (Silent redacts label) bs → AreLess redacts rs ss
    → filter_map (child_of ss i) (filter (is_kept (takes_out redacts label)) bs) ≡ filter_map (child_of rs i) bs
kept_children redacts rs ss i label [] s h = refl
kept_children redacts rs ss i label (b ∷ bs) s h =
    kept_step redacts rs ss i label b (filter (is_kept (takes_out redacts label)) bs)
    (is_kept (takes_out redacts label) b) refl s.0 h
    ∙ ap (cons_option (child_of rs i b)) (kept_children redacts rs ss i label bs s.1 h)

-- the boxes of what stands at a place
boxes_some : (rs : List Reading) (i : ℕ) (r : Reading) → slice_get rs i ≡ Some r → boxes_at rs i ≡ r.boxes
boxes_some [] i r e = absurd (cc (e))
boxes_some (x ∷ xs) zero r e = let same : x ≡ r = cc (e) in ap (λ (y : Reading). y.boxes) same
boxes_some (x ∷ xs) (suc i) r e = boxes_some xs i r e

-- what a chain is whose lost boxes name nothing
pub record Quiet (redacts : List (List ℕ)) (rs ss : List Reading) : Type 0 where
  pub are_less : AreLess redacts rs ss
  pub silent : (i : ℕ) (r : Reading) → slice_get rs i ≡ Some r → AllByRecursion (Silent redacts (label_in r)) r.boxes

-- the children stay in a chain whose lost boxes name nothing
less_children : (redacts : List (List ℕ)) (rs ss : List Reading) (i : ℕ) → Quiet redacts rs ss → i < length rs
    → children ss i ≡ children rs i
less_children redacts rs ss i q lt =
    let t = less_at redacts rs ss i q.are_less lt in
    ap (filter_map (child_of ss i)) (boxes_some ss i t.new t.is_new ∙ ap (λ (x : Reading). x.boxes) t.less.is)
    ∙ kept_children redacts rs ss i (label_in t.old) t.old.boxes (q.silent i t.old t.is_old) q.are_less
    ∙ sym (ap (filter_map (child_of rs i)) (boxes_some rs i t.old t.is_old))

-- ---- with the new manifest behind

-- with the new manifest behind, an older manifest has the same children
both_children : (redacts : List (List ℕ)) (rs ss : List Reading) (x : Reading) (i : ℕ) → Quiet redacts rs ss
    → i < length rs → children (ss ++ x ∷ []) i ≡ children rs i
both_children redacts rs ss x i q lt =
    children_front ss x i (omega (arith, less_len redacts rs ss q.are_less, lt)) ∙ less_children redacts rs ss i q lt

-- with the new manifest behind, an older manifest reaches the same manifests
pub both_reach : (redacts : List (List ℕ)) (rs ss : List Reading) (x : Reading) (k i m : ℕ) → Quiet redacts rs ss
    → i < length rs → reaches_within (ss ++ x ∷ []) k i m ≡ reaches_within rs k i m
both_reach redacts rs ss x k i m q lt =
    reach_same (ss ++ x ∷ []) rs (length rs) k i m (λ j below. both_children redacts rs ss x j q below) lt

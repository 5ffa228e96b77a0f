-- The manifests that flags want, one by one, and how long they are.
use Rattle.std.proofs.Common.{◌≡◌, ℕ, ◌+◌, ◌<◌, ◌≤◌, Bool, true, false, cond, List, [], ◌∷◌, ◌++◌, length, drop, Some, slice_get, sym, ap, ◌∙◌, arith, append-nil, append_assoc, length-append}
use Rattle.std.proofs.Math.ListN.{drop_of_length-le}
use Rattle.std.proofs.lemmas.List.{drop_more}
use Rattle.std.proofs.lemmas.Option.{get_or_from_slice_get, slice_get_within}
use Rattle.c2_spec.specs.Jumbf.Tree.{Tree, Trees, none, tree_bytes, trees_bytes}
use Rattle.c2_chain_spec.specs.Joined.{picked}
use Rattle.c2_new_file_spec.specs.Manifests.{supers_in}
use Rattle.c2_collect_spec.specs.Sides.{boxes_then}
use Rattle.c2_collect.specs.Carried.{wanted_bytes, wanted_from}
use Rattle.c2_collect.specs.Marked.{box_bytes, flag_at}
use Rattle.c2_collect.proofs.Manifests.{mapped_from}
use Rattle.c2_collect_spec.proofs.Lengths.{picked_less}
use Rattle.c2_lemmas.proofs.Options.{some_at}

-- ---- one by one

-- what is left from a place on, whose manifest is this
left_at : (flags : List Bool) (ts : List Tree) (k : ℕ) (t : Tree) (b : Bool) → slice_get ts k ≡ Some t
    → flag_at flags k ≡ b
    → wanted_from flags k (drop k ts) ≡ trees_bytes (boxes_then none (cond b (t ∷ picked (λ i u. flag_at flags i) (k + 1) (drop (k + 1) ts)) (picked (λ i u. flag_at flags i) (k + 1) (drop (k + 1) ts))))
left_at flags ts k t b is flag =
    ap (wanted_from flags k)
    (drop_more ts k t (slice_get_within ts k t is) ∙ ap (λ x. x ∷ drop (k + 1) ts) (get_or_from_slice_get ts k t t is))
    ∙ ap
    (λ c. trees_bytes (boxes_then none (cond c (t ∷ picked (λ i u. flag_at flags i) (k + 1) (drop (k + 1) ts)) (picked (λ i u. flag_at flags i) (k + 1) (drop (k + 1) ts)))))
    flag

-- one that is wanted
pub left_wanted : (flags : List Bool) (ts : List Tree) (k : ℕ) (bytes : List ℕ)
    → slice_get (box_bytes ts) k ≡ Some bytes → flag_at flags k ≡ true
    → wanted_from flags k (drop k ts) ≡ bytes ++ wanted_from flags (k + 1) (drop (k + 1) ts)
left_wanted flags ts k bytes at flag =
    let m = mapped_from tree_bytes ts k bytes at in
    left_at flags ts k m.it true m.is flag
    ∙ ap (λ (x : List ℕ). x ++ wanted_from flags (k + 1) (drop (k + 1) ts)) m.gives

-- one that isn't
pub left_unwanted : (flags : List Bool) (ts : List Tree) (k : ℕ) → k < length ts → flag_at flags k ≡ false
    → wanted_from flags k (drop k ts) ≡ wanted_from flags (k + 1) (drop (k + 1) ts)
left_unwanted flags ts k lt flag = let m = some_at ts k lt in left_at flags ts k m.0 false m.1 flag

-- nothing is left behind the end
pub left_none : (flags : List Bool) (ts : List Tree) (k : ℕ) → length ts ≤ k → wanted_from flags k (drop k ts) ≡ []
left_none flags ts k le = ap (wanted_from flags k) (drop_of_length-le ts le)

-- ---- appending

-- one that is wanted
pub append_one : (flags : List Bool) (ts : List Tree) (k : ℕ) (out next all bytes : List ℕ)
    → out ++ wanted_from flags k (drop k ts) ≡ all → slice_get (box_bytes ts) k ≡ Some bytes → flag_at flags k ≡ true
    → next ≡ out ++ bytes
    → next ++ wanted_from flags (k + 1) (drop (k + 1) ts) ≡ all
append_one flags ts k out next all bytes h at flag e =
    ap (λ (x : List ℕ). x ++ wanted_from flags (k + 1) (drop (k + 1) ts)) e
    ∙ append_assoc out bytes (wanted_from flags (k + 1) (drop (k + 1) ts))
    ∙ ap (λ (x : List ℕ). out ++ x) (sym (left_wanted flags ts k bytes at flag)) ∙ h

-- one that isn't
pub append_none : (flags : List Bool) (ts : List Tree) (k : ℕ) (out next all : List ℕ)
    → out ++ wanted_from flags k (drop k ts) ≡ all → k < length ts → flag_at flags k ≡ false → next ≡ out
    → next ++ wanted_from flags (k + 1) (drop (k + 1) ts) ≡ all
append_none flags ts k out next all h lt flag e =
    ap (λ (x : List ℕ). x ++ wanted_from flags (k + 1) (drop (k + 1) ts)) e
    ∙ ap (λ (x : List ℕ). out ++ x) (sym (left_unwanted flags ts k lt flag)) ∙ h

-- nothing is left behind the end
pub append_end : (flags : List Bool) (ts : List Tree) (k : ℕ) (out all : List ℕ)
    → out ++ wanted_from flags k (drop k ts) ≡ all → length ts ≤ k → out ≡ all
append_end flags ts k out all h le =
    sym (append-nil out) ∙ ap (λ (x : List ℕ). out ++ x) (sym (left_none flags ts k le)) ∙ h

-- ---- lengths

-- one that is wanted
pub count_one : (flags : List Bool) (ts : List Tree) (k len next all : ℕ) (bytes : List ℕ)
    → len + length (wanted_from flags k (drop k ts)) ≡ all → slice_get (box_bytes ts) k ≡ Some bytes
    → flag_at flags k ≡ true → next ≡ len + length bytes
    → next + length (wanted_from flags (k + 1) (drop (k + 1) ts)) ≡ all
count_one flags ts k len next all bytes h at flag e =
    omega
    (arith, h, e, ap length (left_wanted flags ts k bytes at flag), length-append bytes (wanted_from flags (k + 1) (drop (k + 1) ts)))

-- one that isn't
pub count_none : (flags : List Bool) (ts : List Tree) (k len next all : ℕ)
    → len + length (wanted_from flags k (drop k ts)) ≡ all → k < length ts → flag_at flags k ≡ false → next ≡ len
    → next + length (wanted_from flags (k + 1) (drop (k + 1) ts)) ≡ all
count_none flags ts k len next all h lt flag e = omega (arith, h, e, ap length (left_unwanted flags ts k lt flag))

-- nothing is left behind the end
pub count_end : (flags : List Bool) (ts : List Tree) (k len all : ℕ)
    → len + length (wanted_from flags k (drop k ts)) ≡ all → length ts ≤ k → len ≡ all
count_end flags ts k len all h le = omega (arith, h, ap length (left_none flags ts k le))

-- what is wanted of the superboxes is no longer than all boxes
pub wanted_bound : (flags : List Bool) (ts : Trees)
    → length (wanted_bytes flags (supers_in ts)) ≤ length (trees_bytes ts)
wanted_bound flags ts = picked_less (λ i t. flag_at flags i) 0 ts

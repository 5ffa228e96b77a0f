-- What a file is opened as, and the store in it.
use Rattle.c2_spec.proofs.BoxesOfManifests.{signature_inside}
use Rattle.c2_spec.proofs.JumbfParts.{desc_split}
use Rattle.c2_spec.specs.Bmff.Boxes.{SizeForm, header_len, long, short, to_end}
use Rattle.c2_spec.specs.C2pa.Manifest.{IsStoreOf}
use Rattle.c2_spec.specs.Jumbf.Boxes.{tree_count}
use Rattle.c2_spec.specs.Jumbf.Tree.{IsNewLabel, Tree, description_payload}
use Rattle.c2_spec.specs.Jumbf.Writing.{fresh_description}
use Rattle.c2_spec.specs.Located.{Opening, absent, here, refused}
use Rattle.c2_spec.specs.declared.reason.Reason.{Reason}
use Rattle.c2_spec.specs.declared.store.ManifestBoxes.{ManifestBoxes}
use Rattle.std.proofs.Common.{Bool, Err, List, None, Ok, Option, Result, Some, [], ap, arith, cond, false, length, length-append, map, option_map, slice_get, subst, suc, true, ℕ, ◌++◌, ◌+◌, ◌<◌, ◌∙◌, ◌∷◌, ◌≡◌, ◌≢◌, ◌≤◌}
use Rattle.std.specs.List.{AllByRecursion, filter}
use Rattle.std.specs.Option.{IfSome}

-- a label that is new to a list is new to what is kept of it
pub new_filtered : (f : ℕ → Option (List ℕ)) (d : ℕ → Bool) (o : Option (List ℕ)) (xs : List ℕ)
    → IsNewLabel o (map f xs)
    → IsNewLabel o (map f (filter d xs))
new_filtered f d None xs h = tt
new_filtered f d (Some t) xs h = by xs h
  where
    more : (y : ℕ) (ys : List ℕ) (b : Bool) → f y ≢ Some t
        → AllByRecursion (λ x. x ≢ Some t) (map f (filter d ys))
        → AllByRecursion (λ x. x ≢ Some t) (map f (cond b (y ∷ filter d ys) (filter d ys)))
    more y ys true own rest = (own, rest)
    more y ys false own rest = rest

    by : (ys : List ℕ) → AllByRecursion (λ x. x ≢ Some t) (map f ys)
        → AllByRecursion (λ x. x ≢ Some t) (map f (filter d ys))
    by [] g = tt
    by (y ∷ ys) g = more y ys (d y) g.0 (by ys g.1)

-- the payload of a new description has 18 bytes and the label
pub payload_size : (uuid label : List ℕ) → length uuid ≡ 16
    → length (description_payload (fresh_description uuid label)) ≡ 18 + length label
payload_size uuid label n =
    let a : length (description_payload (fresh_description uuid label)) ≡ length uuid + suc (length ((label ++ 0 ∷ []) ++ ([] ++ ([] ++ [])))) =
    ap length (desc_split (fresh_description uuid label))
    ∙ length-append uuid (3 ∷ ((label ++ 0 ∷ []) ++ ([] ++ ([] ++ [])))) in
    let b : length ((label ++ 0 ∷ []) ++ ([] ++ ([] ++ []))) ≡ length (label ++ 0 ∷ []) + 0 =
    length-append (label ++ 0 ∷ []) ([] ++ ([] ++ [])) in
    let d : length (label ++ 0 ∷ []) ≡ length label + 1 = length-append label (0 ∷ []) in
    omega (arith, a, b, d, n)

-- a signature box that is there is a box of the tree
pub sign_inside : (t : Tree) (s : List ManifestBoxes) (i : ℕ) (o : Option ℕ) → IsStoreOf t s
    → Some o ≡ option_map (λ (m : ManifestBoxes). m.signature) (slice_get s i) → IfSome o (λ j. j < tree_count t)
sign_inside t s i None is e = tt
sign_inside t s i (Some j) is e = signature_inside t s i j is e

-- a header has bytes
pub some_header : (f : SizeForm) → 8 ≤ header_len f
some_header short = omega arith
some_header long = omega arith
some_header to_end = omega arith

-- ---- what a file is opened as, passed on

-- what something is opened as, passed on as it is, or what refuses it under another name
abbrev pub passed_opening : {T E : Type 0} → (Reason → ℕ → E) → Opening T → Result (Opening T) E
passed_opening name (refused reason number) = Err (name reason number)
passed_opening name absent = Ok absent
passed_opening name (here start len t) = Ok (here start len t)

-- what is passed on is what it was opened as
pub opening_value : {T E : Type 0} (name : Reason → ℕ → E) (Is : Opening T → Type 0) (what : Opening T)
    → ((w : Opening T) × Is w × (Ok what ≡ passed_opening name w)) → Is what
opening_value {T} {E} name Is what h = by h.0 h.1 h.2
  where
    same : (w : Opening T) → ◌≡◌ {A = Result (Opening T) E} (Ok what) (Ok w) → w ≡ what
    same w e = cc (e)

    by : (w : Opening T) → Is w → Ok what ≡ passed_opening name w → Is what
    by (refused reason number) o e = absurd (cc (e))
    by absent o e = subst Is (same absent e) o
    by (here start len t) o e = subst Is (same (here start len t) e) o

-- nothing is refused where nothing is opened as refused
pub opening_never : {T E : Type 0} (name : Reason → ℕ → E) (Is : Opening T → Type 0)
    → ((reason : Reason) (number : ℕ) → Is (refused reason number) → ⊥) → (e : E)
    → ((w : Opening T) × Is w × (Err e ≡ passed_opening name w)) → ⊥
opening_never {T} {E} name Is never e h = by h.0 h.1 h.2
  where
    by : (w : Opening T) → Is w → Err e ≡ passed_opening name w → ⊥
    by (refused reason number) o q = never reason number o
    by absent o q = cc (q)
    by (here start len t) o q = cc (q)

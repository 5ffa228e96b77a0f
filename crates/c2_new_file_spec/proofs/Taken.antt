-- Boxes that are taken out of a store: what is left is legal, and read as before less those boxes.
use Rattle.std.proofs.Common.{◌≡◌, ℕ, ◌+◌, ◌≤◌, Bool, true, false, not, ◌&&◌, cond, List, [], ◌∷◌, ◌++◌, length, map, Option, Some, None, refl, sym, ap, ◌∙◌, subst, arith, length-append, codes}
use Rattle.std.specs.Prelude.{slice_get, filter, find, option_map, option_and_then, unwrap_or}
use Rattle.std.specs.List.{AllByRecursion, AllZip}
use Rattle.std.proofs.lemmas.Bool.{and_parts, not-true, true≢false, false≢true}
use Rattle.std.proofs.lemmas.Slice.Eq.{bytes_eq-Decides}
use Rattle.c2_spec.specs.C2pa.Claim.{claim_of}
use Rattle.c2_spec.specs.C2pa.Manifest.{Manifest, Superbox, claim_bytes, is_given, type_uuid, has_label, claim_version_of}
use Rattle.c2_spec.specs.Jumbf.Boxes.{node, any_label, any_contents}
use Rattle.c2_spec.specs.Jumbf.Tree.{Description, Tree, Trees, leaf, super, none, more, tree_bytes, trees_bytes, tree_label, tree_labels, IsNewLabel, AreDistinctLabels, FitsHead, boxed, description_bytes, IsLegalTree, AreLegalTrees}
use Rattle.c2_spec.specs.declared.kinds.TheConstants.{JUMB}
use Rattle.c2_rules.specs.Chains.{label_in, passes_some}
use Rattle.c2_rules.specs.Ingredients.{label_text}
use Rattle.c2_rules.specs.Readings.{ReadBox, Reading, IsReadBox, IsReading, IsParsed, IsMessageOf}
use Rattle.c2_chain_spec.specs.Older.{is_kept, thinned}
use Rattle.c2_new_file_spec.specs.Manifests.{is_super, supers_in, supers_of, superbox_of, supers_inside, is_claim_box, is_signature_box, is_assertion_store, manifest_of}
use Rattle.c2_new_file_spec.specs.Less.{WholeStays, IsLess, RedactedStoreIsRead, AllAreCarried}
use Rattle.c2_new_file_spec.specs.Redacting.{without, thin_store, thin_boxes, takes_out, redacted_box, redacted_boxes}
use Rattle.c2_new_file_spec.specs.Refusing.{kept_boxes}
use Rattle.c2_spec.proofs.JumbfNoFault.{tail_new}

-- ---- types

-- a box of one type is none of another
as_no_cl : (t : Tree) → is_assertion_store t ≡ true → is_claim_box t ≡ false
as_no_cl (leaf b) e = refl
as_no_cl (super wide d us) e = by_uuid d.uuid (and_parts _ _ e).0
  where
    by_uuid : (u : List ℕ) → is_given (Some u) (type_uuid (codes "c2as")) ≡ true
        → is_given (Some u) (type_uuid (codes "c2cl")) ≡ false
    by_uuid u f = let same : u ≡ type_uuid (codes "c2as") = (bytes_eq-Decides u (type_uuid (codes "c2as"))).0 f in ap (λ (x : List ℕ). is_given (Some x) (type_uuid (codes "c2cl"))) same

-- an assertion store is no signature box
pub as_no_cs : (t : Tree) → is_assertion_store t ≡ true → is_signature_box t ≡ false
as_no_cs (leaf b) e = refl
as_no_cs (super wide d us) e = ap (λ b. b && has_label (codes "c2pa.signature") (node (super wide d us))) (by_uuid d.uuid (and_parts _ _ e).0)
  where
    by_uuid : (u : List ℕ) → is_given (Some u) (type_uuid (codes "c2as")) ≡ true
        → is_given (Some u) (type_uuid (codes "c2cs")) ≡ false
    by_uuid u f = let same : u ≡ type_uuid (codes "c2as") = (bytes_eq-Decides u (type_uuid (codes "c2as"))).0 f in ap (λ (x : List ℕ). is_given (Some x) (type_uuid (codes "c2cs"))) same

-- an assertion store is a superbox
as_super : (t : Tree) → is_assertion_store t ≡ true → is_super t ≡ true
as_super (leaf b) e = absurd (false≢true e)
as_super (super wide d us) e = refl

-- a box with other boxes is of the same type, under the same label
same_as : (out : List ℕ → Bool) (t : Tree) → is_assertion_store (thin_store out t) ≡ is_assertion_store t
same_as out (leaf b) = refl
same_as out (super wide d us) = refl

-- a superbox stays one
same_super : (out : List ℕ → Bool) (t : Tree) → is_super (thin_store out t) ≡ is_super t
same_super out (leaf b) = refl
same_super out (super wide d us) = refl

-- a box less what is taken out keeps its label
same_label : (out : List ℕ → Bool) (t : Tree) → tree_label (thin_store out t) ≡ tree_label t
same_label out (leaf b) = refl
same_label out (super wide d us) = refl

-- ---- the boxes of a manifest, of which the assertion store is changed

-- what is no assertion store is found as before
found_same : (p : Tree → Bool) (out : List ℕ → Bool) (us : Trees)
    → ((t : Tree) → is_assertion_store t ≡ true → p t ≡ false)
    → filter p (supers_in (thin_boxes out us)) ≡ filter p (supers_in us)
found_same p out none h = refl
found_same p out (more t ts) h = go (is_assertion_store t) refl (found_same p out ts h)
  where
    -- a box that doesn't pass is passed over
    pass : (u : Tree) (b : Bool) (rest : List Tree) → p u ≡ false → is_super u ≡ b
        → filter p (cond b (u ∷ rest) rest) ≡ filter p rest
    pass u true rest e g = ap (λ x. cond x (u ∷ filter p rest) (filter p rest)) e
    pass u false rest e g = refl

    keep : (b : Bool) (xs ys : List Tree) → filter p xs ≡ filter p ys
        → filter p (cond b (t ∷ xs) xs) ≡ filter p (cond b (t ∷ ys) ys)
    keep true xs ys e = ap (λ (zs : List Tree). cond (p t) (t ∷ zs) zs) e
    keep false xs ys e = e

    go : (b : Bool) → is_assertion_store t ≡ b → filter p (supers_in (thin_boxes out ts)) ≡ filter p (supers_in ts)
        → filter p (supers_in (cond b (more (thin_store out t) ts) (more t (thin_boxes out ts)))) ≡ filter p (supers_in (more t ts))
    go true e k =
        pass (thin_store out t) (is_super (thin_store out t)) (supers_in ts) (h (thin_store out t) (same_as out t ∙ e))
        refl
        ∙ sym (pass t (is_super t) (supers_in ts) (h t e) refl)
    go false e k = keep (is_super t) (supers_in (thin_boxes out ts)) (supers_in ts) k

-- the first of a list is the first that passes
first_step : (p : Tree → Bool) (y : Tree) (ys : List Tree) (b : Bool) → find p ys ≡ slice_get (filter p ys) 0
    → cond b (Some y) (find p ys) ≡ slice_get (cond b (y ∷ filter p ys) (filter p ys)) 0
first_step p y ys true e = refl
first_step p y ys false e = e

-- what is found first is the first that passes
find_first : (p : Tree → Bool) (xs : List Tree) → find p xs ≡ slice_get (filter p xs) 0
find_first p [] = refl
find_first p (x ∷ xs) = first_step p x xs (p x) (find_first p xs)

-- the assertion store is found changed
store_step : (out : List ℕ → Bool) (t : Tree) (b : Bool) (xs ys : List Tree) → is_assertion_store t ≡ false
    → find is_assertion_store xs ≡ option_map (thin_store out) (find is_assertion_store ys)
    → find is_assertion_store (cond b (t ∷ xs) xs) ≡ option_map (thin_store out) (find is_assertion_store (cond b (t ∷ ys) ys))
store_step out t true xs ys e k =
    ap (λ x. cond x (Some t) (find is_assertion_store xs)) e ∙ k
    ∙ ap (option_map (thin_store out)) (sym (ap (λ x. cond x (Some t) (find is_assertion_store ys)) e))
store_step out t false xs ys e k = k

-- the assertion store is found, less what is taken out
found_store : (out : List ℕ → Bool) (us : Trees)
    → find is_assertion_store (supers_in (thin_boxes out us)) ≡ option_map (thin_store out) (find is_assertion_store (supers_in us))
found_store out none = refl
found_store out (more t ts) = go (is_assertion_store t) refl (found_store out ts)
  where
    there : (u : Tree) (b : Bool) (rest : List Tree) → is_assertion_store u ≡ true → is_super u ≡ true → b ≡ true
        → find is_assertion_store (cond b (u ∷ rest) rest) ≡ Some u
    there u true rest e g k = ap (λ x. cond x (Some u) (find is_assertion_store rest)) e
    there u false rest e g k = absurd (false≢true k)

    go : (b : Bool) → is_assertion_store t ≡ b
        → find is_assertion_store (supers_in (thin_boxes out ts)) ≡ option_map (thin_store out) (find is_assertion_store (supers_in ts))
        → find is_assertion_store (supers_in (cond b (more (thin_store out t) ts) (more t (thin_boxes out ts)))) ≡ option_map (thin_store out) (find is_assertion_store (supers_in (more t ts)))
    go true e k =
        there (thin_store out t) (is_super (thin_store out t)) (supers_in ts) (same_as out t ∙ e)
        (same_super out t ∙ as_super t e) (same_super out t ∙ as_super t e)
        ∙ sym (ap (option_map (thin_store out)) (there t (is_super t) (supers_in ts) e (as_super t e) (as_super t e)))
    go false e k = store_step out t (is_super t) (supers_in (thin_boxes out ts)) (supers_in ts) e k

-- ---- the boxes of the assertion store

-- a label that isn't taken out
abbrev keeps : (List ℕ → Bool) → Option (List ℕ) → Bool
keeps out o = not (passes_some out o)

-- the superboxes that are left
without_supers : (out : List ℕ → Bool) (us : Trees)
    → supers_in (without out us) ≡ filter (λ (t : Tree). keeps out (any_label (node t))) (supers_in us)
without_supers out none = refl
without_supers out (more (leaf b) ts) = without_supers out ts
without_supers out (more (super wide d us) ts) = go d.label (without_supers out ts)
  where
    go : (o : Option (List ℕ))
        → supers_in (without out ts) ≡ filter (λ (t : Tree). keeps out (any_label (node t))) (supers_in ts)
        → supers_in (cond (passes_some out o) (without out ts) (more (super wide d us) (without out ts))) ≡ cond (keeps out o) (super wide d us ∷ filter (λ (t : Tree). keeps out (any_label (node t))) (supers_in ts)) (filter (λ (t : Tree). keeps out (any_label (node t))) (supers_in ts))
    go None k = ap (λ (x : List Tree). super wide d us ∷ x) k
    go (Some l) k = by_test (out l) k
      where
        by_test : (b : Bool)
            → supers_in (without out ts) ≡ filter (λ (t : Tree). keeps out (any_label (node t))) (supers_in ts)
            → supers_in (cond b (without out ts) (more (super wide d us) (without out ts))) ≡ cond (not b) (super wide d us ∷ filter (λ (t : Tree). keeps out (any_label (node t))) (supers_in ts)) (filter (λ (t : Tree). keeps out (any_label (node t))) (supers_in ts))
        by_test true k = k
        by_test false k = ap (λ (x : List Tree). super wide d us ∷ x) k

-- as the rules see them
boxed_filter : (out : List ℕ → Bool) (ss : List Tree)
    → map superbox_of (filter (λ (t : Tree). keeps out (any_label (node t))) ss) ≡ filter (λ (b : Superbox). keeps out b.label) (map superbox_of ss)
boxed_filter out [] = refl
boxed_filter out (s ∷ ss) = go (keeps out (any_label (node s))) (boxed_filter out ss)
  where
    go : (b : Bool)
        → map superbox_of (filter (λ (t : Tree). keeps out (any_label (node t))) ss) ≡ filter (λ (b : Superbox). keeps out b.label) (map superbox_of ss)
        → map superbox_of (cond b (s ∷ filter (λ (t : Tree). keeps out (any_label (node t))) ss) (filter (λ (t : Tree). keeps out (any_label (node t))) ss))
        ≡ cond b (superbox_of s ∷ filter (λ (b : Superbox). keeps out b.label) (map superbox_of ss))
        (filter (λ (b : Superbox). keeps out b.label) (map superbox_of ss))
    go true k = ap (λ (x : List Superbox). superbox_of s ∷ x) k
    go false k = k

-- the assertions of a manifest that are left
assertions_kept : (out : List ℕ → Bool) (o : Option Tree)
    → map superbox_of (supers_inside (option_map (thin_store out) o)) ≡ filter (λ (b : Superbox). keeps out b.label) (map superbox_of (supers_inside o))
assertions_kept out None = refl
assertions_kept out (Some (leaf b)) = refl
assertions_kept out (Some (super wide d us)) =
    ap (map superbox_of) (without_supers out us) ∙ boxed_filter out (supers_in us)

-- what the assertions of a manifest that are left are read as
zip_kept : (out : List ℕ → Bool) (bs : List Superbox) (rs : List ReadBox) → AllZip IsReadBox bs rs
    → AllZip IsReadBox (filter (λ (b : Superbox). keeps out b.label) bs) (filter (λ (r : ReadBox). keeps out r.boxed.label) rs)
zip_kept out [] [] h = tt
zip_kept out [] (r ∷ rs) h = absurd h
zip_kept out (b ∷ bs) [] h = absurd h
zip_kept out (b ∷ bs) (r ∷ rs) h = go (keeps out b.label) (keeps out r.boxed.label) (ap (λ (x : Superbox). keeps out x.label) h.0.same) (zip_kept out bs rs h.1)
  where
    go : (x y : Bool) → y ≡ x
        → AllZip IsReadBox (filter (λ (b : Superbox). keeps out b.label) bs) (filter (λ (r : ReadBox). keeps out r.boxed.label) rs)
        → AllZip IsReadBox (cond x (b ∷ filter (λ (b : Superbox). keeps out b.label) bs) (filter (λ (b : Superbox). keeps out b.label) bs)) (cond y (r ∷ filter (λ (r : ReadBox). keeps out r.boxed.label) rs) (filter (λ (r : ReadBox). keeps out r.boxed.label) rs))
    go true true e k = (h.0, k)
    go true false e k = absurd (false≢true e)
    go false true e k = absurd (true≢false e)
    go false false e k = k

-- ---- where nothing is taken out

-- the labels of the superboxes among boxes are kept
abbrev KeepsEach : (List ℕ → Bool) → List Tree → Type 0
KeepsEach out ss = AllByRecursion (λ (t : Tree). keeps out (any_label (node t)) ≡ true) ss

-- boxes of which each is kept stay
without_none : (out : List ℕ → Bool) (us : Trees) → KeepsEach out (supers_in us) → without out us ≡ us
without_none out none h = refl
without_none out (more (leaf b) ts) h = ap (more (leaf b)) (without_none out ts h)
without_none out (more (super wide d us) ts) h =
    ap (λ b. cond b (without out ts) (more (super wide d us) (without out ts))) (false_of (passes_some out d.label) h.0)
    ∙ ap (more (super wide d us)) (without_none out ts h.1)
  where
    false_of : (b : Bool) → not b ≡ true → b ≡ false
    false_of b e = not-true b e

-- an assertion store of whose boxes each is kept stays
with_none : (out : List ℕ → Bool) (t : Tree) → KeepsEach out (supers_of t) → thin_store out t ≡ t
with_none out (leaf b) h = refl
with_none out (super wide d us) h = ap (super wide d) (without_none out us h)

-- the boxes of a manifest stay whose assertion store does
change_none : (out : List ℕ → Bool) (us : Trees)
    → ((t : Tree) → find is_assertion_store (supers_in us) ≡ Some t → thin_store out t ≡ t) → thin_boxes out us ≡ us
change_none out none h = refl
change_none out (more t ts) h = go (is_assertion_store t) refl (change_none out ts)
  where
    here : is_assertion_store t ≡ true → find is_assertion_store (supers_in (more t ts)) ≡ Some t
    here e =
        ap (λ b. find is_assertion_store (cond b (t ∷ supers_in ts) (supers_in ts))) (as_super t e)
        ∙ ap (λ x. cond x (Some t) (find is_assertion_store (supers_in ts))) e

    later : (b : Bool) → is_assertion_store t ≡ false
        → find is_assertion_store (cond b (t ∷ supers_in ts) (supers_in ts)) ≡ find is_assertion_store (supers_in ts)
    later true e = ap (λ x. cond x (Some t) (find is_assertion_store (supers_in ts))) e
    later false e = refl

    go : (b : Bool) → is_assertion_store t ≡ b
        → (((u : Tree) → find is_assertion_store (supers_in ts) ≡ Some u → thin_store out u ≡ u) → thin_boxes out ts ≡ ts)
        → cond b (more (thin_store out t) ts) (more t (thin_boxes out ts)) ≡ more t ts
    go true e k = ap (λ x. more x ts) (h t (here e))
    go false e k = ap (more t) (k (λ u g. h u (later (is_super t) e ∙ g)))

-- where each box that was read is kept, each box is
boxed_keeps : (out : List ℕ → Bool) (ss : List Tree) (rs : List ReadBox) → AllZip IsReadBox (map superbox_of ss) rs
    → AllByRecursion (λ (r : ReadBox). keeps out r.boxed.label ≡ true) rs → KeepsEach out ss
boxed_keeps out [] rs h k = tt
boxed_keeps out (s ∷ ss) [] h k = absurd h
boxed_keeps out (s ∷ ss) (r ∷ rs) h k =
    (sym (ap (λ (x : Superbox). keeps out x.label) h.0.same) ∙ k.0, boxed_keeps out ss rs h.1 k.1)

-- ---- a manifest

-- what is read of a manifest that loses assertions
record LosesBoxes (redacts : List (List ℕ)) (s : Tree) (r : Reading) : Type 0 where
  new : Reading
  less : IsLess redacts r new
  reads : IsReading (manifest_of (redacted_box redacts s)) new

-- a manifest that loses boxes is read less those
loses : (redacts : List (List ℕ)) (wide : Bool) (d : Description) (us : Trees) (r : Reading)
    → IsReading (manifest_of (super wide d us)) r → LosesBoxes redacts (super wide d us) r
loses redacts wide d us r h =
    let label : label_in r ≡ unwrap_or d.label [] = ap (λ (m : Manifest). label_text m) h.same in
    let out : List ℕ → Bool = takes_out redacts (unwrap_or d.label []) in
    let old : Manifest = manifest_of (super wide d us) in
    let new : Manifest = manifest_of (redacted_box redacts (super wide d us)) in
    let claims : new.claims ≡ old.claims = ap (map superbox_of) (found_same is_claim_box out us as_no_cl) in
    let signature : new.signature ≡ old.signature =
    ap (option_map superbox_of) (find_first is_signature_box (supers_in (thin_boxes out us)) ∙ ap (λ (x : List Tree). slice_get x 0) (found_same is_signature_box out us as_no_cs)
    ∙ sym (find_first is_signature_box (supers_in us))) in
    let assertions : new.assertions ≡ filter (λ (b : Superbox). keeps out b.label) old.assertions =
    ap (λ o. map superbox_of (supers_inside o)) (found_store out us)
    ∙ assertions_kept out (find is_assertion_store (supers_in us)) in
    let y : Reading = thinned (takes_out redacts (label_in r)) new.contents new.assertions r in
    let same : y.manifest ≡ new =
    ap
    (λ (m : Manifest). record { label = m.label; contents = new.contents; is_update = m.is_update; claims = m.claims; signature = m.signature; assertions = new.assertions })
    h.same
    ∙ ap
    (λ (x : List Superbox). record { label = old.label; contents = new.contents; is_update = old.is_update; claims = x; signature = old.signature; assertions = new.assertions })
    (sym claims)
    ∙ ap (λ (x : Option Superbox). record { label = old.label; contents = new.contents; is_update = old.is_update; claims = new.claims; signature = x; assertions = new.assertions }) (sym signature) in
    let boxes : AllZip IsReadBox new.assertions (kept_boxes redacts r) =
    subst (λ (x : List Superbox). AllZip IsReadBox x (kept_boxes redacts r)) (sym assertions)
    (subst (λ (l : List ℕ). AllZip IsReadBox (filter (λ (b : Superbox). keeps out b.label) old.assertions) (filter (is_kept (takes_out redacts l)) r.boxes)) (sym label) (zip_kept out old.assertions r.boxes h.boxes)) in
    record {
      new = y;
      less = record {
        contents = new.contents;
        assertions = new.assertions;
        is = refl;
        same = λ all. ap (λ (x : Trees). any_contents (node (super wide d x))) (change_none out us (λ t g. with_none out t (boxed_keeps out (supers_of t) r.boxes
            (subst (λ o. AllZip IsReadBox (map superbox_of (supers_inside o)) r.boxes) g h.boxes) (subst (λ (l : List ℕ). AllByRecursion (λ (b : ReadBox). is_kept (takes_out redacts l) b ≡ true) r.boxes) label all))))
            ∙ sym (ap (λ (m : Manifest). m.contents) h.same);
      };
      reads = record {
        same = same;
        claim =
            subst (λ (x : List Superbox). IsParsed (claim_of (claim_version_of x)) (claim_bytes x) r.claim) (sym claims)
            h.claim;
        message =
            subst (λ (x : Option Superbox). IsMessageOf (option_and_then (λ (b : Superbox). b.item) x) r.message)
            (sym signature) h.message;
        boxes = boxes;
      };
    }

-- ---- legal

-- fewer bytes fit where more did
fits_less : (wide : Bool) (n m : ℕ) → m ≤ n → FitsHead JUMB wide n → FitsHead JUMB wide m
fits_less true n m le h = record { type = h.type; total = omega (arith, h.total, le) }
fits_less false n m le h = record { type = h.type; total = omega (arith, h.total, le) }

-- the bytes around fewer bytes
boxed_less : (wide : Bool) (xs ys : List ℕ) → length ys ≤ length xs
    → length (boxed JUMB wide ys) ≤ length (boxed JUMB wide xs)
boxed_less true xs ys le = omega arith
boxed_less false xs ys le = omega arith

-- fewer bytes behind the same
append_less : (d xs ys : List ℕ) → length ys ≤ length xs → length (d ++ ys) ≤ length (d ++ xs)
append_less d xs ys le = omega (arith, length-append d xs, length-append d ys)

-- what boxes without some of them are
record Less (depth : ℕ) (us vs : Trees) : Type 0 where
  legal : AreLegalTrees depth vs
  short : length (trees_bytes vs) ≤ length (trees_bytes us)
  labels : (o : Option (List ℕ)) → IsNewLabel o (tree_labels us) → IsNewLabel o (tree_labels vs)
  distinct : AreDistinctLabels (tree_labels us) → AreDistinctLabels (tree_labels vs)

-- a label that is new among fewer stays so behind one more
new_cons : (o p : Option (List ℕ)) (os ps : List (Option (List ℕ))) → (IsNewLabel o os → IsNewLabel o ps)
    → IsNewLabel o (p ∷ os) → IsNewLabel o (p ∷ ps)
new_cons None p os ps k h = tt
new_cons (Some l) p os ps k h = (h.0, k h.1)

-- boxes less some are legal, and shorter
without_less : (out : List ℕ → Bool) (depth : ℕ) (us : Trees) → AreLegalTrees depth us → Less depth us (without out us)
without_less out depth none h = record { legal = tt; short = omega arith; labels = λ o k. k; distinct = λ k. k }
without_less out depth (more t ts) h = go (passes_some out (any_label (node t))) (without_less out depth ts h.1)
  where
    go : (b : Bool) → Less depth ts (without out ts)
        → Less depth (more t ts) (cond b (without out ts) (more t (without out ts)))
    go true k = record {
      legal = k.legal;
      short = omega (arith, k.short, length-append (tree_bytes t) (trees_bytes ts));
      labels = λ o g. k.labels o (tail_new o (tree_label t) (tree_labels ts) g);
      distinct = λ g. k.distinct g.1;
    }
    go false k = record {
      legal = (h.0, k.legal);
      short =
          omega
          (arith, k.short, length-append (tree_bytes t) (trees_bytes ts), length-append (tree_bytes t) (trees_bytes (without out ts)));
      labels = λ o g. new_cons o (tree_label t) (tree_labels ts) (tree_labels (without out ts)) (k.labels o) g;
      distinct = λ g. (k.labels (tree_label t) g.0, k.distinct g.1);
    }

-- an assertion store less some boxes is legal, and no longer
with_legal : (out : List ℕ → Bool) (depth : ℕ) (t : Tree) → IsLegalTree depth t
    → IsLegalTree depth (thin_store out t) × (length (tree_bytes (thin_store out t)) ≤ length (tree_bytes t))
with_legal out depth (leaf b) h = (h, omega arith)
with_legal out depth (super wide d us) h =
    let less = without_less out (depth + 1) us h.3 in
    let inner : length (description_bytes d ++ trees_bytes (without out us)) ≤ length (description_bytes d ++ trees_bytes us) =
    append_less (description_bytes d) (trees_bytes us) (trees_bytes (without out us)) less.short in (
      (h.0, h.1, fits_less wide (length (description_bytes d ++ trees_bytes us)) (length (description_bytes d ++ trees_bytes (without out us))) inner h.2, less.legal, less.distinct h.4),
      boxed_less wide (description_bytes d ++ trees_bytes us) (description_bytes d ++ trees_bytes (without out us)) inner,
    )

-- the boxes of a manifest less some of its assertion boxes are legal, no longer, and under the same labels
change_legal : (out : List ℕ → Bool) (depth : ℕ) (us : Trees) → AreLegalTrees depth us
    → AreLegalTrees depth (thin_boxes out us) × (length (trees_bytes (thin_boxes out us)) ≤ length (trees_bytes us)) × (tree_labels (thin_boxes out us) ≡ tree_labels us)
change_legal out depth none h = (tt, omega arith, refl)
change_legal out depth (more t ts) h = go (is_assertion_store t) (change_legal out depth ts h.1)
  where
    rest : Trees
    rest = thin_boxes out ts

    go : (b : Bool)
        → AreLegalTrees depth rest × (length (trees_bytes rest) ≤ length (trees_bytes ts)) × (tree_labels rest ≡ tree_labels ts)
        → AreLegalTrees depth (cond b (more (thin_store out t) ts) (more t rest)) × (length (trees_bytes (cond b (more (thin_store out t) ts) (more t rest))) ≤ length (trees_bytes (more t ts))) × (tree_labels (cond b (more (thin_store out t) ts) (more t rest)) ≡ tree_labels (more t ts))
    go true k =
        let own = with_legal out depth t h.0 in
        ((own.0, h.1), omega (arith, own.1, length-append (tree_bytes t) (trees_bytes ts), length-append (tree_bytes (thin_store out t)) (trees_bytes ts)), ap (λ o. o ∷ tree_labels ts) (same_label out t))
    go false k =
        ((h.0, k.0), omega (arith, k.1, length-append (tree_bytes t) (trees_bytes ts), length-append (tree_bytes t) (trees_bytes rest)), ap (λ (x : List (Option (List ℕ))). tree_label t ∷ x) k.2)

-- a manifest less what is redacted is legal, under the same label
redacted_legal : (redacts : List (List ℕ)) (t : Tree) → IsLegalTree 2 t
    → IsLegalTree 2 (redacted_box redacts t) × (tree_label (redacted_box redacts t) ≡ tree_label t)
redacted_legal redacts (leaf b) h = (h, refl)
redacted_legal redacts (super wide d us) h =
    let out : List ℕ → Bool = takes_out redacts (unwrap_or d.label []) in
    let c = change_legal out 3 us h.3 in
    let vs : Trees = thin_boxes out us in
    ((h.0, h.1, fits_less wide (length (description_bytes d ++ trees_bytes us)) (length (description_bytes d ++ trees_bytes vs)) (append_less (description_bytes d) (trees_bytes us) (trees_bytes vs) c.1) h.2, c.0, subst AreDistinctLabels (sym c.2) h.4), refl)

-- ---- the store

-- a store is read less the boxes that are redacted
pub read_less : RedactedStoreIsRead
read_less redacts none [] legal stores reads =
    record { ss = []; less = tt; reads = tt; legal = tt; labels = refl; stores = tt }
read_less redacts none (r ∷ rs) legal stores reads = absurd reads
read_less redacts (more (leaf b) ts) rs legal stores reads =
    let k = read_less redacts ts rs legal.1 stores reads in
    record
    { ss = k.ss; less = k.less; reads = k.reads; legal = (legal.0, k.legal); labels = ap (λ (x : List (Option (List ℕ))). None ∷ x) k.labels; stores = k.stores }
read_less redacts (more (super wide d us) ts) [] legal stores reads = absurd reads
read_less redacts (more (super wide d us) ts) (r ∷ rs) legal stores reads =
    let k = read_less redacts ts rs legal.1 stores.1 reads.1 in
    let own = loses redacts wide d us r reads.0 in
    record {
      ss = own.new ∷ k.ss;
      less = (own.less, k.less);
      reads = (own.reads, k.reads);
      legal = ((redacted_legal redacts (super wide d us) legal.0).0, k.legal);
      labels = ap (λ (x : List (Option (List ℕ))). d.label ∷ x) k.labels;
      stores = (record { manifest = stores.0.manifest; label = stores.0.label }, k.stores);
    }

-- ---- manifests that lose nothing

-- labels of which none is taken out are kept
kept_each : (out : List ℕ → Bool) (ss : List Tree)
    → AllByRecursion (λ (s : Tree). passes_some out (any_label (node s)) ≡ false) ss → KeepsEach out ss
kept_each out [] h = tt
kept_each out (s ∷ ss) h = (ap not h.0, kept_each out ss h.1)

-- a manifest that loses none stays
pub whole_stays : WholeStays
whole_stays redacts (leaf b) h = refl
whole_stays redacts (super wide d us) h =
    let out : List ℕ → Bool = takes_out redacts (unwrap_or d.label []) in
    ap (super wide d)
    (change_none out us (λ t g. with_none out t (kept_each out (supers_of t) (subst (λ o. AllByRecursion (λ (s : Tree). passes_some out (any_label (node s)) ≡ false) (supers_inside o)) g h))))

-- ---- without redactions

-- each label is kept
each_kept : (m : List ℕ) (ss : List Tree) → KeepsEach (takes_out [] m) ss
each_kept m [] = tt
each_kept m (s ∷ ss) = (go (any_label (node s)), each_kept m ss)
  where
    go : (o : Option (List ℕ)) → keeps (takes_out [] m) o ≡ true
    go None = refl
    go (Some l) = refl

-- without redactions a box stays
box_stays : (t : Tree) → redacted_box [] t ≡ t
box_stays (leaf b) = refl
box_stays (super wide d us) =
    ap (super wide d)
    (change_none (takes_out [] (unwrap_or d.label [])) us (λ t g. with_none (takes_out [] (unwrap_or d.label [])) t (each_kept (unwrap_or d.label []) (supers_of t))))

-- without redactions all boxes stay
pub all_carried : AllAreCarried
all_carried none = refl
all_carried (more t ts) = ap (λ (x : Tree). more x (redacted_boxes [] ts)) (box_stays t) ∙ ap (more t) (all_carried ts)

-- ---- superboxes

-- less what is redacted a box stays a superbox or none
pub redacted_super : (redacts : List (List ℕ)) (u : Tree) → is_super (redacted_box redacts u) ≡ is_super u
redacted_super redacts (leaf b) = refl
redacted_super redacts (super wide d us) = refl

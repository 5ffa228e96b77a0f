-- What is collected of two files has no more bytes than their stores, and each of its ingredients names a manifest of it.
use Rattle.c2_new_lengths_spec.proofs.TheLaws.{the_length_of_a_new_store_fits}
use Rattle.std.proofs.Common.{◌≡◌, ℕ, zero, suc, ◌+◌, ◌*◌, ◌-◌, ◌^◌, ◌<◌, ◌≤◌, Bool, true, false, cond, List, [], ◌∷◌, ◌++◌, length, Option, Some, slice_get, sym, ap, subst, arith, length-append}
use Rattle.std.proofs.lemmas.Option.{same_Some}
use Rattle.std.specs.Prelude.{Ok, unwrap_or}
use Rattle.std.specs.Bool.{MatchBool}
use Rattle.std.specs.List.{AllByRecursion, AllZip}
use Rattle.c2_base.specs.declared.limits.TheConstants.{MAX_STORE_LEN}
use Rattle.c2_base.specs.declared.values.Question.{Question}
use Rattle.c2_spec.specs.Bmff.Store.{IsBmffLocated}
use Rattle.c2_spec.specs.Container.{IsLocated, is_bmff}
use Rattle.c2_spec.specs.Jpeg.Store as jpeg_store
use Rattle.c2_spec.specs.Jumbf.Boxes.{any_label, node}
use Rattle.c2_spec.specs.Jumbf.Tree.{Description, Tree, Trees, boxed, description_bytes, description_payload, fixed_bytes, head_bytes, label_bytes, leaf, more, none, private_bytes, super, toggles, tree_bytes, trees_bytes}
use Rattle.c2_spec.specs.Located as located
use Rattle.c2_spec.specs.Located.{Located, Opening}
use Rattle.c2_spec.specs.declared.digest.Alg.{Alg}
use Rattle.c2_spec.specs.declared.kinds.TheConstants.{JUMB, JUMD}
use Rattle.c2_spec.specs.declared.panel.Verdict.{Verdict}
use Rattle.c2_rules.specs.Chains.{is_reached, passes_some}
use Rattle.c2_rules.specs.Opened.{IsBoxTree, IsManifestStore, IsManifestTree, IsOpened, Opens}
use Rattle.c2_chain_spec.specs.Joined.{picked}
use Rattle.c2_definition.specs.DefinitionFile.{IsDefinition}
use Rattle.c2_definition.specs.declared.types.Definition.{Definition}
use Rattle.c2_new_file_spec.specs.Manifests.{is_assertion_store, supers_in}
use Rattle.c2_new_file_spec.specs.Store.{Content, NamedManifest, NewIngredient}
use Rattle.c2_new_file_spec.specs.Written.{AreIngredients}
use Rattle.c2_new_file_spec.specs.Redacting.{boxes_in, redacted_box, redacted_boxes, takes_out, thin_boxes, thin_store, without}
use Rattle.c2_new_lengths_spec.specs.Lengths.{Fits}
use Rattle.c2_new_file_spec.specs.Places.{Place, in_boxes, in_segments, store_len}
use Rattle.c2_collect_spec.specs.Collected.{IsNamedAt, collected_boxes, collected_ingredients}
use Rattle.c2_collect_spec.specs.Lengths.{CollectedIsShort, CollectedStoresFit}
use Rattle.c2_collect_spec.specs.Order.{IsMediaFile, IsOtherFile, MediaFile, OtherFile}
use Rattle.c2_collect_spec.specs.Sides.{boxes_then, is_carried_box, joined_boxes}
use Rattle.c2_collect_spec.proofs.Contents.{ingredients_ok}
use Rattle.c2_rules.proofs.OpenedStore.{same_here}

-- ---- fewer bytes

-- a box with a payload of fewer bytes has fewer
boxed_bound : (kind : ℕ) (wide : Bool) (xs ys : List ℕ) → length ys ≤ length xs
    → length (boxed kind wide ys) ≤ length (boxed kind wide xs)
boxed_bound kind true xs ys le = omega (arith, le)
boxed_bound kind false xs ys le = omega (arith, le)

-- a superbox around boxes of fewer bytes has fewer
super_less : (wide : Bool) (d : Description) (us vs : Trees) → length (trees_bytes vs) ≤ length (trees_bytes us)
    → length (tree_bytes (super wide d vs)) ≤ length (tree_bytes (super wide d us))
super_less wide d us vs le =
    boxed_bound JUMB wide (description_bytes d ++ trees_bytes us) (description_bytes d ++ trees_bytes vs)
    (omega (arith, le, length-append (description_bytes d) (trees_bytes us), length-append (description_bytes d) (trees_bytes vs)))

-- boxes are no longer than others, where the first isn't and those behind it aren't
more_less : (t u : Tree) (ts us : Trees) → length (tree_bytes u) ≤ length (tree_bytes t)
    → length (trees_bytes us) ≤ length (trees_bytes ts)
    → length (trees_bytes (more u us)) ≤ length (trees_bytes (more t ts))
more_less t u ts us h k =
    omega (arith, h, k, length-append (tree_bytes t) (trees_bytes ts), length-append (tree_bytes u) (trees_bytes us))

-- ---- redactions

-- boxes less some of them
without_less : (out : List ℕ → Bool) (ts : Trees) → length (trees_bytes (without out ts)) ≤ length (trees_bytes ts)
without_less out none = omega arith
without_less out (more t ts) = by (passes_some out (any_label (node t))) (without_less out ts)
  where
    by : (b : Bool) → length (trees_bytes (without out ts)) ≤ length (trees_bytes ts)
        → length (trees_bytes (cond b (without out ts) (more t (without out ts)))) ≤ length (trees_bytes (more t ts))
    by true h = omega (arith, h, length-append (tree_bytes t) (trees_bytes ts))
    by false h = more_less t t ts (without out ts) (omega arith) h

-- an assertion store
store_less : (out : List ℕ → Bool) (t : Tree) → length (tree_bytes (thin_store out t)) ≤ length (tree_bytes t)
store_less out (leaf b) = omega arith
store_less out (super wide d us) = super_less wide d us (without out us) (without_less out us)

-- the boxes of a manifest
thin_less : (out : List ℕ → Bool) (ts : Trees) → length (trees_bytes (thin_boxes out ts)) ≤ length (trees_bytes ts)
thin_less out none = omega arith
thin_less out (more t ts) = by (is_assertion_store t) (thin_less out ts)
  where
    by : (b : Bool) → length (trees_bytes (thin_boxes out ts)) ≤ length (trees_bytes ts)
        → length (trees_bytes (cond b (more (thin_store out t) ts) (more t (thin_boxes out ts)))) ≤ length (trees_bytes (more t ts))
    by true h = more_less t (thin_store out t) ts ts (store_less out t) (omega arith)
    by false h = more_less t t ts (thin_boxes out ts) (omega arith) h

-- a manifest
pub redacted_less : (redacts : List (List ℕ)) (t : Tree)
    → length (tree_bytes (redacted_box redacts t)) ≤ length (tree_bytes t)
redacted_less redacts (leaf b) = omega arith
redacted_less redacts (super wide d us) =
    let out : List ℕ → Bool = takes_out redacts (unwrap_or d.label []) in
    super_less wide d us (thin_boxes out us) (thin_less out us)

-- the boxes of a store
pub boxes_less : (redacts : List (List ℕ)) (ts : Trees)
    → length (trees_bytes (redacted_boxes redacts ts)) ≤ length (trees_bytes ts)
boxes_less redacts none = omega arith
boxes_less redacts (more t ts) =
    more_less t (redacted_box redacts t) ts (redacted_boxes redacts ts) (redacted_less redacts t)
    (boxes_less redacts ts)

-- ---- two stores

-- boxes behind others
then_len : (old : Trees) (xs : List Tree)
    → length (trees_bytes (boxes_then old xs)) ≡ length (trees_bytes old) + length (trees_bytes (boxes_then none xs))
then_len none [] = omega arith
then_len none (x ∷ xs) = omega arith
then_len (more t ts) xs =
    omega
    (arith, then_len ts xs, length-append (tree_bytes t) (trees_bytes ts), length-append (tree_bytes t) (trees_bytes (boxes_then ts xs)))

-- what is picked of superboxes has no more bytes than all boxes
pub picked_less : (p : ℕ → Tree → Bool) (k : ℕ) (ts : Trees)
    → length (trees_bytes (boxes_then none (picked p k (supers_in ts)))) ≤ length (trees_bytes ts)
picked_less p k none = omega arith
picked_less p k (more (leaf b) ts) =
    omega (arith, picked_less p k ts, length-append (tree_bytes (leaf b)) (trees_bytes ts))
picked_less p k (more (super wide d us) ts) = by (p k (super wide d us)) (picked_less p (k + 1) ts)
  where
    t : Tree
    t = super wide d us

    by : (b : Bool) → length (trees_bytes (boxes_then none (picked p (k + 1) (supers_in ts)))) ≤ length (trees_bytes ts)
        → length (trees_bytes (boxes_then none (cond b (t ∷ picked p (k + 1) (supers_in ts)) (picked p (k + 1) (supers_in ts))))) ≤ length (trees_bytes (more t ts))
    by true h = more_less t t ts (boxes_then none (picked p (k + 1) (supers_in ts))) (omega arith) h
    by false h = omega (arith, h, length-append (tree_bytes t) (trees_bytes ts))

-- joined boxes have no more bytes than both stores
joined_less : (old : Trees) (reached : ℕ → Bool) (other : Trees)
    → length (trees_bytes (joined_boxes old reached other)) ≤ length (trees_bytes old) + length (trees_bytes other)
joined_less old reached other =
    let p = is_carried_box (supers_in old) reached in
    omega (arith, then_len old (picked p 0 (supers_in other)), picked_less p 0 other)

-- ---- labels

-- a box has more bytes than its payload
boxed_more : (kind : ℕ) (wide : Bool) (payload : List ℕ) → length payload ≤ length (boxed kind wide payload)
boxed_more kind wide payload = omega (arith, length-append (head_bytes kind wide (length payload)) payload)

-- a description has more than its label
description_more : (d : Description) (label : List ℕ) → d.label ≡ Some label
    → length label ≤ length (description_bytes d)
description_more d label is =
    let labelled : List ℕ = d.uuid ++ (toggles d ∷ label_bytes d.label) in
    let named : List ℕ = labelled ++ fixed_bytes d.id in
    let hashed : List ℕ = named ++ fixed_bytes d.digest in
    let own : length (label_bytes d.label) ≡ length (label ++ 0 ∷ []) =
    ap (λ (o : Option (List ℕ)). length (label_bytes o)) is in
    let all : length (description_payload d) ≡ length hashed + length (private_bytes d.private) =
    length-append hashed (private_bytes d.private) in
    let whole : length (description_payload d) ≤ length (description_bytes d) =
    boxed_more JUMD d.wide (description_payload d) in
    omega (
      arith,
      own,
      all,
      whole,
      length-append named (fixed_bytes d.digest),
      length-append labelled (fixed_bytes d.id),
      length-append d.uuid (toggles d ∷ label_bytes d.label),
      length-append label (0 ∷ []),
    )

-- a superbox has more bytes than its label
pub label_less : (t : Tree) (label : List ℕ) → any_label (node t) ≡ Some label → length label ≤ length (tree_bytes t)
label_less (leaf b) label is = absurd (cc (is))
label_less (super wide d us) label is =
    omega (
      arith,
      description_more d label is,
      length-append (description_bytes d) (trees_bytes us),
      boxed_more JUMB wide (description_bytes d ++ trees_bytes us),
    )

-- boxes have more bytes than each superbox among them
pub member_less : (ts : Trees) (i : ℕ) (t : Tree) → slice_get (supers_in ts) i ≡ Some t
    → length (tree_bytes t) ≤ length (trees_bytes ts)
member_less none i t is = absurd (cc (is))
member_less (more (leaf b) ts) i t is =
    omega (arith, member_less ts i t is, length-append (tree_bytes (leaf b)) (trees_bytes ts))
member_less (more (super wide d us) ts) zero t is =
    let own : super wide d us ≡ t = same_Some (super wide d us) t is in
    omega
    (arith, length-append (tree_bytes (super wide d us)) (trees_bytes ts), ap (λ (u : Tree). length (tree_bytes u)) own)
member_less (more (super wide d us) ts) (suc i) t is =
    omega (arith, member_less ts i t is, length-append (tree_bytes (super wide d us)) (trees_bytes ts))

-- each manifest that is named has a label of no more bytes than they
named_less : (ts : Trees) (n : ℕ) (ps : List NamedManifest) (roots : List ℕ) → length (trees_bytes ts) ≤ n
    → AllZip (λ (p : NamedManifest) root. IsNamedAt p (supers_in ts) root) ps roots
    → AllByRecursion (λ (p : NamedManifest). length p.label ≤ n) ps
named_less ts n [] roots le h = tt
named_less ts n (p ∷ ps) [] le h = absurd h
named_less ts n (p ∷ ps) (root ∷ roots) le h =
    let named : IsNamedAt p (supers_in ts) root = h.0 in
    let label = label_less named.manifest p.label named.label in
    let member = member_less ts root named.manifest named.is_manifest in
    (omega (arith, label, member, le), named_less ts n ps roots le h.1)

-- the manifest of each ingredient has a label of no more bytes than they
ingredients_less : (n : ℕ) (ps : List NamedManifest) → AllByRecursion (λ (p : NamedManifest). length p.label ≤ n) ps
    → AllByRecursion (λ (g : NewIngredient). length g.of.label ≤ n) (collected_ingredients ps)
ingredients_less n [] h = tt
ingredients_less n (q ∷ []) h = (h.0, tt)
ingredients_less n (p ∷ q ∷ others) h = (h.0, (h.1.0, tt))

-- ---- the files

-- the store of a file isn't too large
located_small : (file : List ℕ) (start len : ℕ) (store : List ℕ) → IsLocated file (located.here start len store)
    → length store ≤ MAX_STORE_LEN
located_small file start len store h = by (is_bmff file) h
  where
    by : (b : Bool)
        → MatchBool b (IsBmffLocated file (located.here start len store)) (jpeg_store.IsLocated file (located.here start len store))
        → length store ≤ MAX_STORE_LEN
    by true k = k.holds.small
    by false k = k.holds.small

-- the boxes in a box are no longer than the box
inside_less : (t : Tree) → length (trees_bytes (boxes_in t)) ≤ length (tree_bytes t)
inside_less (leaf b) = omega arith
inside_less (super wide d us) =
    omega (
      arith,
      length-append (description_bytes d) (trees_bytes us),
      boxed_more JUMB wide (description_bytes d ++ trees_bytes us),
    )

-- the boxes of a file that is opened with a store
opened_small : (file : List ℕ) (start len : ℕ) (t : Tree) → IsOpened file (located.here start len t)
    → length (trees_bytes (boxes_in t)) ≤ MAX_STORE_LEN
opened_small file start len t h = by_place h.0 h.1 h.2
  where
    by_tree : (at n : ℕ) (store : List ℕ) → length store ≤ MAX_STORE_LEN → (what : Opening Tree)
        → IsBoxTree at n store what
        → Opens IsManifestTree what (located.here start len t) → length (trees_bytes (boxes_in t)) ≤ MAX_STORE_LEN
    by_tree at n store small (located.refused reason number) g e = absurd (cc (e))
    by_tree at n store small located.absent g e = absurd g
    by_tree at n store small (located.here b m u) g e =
        let same : t ≡ u = same_here start len b m t u e.1 in
        omega
        (arith, inside_less u, ap length g.0.whole, ap (λ (x : Tree). length (trees_bytes (boxes_in x))) same, small)

    by_place : (l : Located) → IsLocated file l → Opens IsManifestStore l (located.here start len t)
        → length (trees_bytes (boxes_in t)) ≤ MAX_STORE_LEN
    by_place (located.refused reason number) is e = absurd (cc (e))
    by_place located.absent is e = absurd (cc (e))
    by_place (located.here at n store) is e = by_tree at n store (located_small file at n store is) e.0 e.1 e.2

-- the boxes of a media file's store aren't too large
media_small :
    (hash : Alg → List ℕ → List ℕ) (said : Question → Verdict) (file : List ℕ) (what : Opening Tree) (m : MediaFile)
    → IsOpened file what → IsMediaFile hash said file what m
    → length (trees_bytes m.boxes) ≤ MAX_STORE_LEN
media_small hash said file (located.refused reason number) m opened is = absurd is
media_small hash said file located.absent m opened is =
    omega (arith, ap (λ (x : MediaFile). length (trees_bytes x.boxes)) is)
media_small hash said file (located.here start len t) m opened is =
    omega (arith, opened_small file start len t opened, ap (λ (ts : Trees). length (trees_bytes ts)) is.boxes)

-- the boxes of the other file's store aren't too large
other_small :
    (hash : Alg → List ℕ → List ℕ) (said : Question → Verdict) (file : List ℕ) (what : Opening Tree) (o : OtherFile)
    → IsOpened file what → IsOtherFile hash said file what o
    → length (trees_bytes o.boxes) ≤ MAX_STORE_LEN
other_small hash said file (located.refused reason number) o opened is =
    omega (arith, ap (λ (x : OtherFile). length (trees_bytes x.boxes)) is)
other_small hash said file located.absent o opened is =
    omega (arith, ap (λ (x : OtherFile). length (trees_bytes x.boxes)) is)
other_small hash said file (located.here start len t) o opened is =
    omega (arith, opened_small file start len t opened, ap (λ (ts : Trees). length (trees_bytes ts)) is.boxes)

-- ---- what is collected

-- what is collected of two files is short
pub collected_short : CollectedIsShort
collected_short hash said media other d p c is from = record {
  boxes = boxes;
  ingredients = subst AreIngredients (sym from.ingredients) (ingredients_ok from.named);
  labels = subst (λ (gs : List NewIngredient). AllByRecursion (λ (g : NewIngredient). length g.of.label ≤ 2 * MAX_STORE_LEN) gs) (sym from.ingredients)
      (ingredients_less (2 * MAX_STORE_LEN) from.named (named_less c.carried (2 * MAX_STORE_LEN) from.named _ boxes from.are));
}
  where
    all : Trees
    all = collected_boxes p.media.boxes p.other.boxes p.other.readings

    boxes : length (trees_bytes c.carried) ≤ 2 * MAX_STORE_LEN
    boxes = omega (
      arith,
      ap (λ (ts : Trees). length (trees_bytes ts)) from.carried,
      boxes_less d.redact all,
      joined_less p.media.boxes (is_reached p.other.readings) p.other.boxes,
      media_small hash said media is.opened p.media is.is_opened is.is_media,
      other_small hash said other is.found p.other is.is_found is.is_other,
    )

-- 64 bits hold the length of a store in each place where they do in each container
place_fits : (x : Content) (p : Place) → Fits x → store_len p x x.definition.reserve < 2 ^ 64 - 1
place_fits x (in_segments segments number) h = h.jpeg
place_fits x (in_boxes roots) h = h.film

-- 64 bits hold the length of a new store that collects
pub collected_fits : CollectedStoresFit
collected_fits hash said media definition other d p c place defined is from =
    let own : IsDefinition definition (Ok c.definition) =
    subst (λ (e : Definition). IsDefinition definition (Ok e)) (sym from.definition) defined in
    subst (λ (e : Definition). store_len place c e.reserve < 2 ^ 64 - 1) from.definition
    (place_fits c place
    (the_length_of_a_new_store_fits definition c own (collected_short hash said media other d p c is from)))

-- Something goes into a new store over two stores, and it is one; and the manifests at its roots are such as ingredients may name.
use Rattle.c2_new_file_spec.proofs.ParentLaws.{a_redacted_store_is_read_less}
use Rattle.std.proofs.Common.{◌≡◌, ◌≢◌, inl, inr, ℕ, zero, suc, ◌<◌, ◌≤◌, true, List, [], ◌∷◌, length, find, Option, Some, None, Contains, slice_get, refl, sym, ap, ◌∙◌, subst, arith, codes, lit≤, length-append}
use Rattle.std.specs.Prelude.{filter_map, is_some, option_map, unwrap_or}
use Rattle.std.specs.List.{AllByRecursion, AllZip, cons_option}
use Rattle.std.proofs.Math.Path.{fun_ext}
use Rattle.std.proofs.lemmas.Bool.{false≢true, not-false}
use Rattle.std.proofs.lemmas.Option.{same_Some}
use Rattle.std.proofs.lemmas.Slice.Eq.{bytes_eq-Decides}
use Rattle.c2_spec.specs.C2pa.Manifest.{Manifest, Superbox, is_manifest_label}
use Rattle.c2_spec.specs.Jumbf.Boxes.{any_label, node}
use Rattle.c2_spec.specs.Jumbf.Tree.{Tree, Trees, leaf, super}
use Rattle.c2_spec.specs.declared.assertion.Relationship.TheVariants.{ComponentOf, ParentOf}
use Rattle.c2_spec.specs.declared.digest.Alg.{Alg}
use Rattle.c2_rules.specs.Chains.{is_reached, label_in, place_of}
use Rattle.c2_rules.specs.Readings.{Reading, claim_in, claim_names}
use Rattle.c2_rules.specs.Rules.{claim_tests, rest_tests, unjudged_tests}
use Rattle.c2_rules.proofs.ListLemmas.{contains_head, contains_tail}
use Rattle.c2_rules.proofs.ReachLemmas.{place_is}
use Rattle.c2_chain_spec.specs.Joined.{joined, joined_roots, place_in}
use Rattle.c2_chain_spec.specs.Rooted.{IsRooted, is_reached_from, last_roots, seen_by}
use Rattle.c2_chain_spec.specs.Rooted.IsReachedFrom.{is_root}
use Rattle.c2_chain_spec.proofs.Joining.{to_roots}
use Rattle.c2_chain_spec.proofs.Rooting.{last_active}
use Rattle.c2_definition.specs.declared.types.Definition.{Definition}
use Rattle.c2_new_file_spec.specs.FreshBoxes.{contents_of}
use Rattle.c2_new_file_spec.specs.Manifests.{is_signature_box, manifest_of, superbox_of, supers_in, supers_of}
use Rattle.c2_new_file_spec.specs.Store.{NamedManifest, NewIngredient}
use Rattle.c2_new_file_spec.specs.Written.{AreIngredients}
use Rattle.c2_rules.proofs.Conditions.{Holds, all_each}
use Rattle.c2_new_file_spec.specs.Less.{IsReadLess}
use Rattle.c2_new_file_spec.specs.Redacting.{redacted_boxes}
use Rattle.c2_new_file_spec.proofs.Places.{LessAt, less_at, less_label, less_len}
use Rattle.c2_new_file_spec.proofs.Stores.{label_some, legal_at, read_label, read_len}
use Rattle.c2_new_content_spec.specs.Taken.{IsRoot}
use Rattle.c2_collect_spec.specs.Collected.{CanJoin, CollectedContentIsOne, IsNamedAt, SomeContentCollects, collected_boxes, collected_ingredients, collected_readings, collected_roots}
use Rattle.c2_collect_spec.specs.Sides.{DoNotClash, joined_boxes}
use Rattle.c2_collect_spec.specs.Stores.{IsRootedStore}
use Rattle.c2_collect_spec.proofs.Stores.{rooted_join}
use Rattle.c2_collect_spec.proofs.Zips.{Reads, reads_zip}
use Rattle.c2_lemmas.proofs.Bools.{both_true}
use Rattle.c2_lemmas.proofs.Each.{each_front}
use Rattle.c2_lemmas.proofs.Options.{some_at}
use Rattle.c2_new_file_spec.proofs.Valid.{legal_label, same_label, some_found}

-- ---- the joined store

-- what is reached in a store is what is reached from its last manifest
pub same_reached : (rs : List Reading) → is_reached rs ≡ is_reached_from rs (last_roots rs)
same_reached rs = fun_ext (λ i. last_active rs i)

-- two stores that don't clash don't by what is reached from their last manifests
pub apart_from : (hash : Alg → List ℕ → List ℕ) (old other : Trees) (old_rs other_rs : List Reading)
    → CanJoin hash old other old_rs other_rs
    → DoNotClash (supers_in old) (is_reached_from old_rs (last_roots old_rs)) (supers_in other) (is_reached_from other_rs (last_roots other_rs))
apart_from hash old other old_rs other_rs can =
    subst (λ f. DoNotClash (supers_in old) f (supers_in other) (is_reached_from other_rs (last_roots other_rs)))
    (same_reached old_rs)
    (subst (λ f. DoNotClash (supers_in old) (is_reached old_rs) (supers_in other) f) (same_reached other_rs) can.apart)

-- the joined boxes are a store that can be joined again
pub joined_store : (hash : Alg → List ℕ → List ℕ) (old other : Trees) (old_rs other_rs : List Reading)
    → CanJoin hash old other old_rs other_rs
    → IsRootedStore hash (collected_boxes old other other_rs) (collected_readings old_rs other_rs) (collected_roots old_rs other_rs)
joined_store hash old other old_rs other_rs can =
    subst
    (λ f. IsRootedStore hash (joined_boxes old f other) (joined old_rs f other_rs) (joined_roots (last_roots old_rs) other_rs (last_roots other_rs) (joined old_rs f other_rs)))
    (sym (same_reached other_rs))
    (rooted_join hash old other old_rs other_rs (last_roots old_rs) (last_roots other_rs) can.old_store can.other_store (apart_from hash old other old_rs other_rs can))

-- ---- what an ingredient names

-- what stands at a place of both of two lists
record ZipFrom {A B : Type 0} (R : A → B → Type 0) (x : A) (ys : List B) (i : ℕ) : Type 0 where
  it : B
  is : slice_get ys i ≡ Some it
  corresponds : R x it

-- to what stands in the first
zip_from : {A B : Type 0} (R : A → B → Type 0) (xs : List A) (ys : List B) (i : ℕ) (x : A) → AllZip R xs ys
    → slice_get xs i ≡ Some x → ZipFrom R x ys i
zip_from R [] [] i x h e = absurd (cc (e))
zip_from R [] (y ∷ ys) i x h e = absurd h
zip_from R (z ∷ xs) [] i x h e = absurd h
zip_from R (z ∷ xs) (y ∷ ys) zero x h e =
    record { it = y; is = refl; corresponds = subst (λ w. R w y) (same_Some z x e) h.0 }
zip_from R (z ∷ xs) (y ∷ ys) (suc i) x h e =
    let at = zip_from R xs ys i x h.1 e in record { it = at.it; is = at.is; corresponds = at.corresponds }

-- contents are told one way
same_contents : (t : Tree) → (manifest_of t).contents ≡ contents_of t
same_contents (leaf b) = refl
same_contents (super wide d us) = refl

-- the contents of a box are told one way
box_contents : (t : Tree) → (superbox_of t).contents ≡ contents_of t
box_contents (leaf b) = refl
box_contents (super wide d us) = refl

-- a manifest that is left of a store once redactions took boxes out of it, at a root
record IsAtRoot (redacts : List (List ℕ)) (rs ss : List Reading) (t : Tree) (root : ℕ) : Type 0 where
  pair : LessAt redacts rs ss root
  reads : Reads t pair.new

-- a manifest at a root is there in the store less what redactions took out of it
at_root : (redacts : List (List ℕ)) (boxes : Trees) (rs : List Reading) (t : Tree) (root : ℕ)
    → (k : IsReadLess redacts boxes rs) → root < length rs
    → slice_get (supers_in (redacted_boxes redacts boxes)) root ≡ Some t → IsAtRoot redacts rs k.ss t root
at_root redacts boxes rs t root k within is =
    let vs : List Tree = supers_in (redacted_boxes redacts boxes) in
    let at = zip_from Reads vs k.ss root t (reads_zip vs k.ss k.reads k.stores) is in
    let pair : LessAt redacts rs k.ss root = less_at redacts rs k.ss root k.less within in
    record { pair = pair; reads = subst (Reads t) (same_Some at.it pair.new (sym at.is ∙ pair.is_new)) at.corresponds }

-- the manifest at a root is one that an ingredient may name
root_is : (hash : Alg → List ℕ → List ℕ) (redacts : List (List ℕ)) (boxes : Trees) (all : List ℕ) (rs : List Reading)
    (p : NamedManifest) (root : ℕ)
    → (k : IsReadLess redacts boxes rs) → IsRooted hash rs all → root < length rs
    → IsNamedAt p (supers_in (redacted_boxes redacts boxes)) root → IsRoot rs k.ss p root
root_is hash redacts boxes all rs p root k rooted within h =
    let at : IsAtRoot redacts rs k.ss h.manifest root =
    at_root redacts boxes rs h.manifest root k within h.is_manifest in
    let named : label_in at.pair.new ≡ p.label =
    same_Some (label_in at.pair.new) p.label
    (sym (read_label h.manifest at.pair.new at.reads.0 at.reads.1) ∙ same_label h.manifest ∙ h.label) in
    let label : label_in at.pair.old ≡ p.label =
    sym (less_label redacts at.pair.old at.pair.new at.pair.less) ∙ named in
    record {
      place =
          subst (λ (l : List ℕ). place_of rs l ≡ Some root) label
          (place_is rs root at.pair.old rooted.differ at.pair.is_old);
      within = within;
      named = at.pair.new;
      is_named = at.pair.is_new;
      contents = ap (λ (m : Manifest). m.contents) at.reads.0.same ∙ same_contents h.manifest ∙ h.contents;
      signed = ap (λ (m : Manifest). option_map (λ (b : Superbox). b.contents) m.signature) at.reads.0.same
          ∙ ap (λ o. option_map (λ (b : Superbox). b.contents) (option_map superbox_of o)) h.is_signature
          ∙ ap (λ (x : List ℕ). Some x) (box_contents h.signature ∙ h.signed);
      label =
          legal_label 2 h.manifest p.label
          (legal_at (redacted_boxes redacts boxes) 2 root h.manifest k.legal h.is_manifest) h.label;
      names = subst (λ o. is_manifest_label o ≡ true) h.label at.reads.1.label;
    }

-- the manifests at all roots are such as ingredients may name
pub roots_are : (hash : Alg → List ℕ → List ℕ) (redacts : List (List ℕ)) (boxes : Trees) (all : List ℕ) (rs : List Reading)
    (ps : List NamedManifest) (roots : List ℕ)
    → (k : IsReadLess redacts boxes rs) → IsRooted hash rs all
    → AllByRecursion (λ c. c < length rs) roots
    → AllZip (λ (p : NamedManifest) root. IsNamedAt p (supers_in (redacted_boxes redacts boxes)) root) ps roots
    → AllZip (IsRoot rs k.ss) ps roots
roots_are hash redacts boxes all rs [] [] k rooted within h = tt
roots_are hash redacts boxes all rs [] (n ∷ ns) k rooted within h = absurd h
roots_are hash redacts boxes all rs (p ∷ ps) [] k rooted within h = absurd h
roots_are hash redacts boxes all rs (p ∷ ps) (n ∷ ns) k rooted within h =
    (root_is hash redacts boxes all rs p n k rooted within.0 h.0, roots_are hash redacts boxes all rs ps ns k rooted within.1 h.1)

-- ---- the ingredients

-- the second label isn't the first
second_label : (l : List ℕ) → l ≡ codes "c2pa.ingredient.v3__1" → l ≢ codes "c2pa.ingredient.v3"
second_label l e f =
    false≢true ((bytes_eq-Decides (codes "c2pa.ingredient.v3__1") (codes "c2pa.ingredient.v3")).1 (sym e ∙ f))

-- two ingredients under labels that differ, of which the second is no parent
two_ok : (l m : List ℕ) (p q : NamedManifest) → l ≡ codes "c2pa.ingredient.v3" → m ≡ codes "c2pa.ingredient.v3__1"
    → AreIngredients
    (record { label = l; relationship = ParentOf; of = p } ∷ record { label = m; relationship = ComponentOf; of = q } ∷ [])
two_ok l m p q e f =
    record { labels = (inl e, (inr f, tt)); apart = ((λ g. second_label m f (g ∙ e), tt), (tt, tt)); parents = lit≤ tt }

-- one ingredient
one_ok : (l : List ℕ) (q : NamedManifest) → l ≡ codes "c2pa.ingredient.v3"
    → AreIngredients (record { label = l; relationship = ComponentOf; of = q } ∷ [])
one_ok l q e = record { labels = (inl e, tt); apart = (tt, tt); parents = lit≤ tt }

-- a manifest may have the ingredients of one or two manifests
pub ingredients_ok : (ps : List NamedManifest) → AreIngredients (collected_ingredients ps)
ingredients_ok [] = record { labels = tt; apart = tt; parents = lit≤ tt }
ingredients_ok (q ∷ []) = one_ok (codes "c2pa.ingredient.v3") q refl
ingredients_ok (p ∷ q ∷ others) = two_ok (codes "c2pa.ingredient.v3") (codes "c2pa.ingredient.v3__1") p q refl refl

-- what holds of one or two manifests holds of their ingredients
pub ingredients_zip : (P : NamedManifest → ℕ → Type 0) (ps : List NamedManifest) (roots : List ℕ) → length roots ≤ 2
    → AllZip P ps roots → AllZip (λ (g : NewIngredient) root. P g.of root) (collected_ingredients ps) roots
ingredients_zip P [] [] le h = tt
ingredients_zip P [] (n ∷ ns) le h = absurd h
ingredients_zip P (p ∷ ps) [] le h = absurd h
ingredients_zip P (p ∷ []) (n ∷ []) le h = (h.0, tt)
ingredients_zip P (p ∷ []) (n ∷ m ∷ ns) le h = absurd h.1
ingredients_zip P (p ∷ q ∷ ps) (n ∷ []) le h = absurd h.1
ingredients_zip P (p ∷ q ∷ []) (n ∷ m ∷ []) le h = (h.0, (h.1.0, tt))
ingredients_zip P (p ∷ q ∷ []) (n ∷ m ∷ k ∷ ns) le h = absurd h.1.1
ingredients_zip P (p ∷ q ∷ x ∷ ps) (n ∷ m ∷ []) le h = absurd h.1.1
ingredients_zip P (p ∷ q ∷ x ∷ ps) (n ∷ m ∷ k ∷ ns) le h = absurd (omega (arith, le))

-- at most one root of a store
one_root : (rs : List Reading) → length (last_roots rs) ≤ 1
one_root [] = lit≤ tt
one_root (r ∷ rs) = lit≤ tt

-- no more roots of the other store are placed than it has
placed_len : (js other_rs : List Reading) (ns : List ℕ) → length (filter_map (place_in js other_rs) ns) ≤ length ns
placed_len js other_rs [] = lit≤ tt
placed_len js other_rs (n ∷ ns) = step (place_in js other_rs n) (placed_len js other_rs ns)
  where
    step : (o : Option ℕ) → length (filter_map (place_in js other_rs) ns) ≤ length ns
        → length (cons_option o (filter_map (place_in js other_rs) ns)) ≤ suc (length ns)
    step None h = omega (arith, h)
    step (Some k) h = omega (arith, h)

-- there are at most two roots of both stores
pub two_roots : (old_rs other_rs : List Reading) → length (collected_roots old_rs other_rs) ≤ 2
two_roots old_rs other_rs =
    let js : List Reading = collected_readings old_rs other_rs in
    let a = one_root old_rs in
    let b = one_root other_rs in
    let c = placed_len js other_rs (last_roots other_rs) in
    let e = length-append (last_roots old_rs) (filter_map (place_in js other_rs) (last_roots other_rs)) in
    omega (arith, a, b, c, e)

-- ---- there is a content

-- a manifest of which the rules hold has a signature box
signed_at : (hash : Alg → List ℕ → List ℕ) (rs : List Reading) (roots : List ℕ) (i : ℕ) (r : Reading)
    → AllByRecursion Holds (unjudged_tests hash (seen_by (is_reached_from rs roots) rs i r))
    → is_some r.manifest.signature ≡ true
signed_at hash rs roots i r h =
    let front : AllByRecursion Holds (claim_tests r) =
    each_front Holds (claim_tests r) (rest_tests hash (seen_by (is_reached_from rs roots) rs i r)) h in
    (both_true (is_some r.manifest.signature) (claim_names r.manifest.label (claim_in r)) (not-false _ front.1.1.1.1.1.0)).0

-- what is left of a manifest with a signature box has a signature box
still_signed : (redacts : List (List ℕ)) (rs ss : List Reading) (t : Tree) (root : ℕ)
    → (at : IsAtRoot redacts rs ss t root)
    → is_some at.pair.old.manifest.signature ≡ true
    → is_some (option_map superbox_of (find is_signature_box (supers_of t))) ≡ true
still_signed redacts rs ss t root at h =
    sym
    (ap (λ (r : Reading). is_some r.manifest.signature) (sym at.pair.less.is)
    ∙ ap (λ (m : Manifest). is_some m.signature) at.reads.0.same)
    ∙ h

-- a manifest with a label that can be named and a signature box can be an ingredient's
named_at : (ms : List Tree) (root : ℕ) (t box : Tree) → slice_get ms root ≡ Some t
    → is_manifest_label (any_label (node t)) ≡ true → find is_signature_box (supers_of t) ≡ Some box
    → (p : NamedManifest) × IsNamedAt p ms root
named_at ms root t box is named found = (
  record { label = unwrap_or (any_label (node t)) []; contents = contents_of t; signed = contents_of box },
  record { manifest = t; is_manifest = is; label = label_some (any_label (node t)) named; contents = refl; signature = box; is_signature = found; signed = refl },
)

-- the manifest at a root can be an ingredient's
root_named : (hash : Alg → List ℕ → List ℕ) (redacts : List (List ℕ)) (boxes : Trees) (all : List ℕ) (rs : List Reading)
    (root : ℕ)
    → (k : IsReadLess redacts boxes rs) → IsRooted hash rs all → root < length rs → Contains all root
    → (p : NamedManifest) × IsNamedAt p (supers_in (redacted_boxes redacts boxes)) root
root_named hash redacts boxes all rs root k rooted within c =
    let vs : List Tree = supers_in (redacted_boxes redacts boxes) in
    let count : length vs ≡ length rs = read_len vs k.ss k.reads ∙ less_len redacts rs k.ss k.less in
    let t = some_at vs root (omega (arith, count, within)) in
    let at : IsAtRoot redacts rs k.ss t.0 root = at_root redacts boxes rs t.0 root k within t.1 in
    let reached : is_reached_from rs all root ≡ true = to_roots rs all root rooted.differ (is_root c) in
    let signed : is_some at.pair.old.manifest.signature ≡ true =
    signed_at hash rs all root at.pair.old
    (all_each (unjudged_tests hash (seen_by (is_reached_from rs all) rs root at.pair.old)) (rooted.holds root at.pair.old reached at.pair.is_old)) in
    let box = some_found (find is_signature_box (supers_of t.0)) (still_signed redacts rs k.ss t.0 root at signed) in
    named_at vs root t.0 box.0 t.1 at.reads.1.label box.1

-- the manifests at all roots can be named
roots_named : (hash : Alg → List ℕ → List ℕ) (redacts : List (List ℕ)) (boxes : Trees) (all : List ℕ) (rs : List Reading)
    (roots : List ℕ)
    → IsReadLess redacts boxes rs → IsRooted hash rs all → AllByRecursion (λ c. c < length rs) roots
    → ((c : ℕ) → Contains roots c → Contains all c)
    → (ps : List NamedManifest) × AllZip (λ (p : NamedManifest) root. IsNamedAt p (supers_in (redacted_boxes redacts boxes)) root) ps roots
roots_named hash redacts boxes all rs [] k rooted within in_all = ([], tt)
roots_named hash redacts boxes all rs (n ∷ ns) k rooted within in_all =
    let first = root_named hash redacts boxes all rs n k rooted within.0 (in_all n (contains_head n ns)) in
    let others =
    roots_named hash redacts boxes all rs ns k rooted within.1 (λ c h. in_all c (contains_tail n c ns h)) in
    (first.0 ∷ others.0, (first.1, others.1))

-- something goes into a new store that collects
pub some_collects : SomeContentCollects
some_collects hash d old other old_rs other_rs can =
    let js : List Reading = collected_readings old_rs other_rs in
    let roots : List ℕ = collected_roots old_rs other_rs in
    let boxes : Trees = collected_boxes old other other_rs in
    let s : IsRootedStore hash boxes js roots = joined_store hash old other old_rs other_rs can.joins in
    let ps =
    roots_named hash d.redact boxes roots js roots
    (a_redacted_store_is_read_less d.redact boxes js s.legal s.stores s.reads) s.rooted s.rooted.within
    (λ c h. h) in (
      record { definition = d; carried = redacted_boxes d.redact boxes; ingredients = collected_ingredients ps.0 },
      record { definition = refl; carried = refl; named = ps.0; are = ps.1; ingredients = refl },
    )

-- ---- it is one

-- the manifest at a place is one
one_named : (ms : List Tree) (root : ℕ) (p q : NamedManifest) → IsNamedAt p ms root → IsNamedAt q ms root → p ≡ q
one_named ms root p q a b =
    let active : a.manifest ≡ b.manifest = same_Some a.manifest b.manifest (sym a.is_manifest ∙ b.is_manifest) in
    let label : p.label ≡ q.label =
    same_Some p.label q.label (sym a.label ∙ ap (λ (x : Tree). any_label (node x)) active ∙ b.label) in
    let contents : p.contents ≡ q.contents = sym a.contents ∙ ap contents_of active ∙ b.contents in
    let box : a.signature ≡ b.signature =
    same_Some a.signature b.signature
    (sym a.is_signature ∙ ap (λ (x : Tree). find is_signature_box (supers_of x)) active ∙ b.is_signature) in
    let signed : p.signed ≡ q.signed = sym a.signed ∙ ap contents_of box ∙ b.signed in
    ap (λ (l : List ℕ). record { label = l; contents = p.contents; signed = p.signed }) label
    ∙ ap (λ (c : List ℕ). record { label = q.label; contents = c; signed = p.signed }) contents
    ∙ ap (λ (s : List ℕ). record { label = q.label; contents = q.contents; signed = s }) signed

-- the manifests at places are one each
one_each : (ms : List Tree) (roots : List ℕ) (ps qs : List NamedManifest)
    → AllZip (λ (p : NamedManifest) root. IsNamedAt p ms root) ps roots
    → AllZip (λ (p : NamedManifest) root. IsNamedAt p ms root) qs roots → ps ≡ qs
one_each ms [] [] [] h k = refl
one_each ms [] [] (q ∷ qs) h k = absurd k
one_each ms [] (p ∷ ps) qs h k = absurd h
one_each ms (n ∷ ns) [] qs h k = absurd h
one_each ms (n ∷ ns) (p ∷ ps) [] h k = absurd k
one_each ms (n ∷ ns) (p ∷ ps) (q ∷ qs) h k =
    ap (λ x. x ∷ ps) (one_named ms n p q h.0 k.0)
    ∙ ap (λ (xs : List NamedManifest). q ∷ xs) (one_each ms ns ps qs h.1 k.1)

-- all that goes into a new store that collects is one
pub content_one : CollectedContentIsOne
content_one d old other old_rs other_rs b c h k =
    let carried : b.carried ≡ c.carried = h.carried ∙ sym k.carried in
    let same : h.named ≡ k.named = one_each (supers_in c.carried) (collected_roots old_rs other_rs) h.named k.named
    (subst (λ (x : Trees). AllZip (λ (p : NamedManifest) root. IsNamedAt p (supers_in x) root) h.named (collected_roots old_rs other_rs)) carried h.are) k.are in
    ap (λ (x : Definition). record { definition = x; carried = b.carried; ingredients = b.ingredients })
    (h.definition ∙ sym k.definition)
    ∙ ap (λ (x : Trees). record { definition = c.definition; carried = x; ingredients = b.ingredients }) carried
    ∙ ap (λ (x : List NewIngredient). record { definition = c.definition; carried = c.carried; ingredients = x })
    (h.ingredients ∙ ap collected_ingredients same ∙ sym k.ingredients)

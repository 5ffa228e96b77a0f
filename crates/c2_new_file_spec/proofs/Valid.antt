-- A valid store is carried less what is redacted of it, and its last manifest is a parent.
use Rattle.std.proofs.Common.{◌≡◌, ℕ, zero, suc, ◌+◌, ◌-◌, ◌<◌, Bool, true, false, cond, List, [], ◌∷◌, ◌++◌, length, map, find, Option, Some, None, slice_get, refl, sym, ap, ◌∙◌, subst, arith}
use Rattle.std.specs.Prelude.{IfSome, is_some, option_map, unwrap_or}
use Rattle.std.specs.Bool.{MatchBool}
use Rattle.std.specs.List.{AllByRecursion, AllZip}
use Rattle.std.proofs.lemmas.Bool.{eq-eqb, false≢true, not-false, true≢false}
use Rattle.std.proofs.lemmas.Option.{same_Some}
use Rattle.c2_base.specs.declared.values.Question.{Question}
use Rattle.c2_spec.specs.C2pa.Assertion.{ingredient_of}
use Rattle.c2_spec.specs.C2pa.Manifest.{Manifest, Superbox, is_manifest_label, manifests_of}
use Rattle.c2_spec.specs.Jumbf.Boxes.{any_label, node}
use Rattle.c2_spec.specs.Jumbf.Tree.{AreDistinctLabels, AreLegalTrees, IsLabel, IsLegalTree, IsNewLabel, Tree, Trees, leaf, super, tree_label, tree_labels}
use Rattle.c2_spec.specs.declared.digest.Alg.{Alg}
use Rattle.c2_spec.specs.declared.panel.Verdict.{Verdict}
use Rattle.c2_rules.specs.Chains.{LabelsDiffer, is_active, is_reached, label_in, place_of, reaches}
use Rattle.c2_rules.specs.CheckList.{StoreReading, active_in, active_tests, chain_tests, check_list, judged_tests, last_tests, place_tests, tests_of}
use Rattle.c2_rules.specs.Ingredients.{is_ingredient, box_version}
use Rattle.c2_rules.specs.Readings.{AreReadings, IsParsed, IsReadBox, IsReading, ReadBox, Reading, claim_in, claim_names, question_in, value_in}
use Rattle.c2_rules.specs.Rules.{claim_tests, rest_tests, unjudged_tests, verdict_tests}
use Rattle.c2_rules.specs.Seen.{seen_at}
use Rattle.c2_rules.specs.Tests.{AllHold, downward}
use Rattle.c2_rules.specs.declared.parsed.Parsed.TheVariants.{NoItem}
use Rattle.c2_rules.proofs.ListLemmas.{or_left}
use Rattle.c2_rules.proofs.ReachLemmas.{place_is}
use Rattle.c2_definition.specs.declared.types.Definition.{Definition}
use Rattle.c2_new_file_spec.specs.FreshBoxes.{contents_of}
use Rattle.c2_new_file_spec.specs.Manifests.{is_signature_box, manifest_of, superbox_of, supers_in, supers_of}
use Rattle.c2_new_file_spec.specs.Store.{Content, NamedManifest, parent_ingredient}
use Rattle.c2_new_file_spec.specs.Written.{CanBeCarried, IsStoreBox}
use Rattle.c2_new_file_spec.proofs.ByIndex.{same_manifests}
use Rattle.c2_rules.proofs.Conditions.{Holds, all_each, all_hold}
use Rattle.c2_chain_spec.specs.Rooted.{ReadsKinds}
use Rattle.c2_new_file_spec.specs.Carrying.{AreAccepted, CanStandOver, IsLast, IsTakenOver, SomeContentOver, ValidStoreIsCarried}
use Rattle.c2_new_file_spec.specs.Less.{AreLess, IsReadLess}
use Rattle.c2_new_file_spec.specs.Parents.{IsContentOver, IsParentOf}
use Rattle.c2_new_file_spec.specs.Redacting.{boxes_in, redacted_boxes}
use Rattle.c2_new_file_spec.proofs.Accepted.{accepted}
use Rattle.c2_new_file_spec.proofs.Places.{LessAt, less_at, less_label, less_len}
use Rattle.c2_new_file_spec.proofs.Stores.{label_some, legal_at, legal_inside, none_taken, read_label, read_len, some_boxes, store_boxes, store_differs, supers_are}
use Rattle.c2_new_file_spec.proofs.Taken.{read_less}
use Rattle.c2_chain_spec.proofs.Rooting.{downward_each}
use Rattle.c2_lemmas.proofs.Bools.{both_true}
use Rattle.c2_lemmas.proofs.Each.{each_append, each_back, each_front}
use Rattle.c2_lemmas.proofs.Options.{some_at}

-- ---- kinds

-- a box of no ingredient is read as none
pub box_kind : (b : Superbox) (r : ReadBox) → IsReadBox b r → is_ingredient r.boxed ≡ false
    → value_in r.ingredient ≡ None
box_kind b r h e = ap value_in (go (is_ingredient b) (sym (ap is_ingredient h.same) ∙ e) h.reads)
  where
    go : (x : Bool) → x ≡ false
        → MatchBool x (IsParsed (ingredient_of (box_version b)) b.item r.ingredient) (r.ingredient ≡ NoItem)
        → r.ingredient ≡ NoItem
    go true f m = absurd (true≢false f)
    go false f m = m

-- each of a manifest
pub boxes_kinds : (bs : List Superbox) (rs : List ReadBox) → AllZip IsReadBox bs rs
    → AllByRecursion (λ (b : ReadBox). is_ingredient b.boxed ≡ false → value_in b.ingredient ≡ None) rs
boxes_kinds [] [] h = tt
boxes_kinds [] (r ∷ rs) h = absurd h
boxes_kinds (b ∷ bs) [] h = absurd h
boxes_kinds (b ∷ bs) (r ∷ rs) h = (box_kind b r h.0, boxes_kinds bs rs h.1)

-- each of a store
all_kinds : (ms : List Manifest) (rs : List Reading) → AreReadings ms rs → AllByRecursion ReadsKinds rs
all_kinds [] [] h = tt
all_kinds [] (r ∷ rs) h = absurd h
all_kinds (m ∷ ms) [] h = absurd h
all_kinds (m ∷ ms) (r ∷ rs) h = (boxes_kinds m.assertions r.boxes h.0.boxes, all_kinds ms rs h.1)

-- ---- the rules apart from verdicts

-- the rules of a place hold apart from the verdict
pub unjudged_place : (hash : Alg → List ℕ → List ℕ) (said : Question → Verdict) (rs : List Reading) (i : ℕ)
    → AllByRecursion Holds (place_tests (judged_tests hash said) rs i)
    → AllByRecursion Holds (place_tests (unjudged_tests hash) rs i)
unjudged_place hash said rs i h = go (is_reached rs i) (slice_get rs i) h
  where
    go : (b : Bool) (o : Option Reading) → AllByRecursion Holds (cond b (tests_of (judged_tests hash said) rs i o) [])
        → AllByRecursion Holds (cond b (tests_of (unjudged_tests hash) rs i o) [])
    go false o k = k
    go true None k = k
    go true (Some r) k =
        let s = seen_at rs i r in
        let v = option_map said (question_in r) in
        each_append Holds (claim_tests r) (rest_tests hash s)
        (each_front Holds (claim_tests r) (verdict_tests r v ++ rest_tests hash s) k)
        (each_back Holds (verdict_tests r v) (rest_tests hash s) (each_back Holds (claim_tests r) (verdict_tests r v ++ rest_tests hash s) k))

-- the rules of all places hold apart from the verdict
pub unjudged_all : (hash : Alg → List ℕ → List ℕ) (said : Question → Verdict) (rs : List Reading) (n : ℕ)
    → AllByRecursion Holds (downward (place_tests (judged_tests hash said) rs) n)
    → AllByRecursion Holds (downward (place_tests (unjudged_tests hash) rs) n)
unjudged_all hash said rs zero h = tt
unjudged_all hash said rs (suc n) h =
    each_append Holds (place_tests (unjudged_tests hash) rs n) (downward (place_tests (unjudged_tests hash) rs) n)
    (unjudged_place hash said rs n (each_front Holds (place_tests (judged_tests hash said) rs n) (downward (place_tests (judged_tests hash said) rs) n) h))
    (unjudged_all hash said rs n (each_back Holds (place_tests (judged_tests hash said) rs n) (downward (place_tests (judged_tests hash said) rs) n) h))

-- ---- the parent

-- what a box at a place is read as
record ReadAt (qs : List Reading) (i : ℕ) (t : Tree) : Type 0 where
  new : Reading
  is : slice_get qs i ≡ Some new
  reads : IsReading (manifest_of t) new
  store : IsStoreBox t

-- the box at a place and its reading
read_at : (ts : List Tree) (qs : List Reading) (i : ℕ) (t : Tree) → AreReadings (map manifest_of ts) qs
    → AllByRecursion IsStoreBox ts → slice_get ts i ≡ Some t → ReadAt qs i t
read_at [] qs i t h k e = absurd (cc (e))
read_at (u ∷ ts) [] i t h k e = absurd h
read_at (u ∷ ts) (q ∷ qs) zero t h k e =
    let same : u ≡ t = same_Some u t e in
    record
    { new = q; is = refl; reads = subst (λ (x : Tree). IsReading (manifest_of x) q) same h.0; store = subst IsStoreBox same k.0 }
read_at (u ∷ ts) (q ∷ qs) (suc i) t h k e =
    let r = read_at ts qs i t h.1 k.1 e in
    record { new = r.new; is = r.is; reads = r.reads; store = r.store }

-- both ways of telling a label are one
pub same_label : (t : Tree) → tree_label t ≡ any_label (node t)
same_label (leaf b) = refl
same_label (super wide d us) = refl

-- the label of a legal box
pub legal_label : (depth : ℕ) (t : Tree) (l : List ℕ) → IsLegalTree depth t → any_label (node t) ≡ Some l → IsLabel l
legal_label depth (leaf b) l h e = absurd (cc (e))
legal_label depth (super wide d us) l h e = subst (λ o. IfSome o IsLabel) e h.1.fields.label

-- the last of what is carried, where it lost what redactions take out
is_last : (redacts : List (List ℕ)) (boxes : Trees) (rs ss : List Reading) (p : NamedManifest)
    → AreLess redacts rs ss → AreReadings (map manifest_of (supers_in boxes)) ss
    → AllByRecursion IsStoreBox (supers_in boxes) → AreLegalTrees 2 boxes → LabelsDiffer rs → 0 < length rs
    → IsParentOf p (supers_in boxes) → IsLast p rs ss
is_last redacts boxes rs ss p less reads stores legal differ some is =
    let count : length (supers_in boxes) ≡ length rs =
    read_len (supers_in boxes) ss reads ∙ less_len redacts rs ss less in
    let there : slice_get (supers_in boxes) (length rs - 1) ≡ Some is.active =
    subst (λ n. slice_get (supers_in boxes) (n - 1) ≡ Some is.active) count is.is_active in
    let at : ReadAt ss (length rs - 1) is.active =
    read_at (supers_in boxes) ss (length rs - 1) is.active reads stores there in
    let pair : LessAt redacts rs ss (length rs - 1) =
    less_at redacts rs ss (length rs - 1) less (omega (arith, some)) in
    let new : pair.new ≡ at.new = same_Some pair.new at.new (sym pair.is_new ∙ at.is) in
    let named : label_in at.new ≡ p.label =
    same_Some (label_in at.new) p.label
    (sym (read_label is.active at.new at.reads at.store) ∙ same_label is.active ∙ is.label) in
    let label : label_in pair.old ≡ p.label =
    sym (less_label redacts pair.old pair.new pair.less) ∙ ap label_in new ∙ named in
    record {
      place =
          subst (λ (l : List ℕ). place_of rs l ≡ Some (length rs - 1)) label
          (place_is rs (length rs - 1) pair.old differ pair.is_old);
      some = some;
      active = at.new;
      is_active = at.is;
      contents = ap (λ (m : Manifest). m.contents) at.reads.same ∙ same_contents is.active ∙ is.contents;
      signed =
          ap (λ (m : Manifest). option_map (λ (b : Superbox). b.contents) m.signature) at.reads.same
          ∙ ap (λ o. option_map (λ (b : Superbox). b.contents) (option_map superbox_of o)) is.is_signature
          ∙ ap (λ (x : List ℕ). Some x) (box_contents is.signature ∙ is.signed);
      label = legal_label 2 is.active p.label (legal_at boxes 2 (length rs - 1) is.active legal there) is.label;
      names = subst (λ o. is_manifest_label o ≡ true) is.label at.store.label;
    }
  where
    same_contents : (t : Tree) → (manifest_of t).contents ≡ contents_of t
    same_contents (leaf b) = refl
    same_contents (super wide d us) = refl

    box_contents : (t : Tree) → (superbox_of t).contents ≡ contents_of t
    box_contents (leaf b) = refl
    box_contents (super wide d us) = refl

-- ---- the store

-- what is known of the older store
record IsKnown (d : Definition) (old : Tree) (rs : List Reading) : Type 0 where
  stores : AllByRecursion IsStoreBox (supers_in (boxes_in old))
  reads : AreReadings (map manifest_of (supers_in (boxes_in old))) rs
  some : 0 < length rs
  differ : LabelsDiffer rs
  may : AreAccepted d.label rs d.redact
  less : IsReadLess d.redact (boxes_in old) rs
  distinct : AreDistinctLabels (tree_labels (boxes_in old))
  new : IsNewLabel (Some d.label) (tree_labels (boxes_in old))

-- what is known of a valid older store
known : (hash : Alg → List ℕ → List ℕ) (said : Question → Verdict) (d : Definition) (old : Tree) (s : StoreReading)
    → CanStandOver hash said d old s → IsKnown d old s.readings
known hash said d old s h =
    let rs : List Reading = s.readings in
    let bs : Trees = boxes_in old in
    let inside = legal_inside old h.legal in
    let supers : supers_of old ≡ supers_in bs = supers_are old in
    let stores : AllByRecursion IsStoreBox (supers_in bs) =
    subst (AllByRecursion IsStoreBox) supers (store_boxes old h.store) in
    let ms : manifests_of old ≡ map manifest_of (supers_in bs) = same_manifests old ∙ ap (map manifest_of) supers in
    let reads : AreReadings (map manifest_of (supers_in bs)) rs =
    subst (λ (x : List Manifest). AreReadings x rs) ms h.reads in
    let differ : LabelsDiffer rs = store_differs bs rs reads stores inside.distinct in
    record {
      stores = stores;
      reads = reads;
      some = subst (λ k. 0 < k) (ap length supers ∙ read_len (supers_in bs) rs reads) (some_boxes old h.store);
      differ = differ;
      may = accepted d.label rs d.redact differ h.redactions;
      less = read_less d.redact bs rs inside.legal stores reads;
      distinct = inside.distinct;
      new = none_taken d.label bs rs reads stores h.label;
    }

-- the rules of its chain, under the judges and apart from verdicts
judged_chain : (hash : Alg → List ℕ → List ℕ) (said : Question → Verdict) (s : StoreReading)
    → AllHold (check_list hash said s) → AllByRecursion Holds (chain_tests (judged_tests hash said) s.readings)
judged_chain hash said s h =
    let rs : List Reading = s.readings in
    each_front Holds (chain_tests (judged_tests hash said) rs) (last_tests hash s.binding (active_in rs))
    (each_back Holds (active_tests (active_in rs)) _ (all_each (check_list hash said s) h))

-- a valid older store is carried less what is redacted
pub carried_less : ValidStoreIsCarried
carried_less hash said d old s c h room is =
    let rs : List Reading = s.readings in
    let k : IsKnown d old rs = known hash said d old s h in
    let vs : Trees = redacted_boxes d.redact (boxes_in old) in
    let left : length (supers_in vs) ≡ length rs =
    read_len (supers_in vs) k.less.ss k.less.reads ∙ less_len d.redact rs k.less.ss k.less.less in
    let can : CanBeCarried d.label vs = record {
      legal = k.less.legal;
      distinct = subst AreDistinctLabels (sym k.less.labels) k.distinct;
      new = subst (λ os. IsNewLabel (Some d.label) os) (sym k.less.labels) k.new;
      manifests = k.less.stores;
      few = omega (arith, left, room);
    } in
    record {
      readings = k.less.ss;
      over = subst (λ (x : Definition). IsTakenOver hash (record { definition = x; carried = c.carried; ingredients = c.ingredients }) rs k.less.ss) (sym is.definition) (record {
        carried = subst (CanBeCarried d.label) (sym is.carried) can;
        reads =
            subst (λ (x : Trees). AreReadings (map manifest_of (supers_in x)) k.less.ss) (sym is.carried) k.less.reads;
        less = k.less.less;
        kinds = all_kinds (map manifest_of (supers_in (boxes_in old))) rs k.reads;
        holds = all_hold _ (unjudged_all hash said rs (length rs) (judged_chain hash said s h.valid));
        can = k.may.can;
        redactions = k.may.rules;
      });
      last =
          λ p at. is_last d.redact vs rs k.less.ss p k.less.less k.less.reads k.less.stores k.less.legal k.differ k.some (subst (λ (x : Trees). IsParentOf p (supers_in x)) is.carried at);
    }

-- ---- there is a parent

-- the last manifest is reached
pub last_reached : (rs : List Reading) → 0 < length rs → is_reached rs (length rs - 1) ≡ true
last_reached rs some =
    or_left (is_active rs (length rs - 1)) (reaches rs (length rs - 1) (length rs - 1))
    (eq-eqb (length rs - 1 + 1) (length rs) (omega (arith, some)))

-- the last manifest has a signature box
last_signed : (hash : Alg → List ℕ → List ℕ) (said : Question → Verdict) (rs : List Reading) (a : Reading)
    → AllByRecursion Holds (chain_tests (judged_tests hash said) rs) → 0 < length rs
    → slice_get rs (length rs - 1) ≡ Some a → is_some a.manifest.signature ≡ true
last_signed hash said rs a h some is =
    let place : AllByRecursion Holds (place_tests (judged_tests hash said) rs (length rs - 1)) =
    downward_each (place_tests (judged_tests hash said) rs) (length rs) (length rs - 1) h (omega (arith, some)) in
    let at : AllByRecursion Holds (judged_tests hash said (seen_at rs (length rs - 1) a)) =
    subst (λ o. AllByRecursion Holds (tests_of (judged_tests hash said) rs (length rs - 1) o)) is (subst (λ b. AllByRecursion Holds (cond b (tests_of (judged_tests hash said) rs (length rs - 1) (slice_get rs (length rs - 1))) [])) (last_reached rs some) place) in
    let front : AllByRecursion Holds (claim_tests a) = each_front Holds (claim_tests a) _ at in
    (both_true (is_some a.manifest.signature) (claim_names a.manifest.label (claim_in a)) (not-false _ front.1.1.1.1.1.0)).0

-- a box that is seen was found
pub some_found : (o : Option Tree) → is_some (option_map superbox_of o) ≡ true → (s : Tree) × (o ≡ Some s)
some_found None e = absurd (false≢true e)
some_found (Some s) e = (s, refl)

-- a box with a signature box in it, as a manifest that an ingredient names
named_manifest : Tree → Tree → NamedManifest
named_manifest t box =
    record { label = unwrap_or (any_label (node t)) []; contents = contents_of t; signed = contents_of box }

-- what goes into a new store where the last manifest of what is carried is this one, with this signature box
content_over : (d : Definition) (old t box : Tree)
    → slice_get (supers_in (redacted_boxes d.redact (boxes_in old))) (length (supers_in (redacted_boxes d.redact (boxes_in old))) - 1) ≡ Some t
    → is_manifest_label (any_label (node t)) ≡ true → find is_signature_box (supers_of t) ≡ Some box
    → (c : Content) × IsContentOver d old c
unfolding named_manifest
content_over d old t box last named found = (
  record { definition = d; carried = redacted_boxes d.redact (boxes_in old); ingredients = parent_ingredient (named_manifest t box) ∷ [] },
  record {
    definition = refl;
    carried = refl;
    parent = named_manifest t box;
    ingredients = refl;
    is_parent =
        record
        { active = t; is_active = last; label = label_some (any_label (node t)) named; contents = refl; signature = box; is_signature = found; signed = refl };
  },
)

-- something goes into the new store
pub some_content : SomeContentOver
some_content hash said d old s h =
    let rs : List Reading = s.readings in
    let k : IsKnown d old rs = known hash said d old s h in
    let vs : Trees = redacted_boxes d.redact (boxes_in old) in
    let ss : List Reading = k.less.ss in
    let count : length (supers_in vs) ≡ length rs =
    read_len (supers_in vs) ss k.less.reads ∙ less_len d.redact rs ss k.less.less in
    let n : ℕ = length (supers_in vs) - 1 in
    let last : (t : Tree) × (slice_get (supers_in vs) n ≡ Some t) =
    some_at (supers_in vs) n (omega (arith, count, k.some)) in
    let t : Tree = last.0 in
    let at : ReadAt ss n t = read_at (supers_in vs) ss n t k.less.reads k.less.stores last.1 in
    let pair : LessAt d.redact rs ss n = less_at d.redact rs ss n k.less.less (omega (arith, count, k.some)) in
    let new : pair.new ≡ at.new = same_Some pair.new at.new (sym pair.is_new ∙ at.is) in
    let old_signed : is_some pair.old.manifest.signature ≡ true =
    last_signed hash said rs pair.old (judged_chain hash said s h.valid) k.some
    (subst (λ m. slice_get rs (m - 1) ≡ Some pair.old) count pair.is_old) in
    let signed : is_some (manifest_of t).signature ≡ true =
    sym (ap (λ (r : Reading). is_some r.manifest.signature) (sym pair.less.is ∙ new) ∙ ap (λ (m : Manifest). is_some m.signature) at.reads.same) ∙ old_signed in
    let box = some_found (find is_signature_box (supers_of t)) signed in
    content_over d old t box.0 last.1 at.store.label box.1

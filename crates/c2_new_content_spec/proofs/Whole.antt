-- The store that takes over a chain and has an ingredient for each of its roots meets the rules.
use Rattle.std.specs.Prelude.{find, option_and_then, option_to_list}
use Rattle.std.proofs.Common.{◌≡◌, ℕ, zero, suc, ◌+◌, ◌-◌, ◌^◌, ◌<◌, true, false, cond, List, [], ◌∷◌, ◌++◌, length, map, Some, slice_get, refl, sym, ap, ◌∙◌, subst, arith, append_assoc}
use Rattle.std.specs.List.{AllByRecursion, AllZip}
use Rattle.std.proofs.lemmas.Bool.{eq-eqb}
use Rattle.c2_base.specs.declared.values.Question.{Question}
use Rattle.c2_spec.specs.C2pa.Assertion.{kind_of}
use Rattle.c2_spec.specs.C2pa.Claim.{IsClaim}
use Rattle.c2_spec.specs.C2pa.Manifest.{Manifest, manifests_of}
use Rattle.c2_spec.specs.C2pa.Sign1.{SignParts, question_of}
use Rattle.c2_spec.specs.Jumbf.Tree.{trees_bytes}
use Rattle.c2_spec.specs.declared.claim.ClaimVersion.TheVariants.{V2}
use Rattle.c2_spec.specs.declared.digest.Alg.{Alg}
use Rattle.c2_rules.specs.Binding.{binding_payload}
use Rattle.c2_rules.specs.Chains.{is_active, is_redacted, label_in}
use Rattle.c2_rules.specs.CheckList.{active_tests, chain_tests, place_tests, question_at, questions, questions_of, tests_of}
use Rattle.c2_rules.specs.Readings.{AreReadings, IsReadBox, ReadBox, IsReading, Reading, asked_of, question_in, redactions_in}
use Rattle.c2_rules.specs.Rules.{bindings_in, box_with, is_cloud, is_labelled, is_other_hash, unjudged_tests}
use Rattle.c2_rules.specs.Rules as rule
use Rattle.c2_rules.specs.Seen.{Seen, standing_of}
use Rattle.c2_rules.specs.Tests.{Test, downward}
use Rattle.c2_claim.specs.Written.{claim_from}
use Rattle.c2_definition.specs.declared.types.Definition.{Definition}
use Rattle.c2_definition.specs.declared.types.NewAssertion.{NewAssertion}
use Rattle.c2_new_file_spec.specs.Manifests.{manifest_of, supers_in}
use Rattle.c2_new_file_spec.specs.Store.{Content, NewIngredient, assertion_boxes, claim_parts, ingredient_assertion, new_alg, new_assertions, new_claim, new_manifest, new_store}
use Rattle.c2_new_file_spec.specs.Unbound.{IsKnownBinding}
use Rattle.c2_new_file_spec.specs.Written.{IsNewBinding, IsStoreEndingWith, IsText, new_written, written_assertion, written_item}
use Rattle.c2_rules.proofs.Conditions.{Holds, all_each, all_hold}
use Rattle.c2_new_file_spec.proofs.Ingredients.{AreLabelled, good_label}
use Rattle.c2_new_file_spec.proofs.Labels.{IsLabelText, manifest_label}
use Rattle.c2_new_file_spec.proofs.StoreSize.{assertion_len, manifest_len, store_len}
use Rattle.c2_new_file_spec.proofs.Texts.{name_utf8}
use Rattle.c2_new_file_spec.proofs.WrittenStore.{AreDifferent, all_different, own_assertions, store_read}
use Rattle.c2_new_file_spec.specs.Less.{AreLess}
use Rattle.c2_new_file_spec.proofs.Places.{less_len}
use Rattle.c2_new_content_spec.specs.Gathered.{GatheredStoreMeets, GatheredStoreReaches, IsOverRoots}
use Rattle.c2_new_content_spec.specs.Taken.{IsRoot, question_from, questions_from}
use Rattle.c2_new_content_spec.proofs.Bindings.{IsBindingLabel, by_label, known_label, known_new}
use Rattle.c2_new_content_spec.proofs.Boxes.{StandsBy, all_listed, boxes_zip, gathered_reading, gathered_rest, gathered_roots, one_binding, read_as, root_stands, said_by}
use Rattle.c2_new_content_spec.proofs.Boxes as boxes
use Rattle.c2_new_content_spec.proofs.Claims.{AreGoodParts, claim_read}
use Rattle.c2_new_content_spec.proofs.Items.{box_within, ingredient_read, label_text}
use Rattle.c2_new_content_spec.proofs.Less.{silent_boxes}
use Rattle.c2_new_content_spec.proofs.More.{get_last, len_more}
use Rattle.c2_new_content_spec.proofs.NewRules.{IsListed, RestHolds, bindings_of, box_found, new_box, new_boxes, new_seen, own_bindings, own_names, own_rules}
use Rattle.c2_new_content_spec.proofs.Older.{IsMade, old_question, older_holds}
use Rattle.c2_new_content_spec.proofs.Plain.{refs_good, texts_utf8, title_utf8}
use Rattle.c2_new_content_spec.proofs.Roots.{new_reached, new_redacted, old_reached}
use Rattle.c2_new_content_spec.proofs.Uris.{signature_utf8}
use Rattle.c2_lemmas.proofs.Each.{each_append, zip_append}

-- the item of the binding's box
pub payload_of : (x : Reading) (binding : NewAssertion) (b : ReadBox) → bindings_in x ≡ binding.label ∷ []
    → box_with x binding.label ≡ Some b → binding_payload x ≡ b.boxed.item
payload_of x binding b bindings box =
    ap
    (λ (ls : List (List ℕ)). option_and_then (λ (r : ReadBox). r.boxed.item) (option_and_then (box_with x) (slice_get ls 0)))
    bindings
    ∙ ap (option_and_then (λ (r : ReadBox). r.boxed.item)) box

-- a binding can be listed
binding_listed : (b : NewAssertion) → IsKnownBinding b → IsListed b
binding_listed b known =
    let k : IsBindingLabel b.label = known_label b.label known.label in
    record
    { text = k.named; no_cloud = by_label (λ (l : List ℕ). is_cloud (kind_of l) ≡ false) refl refl b.label known.label; no_other = by_label (λ (l : List ℕ). is_other_hash (kind_of l) ≡ false) refl refl b.label known.label }

-- the texts of what the builder adds
own_texts : (hash : List ℕ → List ℕ) (gs : List NewIngredient) (b : NewAssertion) → AreLabelled gs → IsText b.label
    → AllByRecursion (λ (a : NewAssertion). IsText a.label) (own_assertions hash gs b)
own_texts hash [] b h k = (k, tt)
own_texts hash (g ∷ gs) b h k = ((good_label g.label h.0).text, own_texts hash gs b h.1 k)

-- the labels of roots
root_labels : (rs ss : List Reading) (gs : List NewIngredient) (roots : List ℕ)
    → AllZip (λ (g : NewIngredient) root. IsRoot rs ss g.of root) gs roots
    → AllByRecursion (λ (g : NewIngredient). IsLabelText g.of.label) gs
root_labels rs ss [] [] h = tt
root_labels rs ss [] (n ∷ ns) h = absurd h
root_labels rs ss (g ∷ gs) [] h = absurd h
root_labels rs ss (g ∷ gs) (n ∷ ns) h = (label_text g.of.label h.0.label h.0.names, root_labels rs ss gs ns h.1)

-- each root stands earlier
roots_stand : (redacts : List (List ℕ)) (rs ss : List Reading) (x : Reading) (gs : List NewIngredient) (roots : List ℕ)
    → AreLess redacts rs ss → AllByRecursion (λ (g : NewIngredient). IsLabelText g.of.label) gs
    → AllZip (λ (g : NewIngredient) root. IsRoot rs ss g.of root) gs roots
    → AllByRecursion (StandsBy (standing_of (ss ++ x ∷ []) (length rs))) gs
roots_stand redacts rs ss x [] roots less u h = tt
roots_stand redacts rs ss x (g ∷ gs) [] less u h = absurd h
roots_stand redacts rs ss x (g ∷ gs) (n ∷ ns) less u h =
    (root_stands redacts rs ss x g n less u.0 h.0, roots_stand redacts rs ss x gs ns less u.1 h.1)

-- each ingredient is read, where the boxes of all assertions are short
items_read : (hash : List ℕ → List ℕ) (before : List NewAssertion) (gs : List NewIngredient) (after rest : List NewAssertion)
    (roots : List ℕ) (rs ss : List Reading)
    → AllByRecursion (λ (g : NewIngredient). IsLabelText g.of.label) gs
    → AllZip (λ (g : NewIngredient) root. IsRoot rs ss g.of root) gs roots
    → rest ≡ before ++ (map (ingredient_assertion hash) gs ++ after)
    → length (trees_bytes (assertion_boxes rest)) < 2 ^ 64 → AllByRecursion (boxes.IsRead hash) gs
items_read hash before [] after rest roots rs ss u h e short = tt
items_read hash before (g ∷ gs) after rest [] rs ss u h e short = absurd h
items_read hash before (g ∷ gs) after rest (n ∷ ns) rs ss u h e short =
    let inside = box_within before (ingredient_assertion hash g) (map (ingredient_assertion hash) gs ++ after) in
    let whole : length (trees_bytes (assertion_boxes rest)) ≡ length (trees_bytes (assertion_boxes (before ++ ingredient_assertion hash g ∷ (map (ingredient_assertion hash) gs ++ after)))) = ap (λ (z : List NewAssertion). length (trees_bytes (assertion_boxes z))) e in (
      ingredient_read hash g u.0 h.0.label.0
          (omega (arith, short, whole, inside, assertion_len (ingredient_assertion hash g))),
      items_read hash (before ++ ingredient_assertion hash g ∷ []) gs after rest ns rs ss u.1 h.1
          (e ∙ sym (append_assoc before (ingredient_assertion hash g ∷ []) (map (ingredient_assertion hash) gs ++ after))) short,
    )

-- what holds at each place holds of all
pub downward_holds : (f : ℕ → List Test) (n : ℕ) → ((i : ℕ) → i < n → AllByRecursion Holds (f i))
    → AllByRecursion Holds (downward f n)
downward_holds f zero h = tt
downward_holds f (suc n) h =
    each_append Holds (f n) (downward f n) (h n (omega arith)) (downward_holds f n (λ i lt. h i (omega arith)))

-- where the questions are the same place by place, they are the same
pub questions_same : (f g : ℕ → List Question) (n : ℕ) → ((i : ℕ) → i < n → f i ≡ g i) → downward f n ≡ downward g n
questions_same f g zero h = refl
questions_same f g (suc n) h =
    ap (λ (x : List Question). x ++ downward f n) (h n (omega arith))
    ∙ ap (λ (x : List Question). g n ++ x) (questions_same f g n (λ i lt. h i (omega arith)))

-- the new question and then the older ones
all_questions : (rs ss : List Reading) (x : Reading) (roots : List ℕ) (q : Question) → IsMade rs ss x roots
    → slice_get (ss ++ x ∷ []) (length rs) ≡ Some x → length (ss ++ x ∷ []) ≡ suc (length rs) → question_in x ≡ Some q
    → questions (ss ++ x ∷ []) ≡ q ∷ questions_from rs roots
all_questions rs ss x roots q made last len asks =
    let all : List Reading = ss ++ x ∷ [] in
    let n : ℕ = length rs in
    let own : question_at all n ≡ q ∷ [] =
    ap (λ b. cond b (questions_of (slice_get all n)) [])
    (new_reached (redactions_in x) rs ss x made.over.quiet.are_less)
    ∙ ap questions_of last ∙ ap option_to_list asks in
    ap (downward (question_at all)) len ∙ ap (λ (qs : List Question). qs ++ downward (question_at all) n) own
    ∙ ap (λ (qs : List Question). q ∷ qs)
    (questions_same (question_at all) (question_from rs roots) n (λ i lt. old_question rs ss x roots i made lt))

-- ---- what the store is read as

-- the new manifest is read so
abbrev pub new_of : (List ℕ → List ℕ) → Content → NewAssertion → List ℕ → SignParts → Reading
new_of hash c binding message sp = gathered_reading hash c binding (new_claim hash c binding) message sp

-- The store is a legal tree and a store, the labels of the new assertions differ, and its manifests are read as those that are taken
-- over, less what is redacted, and the new one, whose ingredients are the roots.
pub record AreGathered (hash : List ℕ → List ℕ) (c : Content) (binding : NewAssertion) (message : List ℕ) (sp : SignParts) (roots : List ℕ) (rs ss : List Reading) : Type 0 where
  pub different : AreDifferent (new_assertions hash c binding)
  pub read : IsStoreEndingWith c.carried (new_written hash c binding message) (new_store hash c binding message)
  pub made : IsMade rs ss (new_of hash c binding message sp) roots
  pub reads : AreReadings (manifests_of (new_store hash c binding message))
      (ss ++ new_of hash c binding message sp ∷ [])

-- the store is gathered as the record says
gathered_are : (hash : Alg → List ℕ → List ℕ) (c : Content) (binding : NewAssertion) (message : List ℕ) (sp : SignParts)
    (roots : List ℕ) (rs ss : List Reading)
    → IsOverRoots hash c binding message sp roots rs ss
    → AreGathered (hash (new_alg c.definition)) c binding message sp roots rs ss
gathered_are hash c binding message sp roots rs ss o =
    let h : List ℕ → List ℕ = hash (new_alg c.definition) in
    let d : Definition = c.definition in
    let gs : List NewIngredient = c.ingredients in
    let own_label : IsBindingLabel binding.label = known_label binding.label o.known.label in
    let as_ : List NewAssertion = new_assertions h c binding in
    let claim : List ℕ = new_claim h c binding in
    let x : Reading = new_of h c binding message sp in
    let u : AllByRecursion (λ (g : NewIngredient). IsLabelText g.of.label) gs = root_labels rs ss gs roots o.named in
    let new : IsNewBinding binding = known_new binding o.known in
    let different : AreDifferent as_ = all_different h c binding o.written o.ingredients new in
    let read : IsStoreEndingWith c.carried (new_written h c binding message) (new_store h c binding message) =
    store_read h c binding message o.written o.taken.can_be o.ingredients new o.fits in
    let texts : AllByRecursion (λ (a : NewAssertion). IsText a.label) as_ =
    each_append (λ (a : NewAssertion). IsText a.label) d.assertions (own_assertions h gs binding) o.written.texts.labels
    (own_texts h gs binding o.ingredients.labels own_label.text) in
    let parts : AreGoodParts (claim_parts h c binding) = record {
      signature = signature_utf8 d.label o.written.texts.label.utf8;
      instance = o.written.texts.instance.utf8;
      generator = o.written.texts.generator.utf8;
      title = title_utf8 d.title o.written.texts.title;
      alg = name_utf8 (new_alg d);
      entries = refs_good h as_ texts;
      redacted = texts_utf8 d.redact o.written.texts.redact;
    } in
    let whole = store_len c.carried (new_manifest h c binding message) in
    let inner = manifest_len d.label as_ claim message in
    let is_claim : IsClaim V2 claim (claim_from (claim_parts h c binding)) =
    claim_read (claim_parts h c binding) parts (omega (arith, whole, inner, o.fits)) in
    let items : AllByRecursion (boxes.IsRead h) gs =
    items_read h d.assertions gs (binding ∷ []) as_ roots rs ss u o.named refl
    (omega (arith, whole, inner, o.fits)) in
    let own_boxes : AllZip IsReadBox (map written_assertion as_) (new_boxes (read_as h gs) as_) =
    boxes_zip h gs d.assertions binding o.ingredients.labels o.ingredients.apart o.written.formed.labels o.known.label items in
    record {
      different = different;
      read = read;
      made = record {
        over = record {
          quiet =
              record
              { are_less = o.taken.less; silent = λ i r e. silent_boxes d.redact (label_in r) r.boxes (o.taken.can.kinds i r e) (o.taken.rooted.kinds i r e) };
          names =
              gathered_roots h c binding claim message sp roots rs ss o.ingredients o.written.formed.labels
              o.known.label o.taken.less u o.named;
          within = o.taken.rooted.within;
        };
        can = o.taken.can;
      };
      reads = subst (λ (ms : List Manifest). AreReadings ms (ss ++ x ∷ [])) (sym read.manifests)
          (zip_append IsReading (map manifest_of (supers_in c.carried)) _ ss (x ∷ []) o.taken.reads (record { same = refl; claim = (is_claim.item, is_claim.has, is_claim.is); message = o.spells; boxes = own_boxes }, tt));
    }

-- ---- the rules

-- the store meets them
pub gathered_unbound : GatheredStoreMeets
unfolding rule.label_kind
gathered_unbound hash c binding message sp roots rs ss o =
    let h : List ℕ → List ℕ = hash (new_alg c.definition) in
    let d : Definition = c.definition in
    let gs : List NewIngredient = c.ingredients in
    let k : AreGathered h c binding message sp roots rs ss =
    gathered_are hash c binding message sp roots rs ss o in
    let as_ : List NewAssertion = new_assertions h c binding in
    let claim : List ℕ = new_claim h c binding in
    let x : Reading = new_of h c binding message sp in
    let label : IsLabelText d.label = manifest_label d.label o.written.formed.label in
    let u : AllByRecursion (λ (g : NewIngredient). IsLabelText g.of.label) gs = root_labels rs ss gs roots o.named in
    let listed : AllByRecursion IsListed as_ =
    all_listed h gs d.assertions binding o.ingredients.labels o.written.formed.labels (binding_listed binding o.known) in
    let one : bindings_of as_ ≡ binding.label ∷ [] =
    one_binding h gs d.assertions binding o.ingredients.labels o.written.formed.labels
    (known_label binding.label o.known.label).kind in
    let all : List Reading = ss ++ x ∷ [] in
    let n : ℕ = length rs in
    let same_len : length ss ≡ n = less_len d.redact rs ss o.taken.less in
    let s : Seen = new_seen x (is_redacted all n) (standing_of all n) in
    let rest : RestHolds hash s =
    gathered_rest hash c binding claim message sp (is_redacted all n)
    (standing_of all n) o.ingredients o.written.formed.labels o.known.label
    (roots_stand d.redact rs ss x gs roots o.taken.less u o.named) (all_each _ o.taken.redactions) in
    let own : AllByRecursion Holds (unjudged_tests hash s) =
    own_rules hash (read_as h gs) d.label (said_by d) as_ claim message sp (is_redacted all n)
    (standing_of all n) binding.label label listed k.different
    (λ l. new_redacted d.redact rs ss x l o.taken.less) one rest in
    let active : is_active all n ≡ true = eq-eqb (n + 1) (length all) (omega (arith, len_more ss x, same_len)) in
    let last_is : slice_get all n ≡ Some x = ap (slice_get all) (sym same_len) ∙ get_last ss x in
    let own_place : AllByRecursion Holds (place_tests (unjudged_tests hash) all n) =
    subst (λ b. AllByRecursion Holds (cond b (tests_of (unjudged_tests hash) all n (slice_get all n)) []))
    (sym (new_reached d.redact rs ss x o.taken.less))
    (subst (λ o. AllByRecursion Holds (tests_of (unjudged_tests hash) all n o)) (sym last_is)
    (subst (λ a. AllByRecursion Holds (unjudged_tests hash (record { own = x; is_active = a; is_redacted = is_redacted all n; standing = standing_of all n }))) (sym active) own)) in
    let total_len : length all ≡ suc n = len_more ss x ∙ ap suc same_len in
    let chain : AllByRecursion Holds (chain_tests (unjudged_tests hash) all) =
    subst (λ k. AllByRecursion Holds (downward (place_tests (unjudged_tests hash) all) k)) (sym total_len)
    (each_append Holds (place_tests (unjudged_tests hash) all n) (downward (place_tests (unjudged_tests hash) all) n) own_place (downward_holds (place_tests (unjudged_tests hash) all) n (λ i lt. older_holds hash rs ss x roots i k.made lt o.taken.rooted.holds))) in
    let last_place : length all - 1 ≡ n = omega (arith, total_len) in
    let bindings : bindings_in x ≡ binding.label ∷ [] =
    own_bindings h (read_as h gs) d.label (said_by d) as_ claim message sp binding.label listed one in
    let front : List NewAssertion = d.assertions ++ map (ingredient_assertion h) gs in
    let split : as_ ≡ front ++ binding ∷ [] =
    sym (append_assoc d.assertions (map (ingredient_assertion h) gs) (binding ∷ [])) in
    let box : box_with x binding.label ≡ Some (new_box (read_as h gs) binding) =
    ap (λ (z : List NewAssertion). find (is_labelled binding.label) (new_boxes (read_as h gs) z)) split
    ∙ box_found (read_as h gs) front binding [] (subst AreDifferent split k.different) in
    record {
      spelled = k.read.spelled;
      store = k.read.store;
      readings = all;
      reads = k.reads;
      active = x;
      is_active = ap (slice_get all) last_place ∙ last_is;
      label = ap (λ (z : List (List ℕ)). slice_get z 0) bindings;
      item = payload_of x binding (new_box (read_as h gs) binding) bindings box
          ∙ ap (λ k. written_item k binding.bytes) o.known.item;
      no_update = all_hold (active_tests (Some x)) (refl, tt);
      holds = all_hold (chain_tests (unjudged_tests hash) all) chain;
      asks = all_questions rs ss x roots (question_of sp claim) k.made last_is total_len
          (ap (λ b. asked_of b (Some claim) (Some sp)) (own_names h d.label (said_by d) as_ claim message label));
    }

-- the new manifest and what is reached from the roots are reached in the store
pub gathered_reaches : GatheredStoreReaches
gathered_reaches hash c binding message sp roots rs ss o =
    let h : List ℕ → List ℕ = hash (new_alg c.definition) in
    let k : AreGathered h c binding message sp roots rs ss =
    gathered_are hash c binding message sp roots rs ss o in
    let x : Reading = new_of h c binding message sp in
    let same_len : length ss ≡ length rs = less_len c.definition.redact rs ss o.taken.less in (
      ss ++ x ∷ [],
      k.reads,
      record {
        count = omega (arith, len_more ss x, same_len);
        older = λ i lt. old_reached c.definition.redact rs ss x roots i k.made.over lt;
        new = new_reached c.definition.redact rs ss x o.taken.less;
      },
    )

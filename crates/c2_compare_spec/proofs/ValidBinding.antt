-- What a valid store says of the binding of its active manifest, and all that the laws use of an accepted
-- file.
use Rattle.std.proofs.Common.{◌≡◌, inl, inr, ℕ, ◌+◌, ◌-◌, ◌<◌, true, false, not, ◌||◌, cond, ltb, eqb, List, [], ◌∷◌, ◌++◌, Option, Some, None, Ok, Err, Result, length, Contains, slice_get, refl, sym, ap, ◌∙◌, subst, arith}
use Rattle.std.specs.Option.{option_and_then}
use Rattle.std.proofs.lemmas.Bool.Decides.{Decides-eqb, Decides-ltb}
use Rattle.c2_base.specs.declared.values.Question.{Question}
use Rattle.c2_spec.specs.C2pa.Manifest.{Manifest}
use Rattle.c2_spec.specs.Cbor.Fields.{HasItem}
use Rattle.c2_spec.specs.Cbor.Item.{Item}
use Rattle.c2_spec.specs.Digest.{alg_named}
use Rattle.c2_spec.specs.declared.assertion.FieldError.{FieldError}
use Rattle.c2_spec.specs.declared.cbor.Ref.{Ref}
use Rattle.c2_spec.specs.declared.digest.Alg.{Alg}
use Rattle.c2_spec.specs.declared.panel.Verdict.{Verdict}
use Rattle.c2_rules.proofs.ListLemmas.{contains_none, contains_head, contains_cons, from_filter_map, in_filter_map, from_and_then, or_left}
use Rattle.c2_rules.proofs.ReachLemmas.{reached_decides}
use Rattle.c2_rules.specs.Binding.{Binding, Media, IsItemOf, IsBinding, IsLabelledBinding, HasBinding, binding_label, binding_box, binding_payload, bound_to_tests, item_tests, media_tests, binding_value}
use Rattle.c2_rules.specs.Chains.{label_in, entry_label, is_active, is_reached}
use Rattle.c2_rules.specs.Chains.Reached.{active}
use Rattle.c2_rules.specs.CheckList.{StoreReading, IsStoreReading, HasBindingOf, active_in, active_tests, chain_tests, last_tests, judged_tests, IsValid}
use Rattle.c2_rules.specs.Ingredients.{assertion_uri}
use Rattle.c2_rules.specs.Readings.{ReadBox, Reading, entries_in}
use Rattle.c2_rules.specs.Rules.{alg_in, is_known, has_digest, box_with, label_kind, is_binding, labels_in, bindings_in, has_other_hash, hash_kind_test, standard_tests, update_tests, binding_tests}
use Rattle.c2_rules.specs.Seen.{Seen, seen_at}
use Rattle.c2_rules.specs.Tests.{over_all, AllHold}
use Rattle.c2_compare_spec.proofs.Facts.{TreeFacts, BindingFacts, FileFacts}
use Rattle.c2_compare_spec.proofs.Holding.{hold_head, hold_front, hold_back, there_too, first_fails}
use Rattle.c2_compare_spec.proofs.Lists.{filter_says, filter_keeps}
use Rattle.c2_compare_spec.proofs.Valid.{rest_of, digest_says, manifest_holds, manifest_facts}
use Rattle.c2_lemmas.proofs.Bools.{not_false_is_true, true_and_false}

-- ---- the one binding that is listed

-- a list that isn't empty and has no second member
single : {X : Type 0} (xs : List X) → eqb (length xs) 0 ≡ false → ltb 1 (length xs) ≡ false
    → (x : X) × (xs ≡ x ∷ [])
single [] e f = absurd cc
single (x ∷ []) e f = (x, refl)
single (x ∷ y ∷ more) e f =
    let lt : 1 < length (x ∷ y ∷ more) = omega arith in
    true_and_false (ltb 1 (length (x ∷ y ∷ more))) ((Decides-ltb 1 (length (x ∷ y ∷ more))).1 lt) f

-- The claim lists one binding of a known kind.
record OneBinding (r : Reading) : Type 0 where
  label : List ℕ
  is : bindings_in r ≡ label ∷ []
  entry : Ref
  lists : Contains (entries_in r) entry
  is_label : entry_label r.manifest entry ≡ Some label
  kind : is_binding (label_kind label) ≡ true

-- an active manifest that is no update lists one
one_binding : (s : Seen) → s.own.manifest.is_update ≡ false → s.is_active ≡ true → AllHold (binding_tests s)
    → OneBinding s.own
one_binding s update last h =
    let own : AllHold (standard_tests s) =
    subst (λ b. AllHold (cond b (update_tests s.own) (standard_tests s))) update h in
    let tests = hold_back (over_all (hash_kind_test s) 0 (labels_in s.own)) _ own in
    let some : eqb (length (bindings_in s.own)) 0 ≡ false =
    first_fails (eqb (length (bindings_in s.own)) 0) (s.is_active || not (has_other_hash s.own))
    (or_left s.is_active (not (has_other_hash s.own)) last) (tests 0 _ refl) in
    let one = single (bindings_in s.own) some (tests 1 _ refl) in
    let listed =
    filter_says (λ (label : List ℕ). is_binding (label_kind label)) (labels_in s.own) one.0
    (subst (λ z. Contains z one.0) (sym one.1) (contains_head one.0 [])) in
    let e = from_filter_map (entry_label s.own.manifest) (entries_in s.own) one.0 listed.0 in
    record { label = one.0; is = one.1; entry = e.0; lists = e.1; is_label = e.2; kind = listed.1 }

-- no other is listed
no_other : (r : Reading) (o : OneBinding r) (e : Ref) (other : List ℕ) → Contains (entries_in r) e
    → entry_label r.manifest e ≡ Some other
    → is_binding (label_kind other) ≡ true → other ≡ o.label
no_other r o e other listed is kind =
    let label = in_filter_map (entry_label r.manifest) (entries_in r) e other listed is in
    let binding = filter_keeps (λ (x : List ℕ). is_binding (label_kind x)) (labels_in r) other label kind in
    elim (contains_cons o.label other [] (subst (λ z. Contains z other) o.is binding)) [
      | inl same ↦ sym same
      | inr rest ↦ absurd (contains_none other rest)
    ]

-- ---- its box and its item

-- The item of the binding, and what it comes to.
record HasValue (media : Media) (r : Reading) (label : List ℕ) (v : Binding) : Type 0 where
  bytes : List ℕ
  has_bytes : binding_payload r ≡ Some bytes
  item : Item
  has_item : HasItem bytes item
  is : IsBinding media (label_kind label) item (Ok v)

-- an item that a payload is has bytes
item_bytes : (o : Option (List ℕ)) (v : Item) → IsItemOf o (Some v)
    → (bytes : List ℕ) × (o ≡ Some bytes) × HasItem bytes v
item_bytes None v h = absurd h
item_bytes (Some bytes) v h = (bytes, refl, h)

-- a binding that a label comes to has an item
has_value : (media : Media) (r : Reading) (label : List ℕ) (v : Binding) (i : Option Item)
    → IsItemOf (binding_payload r) i
    → IsLabelledBinding media (Some label) i (Some (Ok v)) → HasValue media r label v
has_value media r label v None of is = absurd (cc (is))
has_value media r label v (Some w) of is =
    let b = item_bytes (binding_payload r) w of in
    record { bytes = b.0; has_bytes = b.1; item = w; has_item = b.2; is = is }

-- the box of a payload
payload_box : (r : Reading) (label bytes : List ℕ) → binding_label r ≡ Some label
    → binding_payload r ≡ Some bytes
    → (b : ReadBox) × (box_with r label ≡ Some b) × (b.boxed.item ≡ Some bytes)
payload_box r label bytes is e =
    let b = from_and_then (λ (x : ReadBox). x.boxed.item) (binding_box r) bytes e in
    (b.0, sym (ap (option_and_then (box_with r)) is) ∙ b.1, b.2)

-- a binding whose conditions hold
binding_fact : (hash : Alg → List ℕ → List ℕ) (media : Media) (s : StoreReading) (r : Reading) → OneBinding r
    → HasBinding media r s.binding
    → AllHold (media_tests hash r s.binding) → BindingFacts hash s r
binding_fact hash media s r o has h =
    by s.binding refl (subst (λ z. AllHold (bound_to_tests hash r s.binding z)) label_is h)
  where
    label_is : binding_label r ≡ Some o.label
    label_is = ap (λ z. slice_get z 0) o.is

    by : (b : Option (Result Binding FieldError)) → s.binding ≡ b
        → AllHold (item_tests hash r (assertion_uri (label_in r) o.label) (label_kind o.label) b)
        → BindingFacts hash s r
    by None same g = absurd (let bad = g 0 _ refl in cc (bad))
    by (Some (Err e)) same g = absurd (let bad = g 0 _ refl in cc (bad))
    by (Some (Ok v)) same g =
        let is : IsLabelledBinding media (Some o.label) has.item (Some (Ok v)) =
        subst (λ z. IsLabelledBinding media (Some o.label) has.item z) same
        (subst (λ z. IsLabelledBinding media z has.item s.binding) label_is has.is) in
        let w = has_value media r o.label v has.item has.is_item is in
        let box = payload_box r o.label w.bytes label_is w.has_bytes in
        let known = there_too (alg_named (alg_in r v.alg)) (not_false_is_true (is_known r v.alg) (g 0 _ refl)) in
        record {
          entry = o.entry;
          lists = o.lists;
          label = o.label;
          is_label = o.is_label;
          kind = o.kind;
          only = no_other r o;
          box = box.0;
          has_box = box.1;
          bytes = w.bytes;
          has_bytes = box.2;
          item = w.item;
          has_item = w.has_item;
          media = media;
          value = v;
          is = w.is;
          is_value = ap binding_value same;
          alg = known.0;
          known = known.1;
          digested =
              digest_says hash (alg_named (alg_in r v.alg)) known.0 v.text v.hash known.1
              (not_false_is_true (has_digest hash r v.alg v.text v.hash) (g 2 _ refl));
        }

-- ---- the file

module _ (hash : Alg → List ℕ → List ℕ) (said : Question → Verdict) (media : Media) (ms : List Manifest)
    (s : StoreReading)
    (store : IsStoreReading media ms s) (tree : TreeFacts s.readings) (valid : IsValid hash said s) where
  -- the conditions after the first
  behind_first : AllHold
      (chain_tests (judged_tests hash said) s.readings ++ last_tests hash s.binding (active_in s.readings))
  behind_first = hold_back (active_tests (active_in s.readings)) _ valid

  -- the conditions of the reached manifests hold
  chain_holds : AllHold (chain_tests (judged_tests hash said) s.readings)
  chain_holds =
      hold_front (chain_tests (judged_tests hash said) s.readings)
      (last_tests hash s.binding (active_in s.readings)) behind_first

  -- the rules of the active manifest's binding
  active_binding : (n : ℕ) (r : Reading) → slice_get s.readings n ≡ Some r → n + 1 ≡ length s.readings
      → BindingFacts hash s r
  active_binding n r at last =
      let reached : is_reached s.readings n ≡ true =
      (reached_decides s.readings tree.differ n).1 (active n last) in
      let is_last : length s.readings - 1 ≡ n = omega arith in
      let active_is : active_in s.readings ≡ Some r = ap (slice_get s.readings) is_last ∙ at in
      let update : r.manifest.is_update ≡ false =
      hold_head _ [] (subst (λ o. AllHold (active_tests o)) active_is
      (hold_front (active_tests (active_in s.readings)) _ valid)) in
      let own = manifest_holds hash said s.readings n r at reached chain_holds in
      let rest = rest_of hash said s.readings n r own in
      let ended : is_active s.readings n ≡ true = (Decides-eqb (n + 1) (length s.readings)).1 last in
      let media_hold = subst (λ o. AllHold (last_tests hash s.binding o)) active_is
      (hold_back (chain_tests (judged_tests hash said) s.readings)
      (last_tests hash s.binding (active_in s.readings)) behind_first) in
      binding_fact hash media s r (one_binding (seen_at s.readings n r) update ended rest.bindings)
      (subst (λ o. HasBindingOf media o s.binding) active_is store.binding) media_hold

  -- all that the laws use of the file
  pub file_facts : FileFacts hash said s
  file_facts = record {
    store = record {
      tree = tree;
      manifests = λ n r at reached.
          manifest_facts hash said s.readings n r (tree.reads n r at)
          (manifest_holds hash said s.readings n r at reached chain_holds);
    };
    binding = active_binding;
  }

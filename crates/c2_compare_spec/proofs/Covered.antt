-- Equal exclusions and digests: the covered texts of two accepted files with one active claim, where no other
-- pairs differ.
use Rattle.std.proofs.Common.{◌≡◌, ℕ, ◌+◌, ◌-◌, false, List, [], Some, None, Ok, Contains, length, sym, ap, ◌∙◌, subst, arith}
use Rattle.std.specs.List.{find}
use Rattle.std.specs.Option.{option_map_or}
use Rattle.c2_base.specs.declared.values.Question.{Question}
use Rattle.c2_spec.specs.C2pa.Manifest.{Superbox}
use Rattle.c2_spec.specs.Cbor.Fields.{HasItem}
use Rattle.c2_spec.specs.Digest.{alg_named}
use Rattle.c2_spec.specs.declared.digest.Alg.{Alg}
use Rattle.c2_spec.specs.declared.panel.Verdict.{Verdict}
use Rattle.c2_rules.proofs.BindingLaws.{same_hashes}
use Rattle.c2_rules.specs.Binding.{Binding, IsBinding, binding_value}
use Rattle.c2_rules.specs.Chains.{entry_label, is_redacted}
use Rattle.c2_rules.specs.CheckList.{StoreReading, active_in}
use Rattle.c2_rules.specs.Readings.{ReadBox, Reading, entries_in}
use Rattle.c2_rules.specs.Rules.{alg_in, box_with, label_kind}
use Rattle.c2_compare_spec.specs.ChainContent.{active_claim, covered_text}
use Rattle.c2_compare_spec.specs.Correspondence.{Correspond}
use Rattle.c2_compare_spec.specs.Differences.{all_ingredients, all_unredacted, binding_alg, covered_alg}
use Rattle.c2_compare_spec.specs.Evidence.{do_differ}
use Rattle.c2_compare_spec.specs.Lists.{IsListOf}
use Rattle.c2_compare_spec.specs.Lists.IsListOf.{covered}
use Rattle.c2_compare_spec.proofs.Facts.{SeenAlike, BindingFacts, FileFacts}
use Rattle.c2_compare_spec.proofs.Links.{binding_stays, stays, one_alg, one_claim, label_second, one_entry, BothBoxes, both_boxes, box_same}
use Rattle.c2_compare_spec.proofs.Walk.{root}
use Rattle.c2_compare_spec.proofs.Contents.{kept_equal}
use Rattle.c2_cbor_spec.proofs.PlainBack.{same_item}
use Rattle.c2_lemmas.proofs.Options.{one_value}

-- The covered texts of both files have one digest, by a known algorithm.
pub record CoveredAlike (hash : Alg → List ℕ → List ℕ) (s t : StoreReading) : Type 0 where
  pub alg : Alg
  pub known : alg_named (covered_alg s) ≡ Some alg
  pub same_digest : hash alg (covered_text s) ≡ hash alg (covered_text t)
  pub left : IsListOf s (covered_text s)
  pub right : IsListOf t (covered_text t)

-- the covered text is that of the binding
text_is : (s : StoreReading) (v : Binding) → binding_value s.binding ≡ Some v → covered_text s ≡ v.text
text_is s v e = ap (λ o. option_map_or (λ (b : Binding). b.text) o []) e

-- the algorithm of the covered text is that which the binding has in the active manifest
alg_is : (s : StoreReading) (r : Reading) (v : Binding) → active_in s.readings ≡ Some r
    → binding_value s.binding ≡ Some v
    → covered_alg s ≡ alg_in r v.alg
alg_is s r v at e = ap (λ o. binding_alg o (binding_value s.binding)) at ∙ ap (binding_alg (Some r)) e

-- where no other pairs differ, the covered texts have one digest
pub covered_alike : (hash : Alg → List ℕ → List ℕ) (said : Question → Verdict) (s t : StoreReading)
    → FileFacts hash said s → FileFacts hash said t
    → SeenAlike s.readings t.readings → active_claim s.readings ≡ active_claim t.readings
    → find do_differ (all_ingredients s.readings t.readings) ≡ None
    → find do_differ (all_unredacted s.readings t.readings) ≡ None
    → CoveredAlike hash s t
covered_alike hash said s t f g alike claims none same = record {
  alg = a.alg;
  known = ap alg_named (alg_is s w.first a.value w.first_at a.is_value) ∙ a.known;
  same_digest =
      ap (hash a.alg) (text_is s a.value a.is_value) ∙ a.digested ∙ values.1 ∙ sym b.digested
      ∙ ap (λ x. hash x b.value.text) (sym one) ∙ ap (hash a.alg) (sym (text_is t b.value b.is_value));
  left = subst (IsListOf s) (sym (text_is s a.value a.is_value)) (covered a.value a.is_value);
  right = subst (IsListOf t) (sym (text_is t b.value b.is_value)) (covered b.value b.is_value);
}
  where
    rs : List Reading
    rs = s.readings

    ss : List Reading
    ss = t.readings

    w : Correspond s.readings t.readings (length s.readings - 1) (length t.readings - 1)
    w = root hash said rs ss f.store g.store alike claims

    a : BindingFacts hash s w.first
    a =
        let some = f.store.tree.some in
        f.binding (length s.readings - 1) w.first w.first_at
        (let e : length s.readings - 1 + 1 ≡ length s.readings = omega arith in e)

    b : BindingFacts hash t w.second
    b =
        let some = g.store.tree.some in
        g.binding (length t.readings - 1) w.second w.second_at
        (let e : length t.readings - 1 + 1 ≡ length t.readings = omega arith in e)

    -- the second manifest lists the same label
    listed : Contains (entries_in w.second) a.entry
    listed = one_entry w.first w.second a.entry
        (one_claim hash said rs ss f.store g.store alike (length rs - 1) (length ss - 1) w) a.lists

    is_label : entry_label w.second.manifest a.entry ≡ Some a.label
    is_label =
        label_second hash said rs ss f.store g.store alike (length rs - 1) (length ss - 1) w a.entry
        a.label a.lists a.is_label

    label : a.label ≡ b.label
    label = b.only a.entry a.label listed is_label a.kind

    -- the box of the binding's entry is equal in both files, and so is the item in it
    stays_first : is_redacted s.readings (length s.readings - 1) a.label ≡ false
    stays_first =
        stays hash said rs f.store (length rs - 1) a.label (binding_stays (label_kind a.label) a.kind)

    stays_second : is_redacted t.readings (length t.readings - 1) a.label ≡ false
    stays_second =
        stays hash said ss g.store (length ss - 1) a.label (binding_stays (label_kind a.label) a.kind)

    boxes : BothBoxes hash w.first w.second a.entry a.label
    boxes = both_boxes hash said rs ss f.store g.store alike (length rs - 1) (length ss - 1) w a.entry
        a.label a.lists a.is_label stays_first stays_second

    equal : boxes.left.boxed ≡ boxes.right.boxed
    equal =
        (box_same hash said rs ss f.store g.store alike (length rs - 1) (length ss - 1) w a.entry a.label
        boxes
        (kept_equal hash said rs ss f.store g.store alike claims none same (length rs - 1) (length ss - 1)
        w a.entry a.label a.lists a.is_label stays_first)).0

    left : boxes.left ≡ a.box
    left = one_value (box_with w.first a.label) boxes.left a.box boxes.left_is a.has_box

    right : boxes.right ≡ b.box
    right = one_value (box_with w.second a.label) boxes.right b.box boxes.right_is
        (ap (box_with w.second) label ∙ b.has_box)

    bytes : a.bytes ≡ b.bytes
    bytes =
        one_value a.box.boxed.item a.bytes b.bytes a.has_bytes
        (ap (λ (x : ReadBox). x.boxed.item) (sym left) ∙ ap (λ (x : Superbox). x.item) equal
        ∙ ap (λ (x : ReadBox). x.boxed.item) right ∙ b.has_bytes)

    item : b.item ≡ a.item
    item = same_item a.bytes b.item a.item (subst (λ z. HasItem z b.item) (sym bytes) b.has_item)
        a.has_item

    -- which names one algorithm and one digest
    values : (a.value.alg ≡ b.value.alg) × (a.value.hash ≡ b.value.hash)
    values =
        same_hashes a.media b.media (label_kind a.label) a.item a.value b.value a.is
        (subst (λ z. IsBinding b.media (label_kind a.label) z (Ok b.value)) item
        (subst (λ z. IsBinding b.media (label_kind z) b.item (Ok b.value)) (sym label) b.is))

    one : a.alg ≡ b.alg
    one =
        one_value (alg_named (alg_in w.first a.value.alg)) a.alg b.alg a.known
        (ap (λ z. alg_named (alg_in w.first z)) values.0
        ∙ ap alg_named (one_alg w.first w.second b.value.alg
        (one_claim hash said rs ss f.store g.store alike (length rs - 1) (length ss - 1) w)) ∙ b.known)

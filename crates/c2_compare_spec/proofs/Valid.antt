-- What a valid store says of its reached manifests, by the conditions of the check list.
use Rattle.std.proofs.Common.{◌≡◌, ℕ, ◌<◌, Bool, true, false, not, cond, ltb, List, [], ◌∷◌, ◌++◌, Option, Some, None, Result, length, take, slice_get, refl, sym, ap, ◌∙◌, subst}
use Rattle.std.specs.Option.{option_map, option_map_or}
use Rattle.std.proofs.lemmas.Bool.Decides.{Decides-ltb}
use Rattle.std.proofs.lemmas.Option.{slice_get_within}
use Rattle.std.proofs.lemmas.Slice.Eq.{bytes_eq-Decides}
use Rattle.c2_base.specs.declared.values.Question.{Question}
use Rattle.c2_spec.specs.C2pa.Assertion.{manifest_named}
use Rattle.c2_spec.specs.C2pa.Manifest.{Superbox, is_given}
use Rattle.c2_spec.specs.C2pa.Sign1.{question_of}
use Rattle.c2_spec.specs.C2pa.Uri.{assertion}
use Rattle.c2_spec.specs.Cbor.Item.{Item}
use Rattle.c2_spec.specs.Digest.{alg_named}
use Rattle.c2_spec.specs.declared.assertion.Ingredient.{Ingredient}
use Rattle.c2_spec.specs.declared.assertion.Kind.{Kind}
use Rattle.c2_spec.specs.declared.assertion.Kind.TheVariants as kinds
use Rattle.c2_spec.specs.declared.cbor.Ref.{Ref}
use Rattle.c2_spec.specs.declared.digest.Alg.{Alg}
use Rattle.c2_spec.specs.declared.panel.Verdict.{Verdict}
use Rattle.c2_spec.specs.declared.panel.Verdict.TheVariants as verdict
use Rattle.c2_spec.proofs.GivenLabels.{given_is}
use Rattle.c2_rules.proofs.ListLemmas.{from_any, from_and_then, from_passes}
use Rattle.c2_rules.proofs.ReachLemmas.{placed}
use Rattle.c2_rules.specs.Chains.{label_in, entry_label, place_of, is_reached, is_redacted, is_touched, passes_some}
use Rattle.c2_rules.specs.CheckList.{place_tests, tests_of, chain_tests, judged_tests}
use Rattle.c2_rules.specs.Ingredients.{is_ingredient_kind, assertion_uri}
use Rattle.c2_rules.specs.Readings.{IsParsed, IsMessageOf, ReadBox, Reading, IsReading, value_in, claim_in, entries_in, redactions_in, names_signature, asked_of, question_in, signature_item}
use Rattle.c2_rules.specs.Rules.{
  claim_uri,
  assertion_box_uri,
  alg_in,
  is_known,
  has_digest_by,
  has_digest,
  has_contents,
  label_kind,
  is_hash,
  claim_tests,
  verdict_tests,
  standing_tests,
  reference_tests,
  child_tests,
  ingredient_tests,
  box_with,
  lists_label,
  box_has_digest,
  labelled_tests,
  entry_tests,
  is_undeclared,
  box_test,
  is_actions,
  is_any_ingredient,
  target_tests,
  uri_tests,
  redaction_tests,
  binding_tests,
  order_tests,
  parsed_tests,
  kind_tests,
  form_tests,
  rest_tests,
  manifest_tests,
}
use Rattle.c2_rules.specs.Seen.{Seen, signature_contents, child_standing, earlier_standing, place_standing, standing_of, seen_at}
use Rattle.c2_rules.specs.Seen as seen
use Rattle.c2_rules.specs.Tests.{Test, test, each, over_all, AllHold}
use Rattle.c2_rules.specs.declared.code.Code.TheVariants as code
use Rattle.c2_rules.specs.declared.parsed.Parsed.{Parsed}
use Rattle.c2_rules.specs.declared.parsed.Parsed.TheVariants.{NoItem, NoForm, Value}
use Rattle.c2_compare_spec.specs.ChainContent.{claim_bytes_of}
use Rattle.c2_compare_spec.proofs.Facts.{IsApproved, HasBox, EntryFact, BoxFact, is_unredactable, RedactionFact, BySignature, Binds, NamedFact, IngredientFact, ManifestFacts}
use Rattle.c2_compare_spec.proofs.Holding.{hold_front, hold_back, hold_each, hold_over, hold_place, there, there_too, second_fails, neither_first, neither_second}
use Rattle.c2_lemmas.proofs.Bools.{not_false_is_true}
use Rattle.c2_lemmas.proofs.Options.{mapped_from, one_value}
use Rattle.c2_rules.proofs.OneAnswer.{message_of}

-- ---- the claim, the signature and the verdict

-- what is read as a value has bytes
bytes_of : {A E : Type 0} (read : Item → Result A E) (o : Option (List ℕ)) (p : Parsed A) (x : A)
    → IsParsed read o p
    → value_in p ≡ Some x → (bytes : List ℕ) × (o ≡ Some bytes)
bytes_of read (Some bytes) p x h e = (bytes, refl)
bytes_of read None NoItem x h e = absurd cc
bytes_of read None NoForm x h e = absurd h
bytes_of read None (Value y) x h e = absurd h

-- a verdict that fails no condition is approval
approves : (r : Reading) (v : Verdict) → AllHold (verdict_tests r (Some v)) → v ≡ verdict.Approved
approves r verdict.Approved h = refl
approves r verdict.Mismatch h = absurd (let bad = h 0 _ refl in cc (bad))
approves r verdict.Untrusted h = absurd (let bad = h 0 _ refl in cc (bad))
approves r verdict.Invalid h = absurd (let bad = h 0 _ refl in cc (bad))
approves r verdict.Silent h = absurd (let bad = h 0 _ refl in cc (bad))

-- the claim is there, and its message is approved over it
is_approved : (said : Question → Verdict) (r : Reading) → IsReading r.manifest r → AllHold (claim_tests r)
    → AllHold (verdict_tests r (option_map said (question_in r))) → IsApproved said r
is_approved said r reading claims verdicts =
    let c = there (claim_in r) (claims 4 _ refl) in
    let names : names_signature r.manifest (claim_in r) ≡ true =
    not_false_is_true (names_signature r.manifest (claim_in r)) (claims 5 _ refl) in
    let m = there r.message (claims 6 _ refl) in
    let b = bytes_of _ (claim_bytes_of r) r.claim c.0 reading.claim c.1 in
    let i = message_of (signature_item r.manifest) m.0
    (subst (IsMessageOf (signature_item r.manifest)) m.1 reading.message) in
    let box = from_and_then (λ (x : Superbox). x.item) r.manifest.signature i.0 i.1 in
    let asked : question_in r ≡ Some (question_of m.0 b.0) =
    ap (λ t. asked_of t (claim_bytes_of r) r.message) names ∙ ap (λ o. asked_of true o r.message) b.1
    ∙ ap (asked_of true (Some b.0)) m.1 in
    record {
      bytes = b.0;
      has_bytes = b.1;
      claim = c.0;
      has_claim = c.1;
      box = box.0;
      has_box = box.1;
      item = i.0;
      has_item = box.2;
      parts = m.0;
      is_message = i.2;
      approved =
          approves r (said (question_of m.0 b.0))
          (subst (λ o. AllHold (verdict_tests r (option_map said o))) asked verdicts);
    }

-- ---- digests

-- a list that passes has the digest
pub digest_says : (hash : Alg → List ℕ → List ℕ) (o : Option Alg) (alg : Alg) (list digest : List ℕ)
    → o ≡ Some alg
    → has_digest_by hash o list digest ≡ true → hash alg list ≡ digest
digest_says hash o alg list digest known h =
    (bytes_eq-Decides (hash alg list) digest).0 (sym (ap (λ x. has_digest_by hash x list digest) known) ∙ h)

-- contents that pass are there and have the digest
contents_say : (hash : Alg → List ℕ → List ℕ) (r : Reading) (ref : Ref) (alg : Alg) (o : Option (List ℕ))
    → alg_named (alg_in r ref.alg) ≡ Some alg → has_contents hash r ref o ≡ true
    → (bytes : List ℕ) × (o ≡ Some bytes) × (hash alg bytes ≡ ref.hash)
contents_say hash r ref alg o known h =
    let p = from_passes (λ (bytes : List ℕ). has_digest hash r ref.alg bytes ref.hash) o h in
    (p.0, p.1, digest_says hash (alg_named (alg_in r ref.alg)) alg p.0 ref.hash known p.2)

-- ---- entries

-- the box of an entry that passes is there and has the digest
box_says : (hash : Alg → List ℕ → List ℕ) (r : Reading) (e : Ref) (label : List ℕ) (alg : Alg)
    → alg_named (alg_in r e.alg) ≡ Some alg
    → box_has_digest hash r e (box_with r label) ≡ true → HasBox hash alg r label e.hash
box_says hash r e label alg known h =
    let c = contents_say hash r e alg (option_map (λ (b : ReadBox). b.boxed.contents) (box_with r label))
    known h in
    let b = mapped_from (λ (b : ReadBox). b.boxed.contents) (box_with r label) c.0 c.1 in
    record { box = b.0; has_box = b.1; digested = ap (hash alg) b.2 ∙ c.2 }

-- an entry whose conditions hold
entry_fact : (hash : Alg → List ℕ → List ℕ) (rs : List Reading) (n : ℕ) (r : Reading) (k : ℕ) (e : Ref)
    → AllHold (entry_tests hash (seen_at rs n r) k e) → EntryFact hash rs n r e
entry_fact hash rs n r k e h = by (entry_label r.manifest e) refl h
  where
    tests : List ℕ → List Test
    tests label =
        labelled_tests hash (seen_at rs n r) (take k (entries_in r)) e label
        (assertion_uri (label_in r) label)

    by : (o : Option (List ℕ)) → entry_label r.manifest e ≡ o
        → AllHold (option_map_or tests o (test true code.ProfileAssertionUri (claim_uri r) ∷ []))
        → EntryFact hash rs n r e
    by None is g = absurd (let bad = g 0 _ refl in cc (bad))
    by (Some label) is g =
        let known = there_too (alg_named (alg_in r e.alg)) (not_false_is_true (is_known r e.alg) (g 2 _ refl)) in
        record {
          label = label;
          is_label = is;
          alg = known.0;
          known = known.1;
          there = λ kept.
              let has : not (box_has_digest hash r e (box_with r label)) ≡ false =
              second_fails (not (is_redacted rs n label)) (not (box_has_digest hash r e (box_with r label)))
              (ap not kept) (g 5 _ refl) in
              box_says hash r e label known.0 known.1
              (not_false_is_true (box_has_digest hash r e (box_with r label)) has);
        }

-- ---- boxes

-- a box that isn't undeclared
box_fact : (r : Reading) (b : ReadBox) → is_undeclared r b.boxed.label ≡ false → BoxFact r b
box_fact r b h =
    let p = from_passes (lists_label r.manifest (entries_in r)) b.boxed.label
    (not_false_is_true (passes_some (lists_label r.manifest (entries_in r)) b.boxed.label) h) in
    let e = from_any (λ (x : Ref). is_given (entry_label r.manifest x) p.0) (entries_in r) p.2 in
    record {
      label = p.0;
      labelled = p.1;
      entry = e.0;
      lists = e.1;
      is_label =
          given_is (entry_label r.manifest e.0) p.0 e.2;
    }

-- ---- redactions

-- a kind that passes the three conditions may be redacted
may_redact : (k : Kind) → is_actions k ≡ false → is_hash k ≡ false → is_any_ingredient k ≡ false
    → is_unredactable k ≡ false
may_redact kinds.DataHash a b c = absurd cc
may_redact kinds.BmffHash a b c = absurd cc
may_redact kinds.OtherHash a b c = absurd cc
may_redact kinds.Ingredient a b c = absurd cc
may_redact kinds.IngredientOther a b c = absurd cc
may_redact kinds.Actions a b c = absurd cc
may_redact kinds.Cloud a b c = refl
may_redact kinds.Ordinary a b c = refl

-- a redaction whose conditions hold
redaction_fact : (own claim text : List ℕ) → AllHold (redaction_tests own claim text) → RedactionFact text
redaction_fact own claim text h manifest label is =
    let t : AllHold (target_tests own claim (Some manifest) (assertion label)) =
    subst (λ o. AllHold (uri_tests own claim o)) is h in
    may_redact (label_kind label) (t 1 _ refl) (t 2 _ refl) (t 3 _ refl)

-- ---- ingredients

-- the signature box of a child has the digest of a reference
by_signature : (hash : Alg → List ℕ → List ℕ) (r child : Reading) (ref : Ref) → is_known r ref.alg ≡ true
    → has_contents hash r ref (signature_contents child) ≡ true → BySignature hash r child ref
by_signature hash r child ref known h =
    let alg = there_too (alg_named (alg_in r ref.alg)) known in
    let c = contents_say hash r ref alg.0 (signature_contents child) alg.1 h in
    let b = mapped_from (λ (x : Superbox). x.contents) child.manifest.signature c.0 c.1 in
    record { alg = alg.0; known = alg.1; box = b.0; has_box = b.1; digested = ap (hash alg.0) b.2 ∙ c.2 }

-- a child by whose standing the conditions hold is bound
binds_by : (hash : Alg → List ℕ → List ℕ) (r child : Reading) (g : Ingredient) (ref : Ref) (uri : List ℕ)
    (sign : Option Ref) (t : Bool)
    → g.manifest ≡ Some ref → AllHold (standing_tests hash r uri ref sign (child_standing t child))
    → Binds hash r child g sign
binds_by hash r child g ref uri (Some sign) true is h =
    by_signature hash r child sign
    (not_false_is_true (is_known r sign.alg)
    (neither_second (not (is_known r ref.alg)) (not (is_known r sign.alg)) (h 0 _ refl)))
    (not_false_is_true (has_contents hash r sign (signature_contents child)) (h 1 _ refl))
binds_by hash r child g ref uri (Some sign) false is h =
    by_signature hash r child sign
    (not_false_is_true (is_known r sign.alg)
    (neither_second (not (is_known r ref.alg)) (not (is_known r sign.alg)) (h 0 _ refl)))
    (not_false_is_true (has_contents hash r sign (signature_contents child)) (h 1 _ refl))
binds_by hash r child g ref uri None true is h = absurd (let bad = h 1 _ refl in cc (bad))
binds_by hash r child g ref uri None false is h =
    let alg =
    there_too (alg_named (alg_in r ref.alg))
    (not_false_is_true (is_known r ref.alg) (neither_first (not (is_known r ref.alg)) false (h 0 _ refl))) in
    record {
      reference = ref;
      is_reference = is;
      alg = alg.0;
      known = alg.1;
      digested =
          digest_says hash (alg_named (alg_in r ref.alg)) alg.0 child.manifest.contents ref.hash alg.1
          (not_false_is_true (has_digest hash r ref.alg child.manifest.contents ref.hash) (h 2 _ refl));
    }

-- the manifest that an ingredient names stands earlier, and is bound
named_fact : (hash : Alg → List ℕ → List ℕ) (rs : List Reading) (n : ℕ) (r : Reading) (g : Ingredient)
    (ref : Ref) (uri form_uri label : List ℕ)
    → g.manifest ≡ Some ref → AllHold (order_tests form_uri (standing_of rs n label))
    → AllHold (standing_tests hash r uri ref g.signature (standing_of rs n label))
    → NamedFact hash rs n r g label
named_fact hash rs n r g ref uri form_uri label is order stands =
    by_place (place_of rs label) refl order stands
  where
    by_child : (m : ℕ) → place_of rs label ≡ Some m → m < n → (o : Option Reading) → slice_get rs m ≡ o
        → AllHold (order_tests form_uri (earlier_standing (is_touched rs m) o))
        → AllHold (standing_tests hash r uri ref g.signature (earlier_standing (is_touched rs m) o))
        → NamedFact hash rs n r g label
    by_child m place lt None at ord st = absurd (let bad = ord 0 _ refl in cc (bad))
    by_child m place lt (Some child) at ord st =
        let p = placed rs label m place in
        record {
          place = m;
          earlier = lt;
          child = child;
          at_place = at;
          labelled = ap label_in (one_value (slice_get rs m) child p.0 at p.1) ∙ p.2;
          binds = binds_by hash r child g ref uri g.signature (is_touched rs m) is st;
        }

    by_order : (m : ℕ) → place_of rs label ≡ Some m → (b : Bool) → ltb m n ≡ b
        → AllHold (order_tests form_uri
        (cond b (earlier_standing (is_touched rs m) (slice_get rs m)) seen.later))
        → AllHold (standing_tests hash r uri ref g.signature
        (cond b (earlier_standing (is_touched rs m) (slice_get rs m)) seen.later))
        → NamedFact hash rs n r g label
    by_order m place true t ord st = by_child m place ((Decides-ltb m n).0 t) (slice_get rs m) refl ord st
    by_order m place false t ord st = absurd (let bad = ord 0 _ refl in cc (bad))

    by_place : (o : Option ℕ) → place_of rs label ≡ o → AllHold (order_tests form_uri (place_standing rs n o))
        → AllHold (standing_tests hash r uri ref g.signature (place_standing rs n o))
        → NamedFact hash rs n r g label
    by_place None place ord st = absurd (let bad = ord 0 _ refl in cc (bad))
    by_place (Some m) place ord st = by_order m place (ltb m n) refl ord st

-- a box with the label of an ingredient whose conditions hold
ingredient_fact : (hash : Alg → List ℕ → List ℕ) (rs : List Reading) (n : ℕ) (r : Reading) (b : ReadBox)
    (uri : List ℕ) (kind : Kind)
    → is_ingredient_kind kind ≡ true → AllHold (ingredient_tests hash (seen_at rs n r) b)
    → AllHold (kind_tests (standing_of rs n) uri b.ingredient kind) → IngredientFact hash rs n r b
ingredient_fact hash rs n r b uri kinds.Ingredient is own forms = by b.ingredient refl forms
  where
    by : (p : Parsed Ingredient) → b.ingredient ≡ p → AllHold (parsed_tests (standing_of rs n) uri p)
        → IngredientFact hash rs n r b
    by NoItem same f = absurd (let bad = f 0 _ refl in cc (bad))
    by NoForm same f = absurd (let bad = f 0 _ refl in cc (bad))
    by (Value g) same f = record {
      ingredient = g;
      is = ap value_in same;
      named = λ label names.
          let ref = from_and_then (λ (x : Ref). manifest_named x.url) g.manifest label names in
          let order : AllHold (order_tests uri (standing_of rs n label)) =
          subst (λ o. AllHold (option_map_or (λ (l : List ℕ). order_tests uri (standing_of rs n l)) o []))
          names f in
          let box_uri : List ℕ = assertion_box_uri r b.boxed.label in
          let child : AllHold (child_tests hash (seen_at rs n r) (assertion_box_uri r b.boxed.label) g) =
          subst (λ o. AllHold (option_map_or
          (child_tests hash (seen_at rs n r) (assertion_box_uri r b.boxed.label)) o []))
          (ap value_in same) own in
          let reference : AllHold
          (reference_tests hash (seen_at rs n r) (assertion_box_uri r b.boxed.label) g.signature ref.0) =
          subst (λ o. AllHold (option_map_or
          (reference_tests hash (seen_at rs n r) (assertion_box_uri r b.boxed.label) g.signature) o []))
          ref.1 child in
          let stands : AllHold
          (standing_tests hash r (assertion_box_uri r b.boxed.label) ref.0 g.signature
          (standing_of rs n label)) =
          subst (λ o. AllHold (option_map_or
          (λ (l : List ℕ). standing_tests hash r (assertion_box_uri r b.boxed.label) ref.0 g.signature
          (standing_of rs n l)) o [])) ref.2 reference in
          named_fact hash rs n r g ref.0 (assertion_box_uri r b.boxed.label) uri label ref.1 order stands;
    }
ingredient_fact hash rs n r b uri kinds.DataHash is own forms = absurd cc
ingredient_fact hash rs n r b uri kinds.BmffHash is own forms = absurd cc
ingredient_fact hash rs n r b uri kinds.OtherHash is own forms = absurd cc
ingredient_fact hash rs n r b uri kinds.IngredientOther is own forms = absurd cc
ingredient_fact hash rs n r b uri kinds.Actions is own forms = absurd cc
ingredient_fact hash rs n r b uri kinds.Cloud is own forms = absurd cc
ingredient_fact hash rs n r b uri kinds.Ordinary is own forms = absurd cc

-- ---- a reached manifest

-- The lists of which the rules after the verdict are made all hold.
pub record RestHolds (hash : Alg → List ℕ → List ℕ) (s : Seen) : Type 0 where
  pub children : AllHold (each (λ k b. ingredient_tests hash s b) 0 s.own.boxes)
  pub entries : AllHold (each (entry_tests hash s) 0 (entries_in s.own))
  pub boxes : AllHold (over_all (λ k b. box_test s.own b) 0 s.own.boxes)
  pub redactions : AllHold
      (each (λ k text. redaction_tests (label_in s.own) (claim_uri s.own) text) 0 (redactions_in s.own))
  pub bindings : AllHold (binding_tests s)
  pub forms : AllHold (each (λ k b. form_tests s b) 0 s.own.boxes)

-- one after the other
rest_holds : (hash : Alg → List ℕ → List ℕ) (s : Seen) → AllHold (rest_tests hash s) → RestHolds hash s
rest_holds hash s h =
    let a : List Test = each (λ k b. ingredient_tests hash s b) 0 s.own.boxes in
    let b : List Test = each (entry_tests hash s) 0 (entries_in s.own) in
    let c : List Test = over_all (λ k b. box_test s.own b) 0 s.own.boxes in
    let d : List Test =
    each (λ k text. redaction_tests (label_in s.own) (claim_uri s.own) text) 0 (redactions_in s.own) in
    let e : List Test = binding_tests s in
    let f : List Test = each (λ k b. form_tests s b) 0 s.own.boxes in
    let g1 = hold_back a (b ++ (c ++ (d ++ (e ++ f)))) h in
    let g2 = hold_back b (c ++ (d ++ (e ++ f))) g1 in
    let g3 = hold_back c (d ++ (e ++ f)) g2 in
    let g4 = hold_back d (e ++ f) g3 in
    record {
      children = hold_front a (b ++ (c ++ (d ++ (e ++ f)))) h;
      entries = hold_front b (c ++ (d ++ (e ++ f))) g1;
      boxes = hold_front c (d ++ (e ++ f)) g2;
      redactions = hold_front d (e ++ f) g3;
      bindings = hold_front e f g4;
      forms = hold_back e f g4;
    }

-- the conditions of a reached manifest hold where those of the whole chain do
pub manifest_holds : (hash : Alg → List ℕ → List ℕ) (said : Question → Verdict) (rs : List Reading) (n : ℕ)
    (r : Reading)
    → slice_get rs n ≡ Some r → is_reached rs n ≡ true → AllHold (chain_tests (judged_tests hash said) rs)
    → AllHold (manifest_tests hash (option_map said (question_in r)) (seen_at rs n r))
manifest_holds hash said rs n r at reached h =
    subst (λ o. AllHold (tests_of (judged_tests hash said) rs n o)) at
    (subst (λ b. AllHold (cond b (tests_of (judged_tests hash said) rs n (slice_get rs n)) [])) reached
    (hold_place (place_tests (judged_tests hash said) rs) (length rs) n h (slice_get_within rs n r at)))

-- the rules after the verdict hold of a manifest where all of its rules do
pub rest_of : (hash : Alg → List ℕ → List ℕ) (said : Question → Verdict) (rs : List Reading) (n : ℕ)
    (r : Reading)
    → AllHold (manifest_tests hash (option_map said (question_in r)) (seen_at rs n r))
    → RestHolds hash (seen_at rs n r)
rest_of hash said rs n r h =
    let verdicts : List Test = verdict_tests r (option_map said (question_in r)) in
    rest_holds hash (seen_at rs n r)
    (hold_back verdicts (rest_tests hash (seen_at rs n r))
    (hold_back (claim_tests r) (verdicts ++ rest_tests hash (seen_at rs n r)) h))

-- what the rules of a reached manifest say
pub manifest_facts : (hash : Alg → List ℕ → List ℕ) (said : Question → Verdict) (rs : List Reading) (n : ℕ)
    (r : Reading)
    → IsReading r.manifest r
    → AllHold (manifest_tests hash (option_map said (question_in r)) (seen_at rs n r))
    → ManifestFacts hash said rs n r
manifest_facts hash said rs n r reading h =
    let behind =
    hold_back (claim_tests r)
    (verdict_tests r (option_map said (question_in r)) ++ rest_tests hash (seen_at rs n r)) h in
    let rest = rest_of hash said rs n r h in
    record {
      approved =
          is_approved said r reading
          (hold_front (claim_tests r)
          (verdict_tests r (option_map said (question_in r)) ++ rest_tests hash (seen_at rs n r)) h)
          (hold_front (verdict_tests r (option_map said (question_in r))) (rest_tests hash (seen_at rs n r))
          behind);
      entries = λ e c.
          let one = hold_each (entry_tests hash (seen_at rs n r)) 0 (entries_in r) rest.entries e c in
          entry_fact hash rs n r one.0 e one.1;
      boxes = λ b c.
          let one = hold_over (λ k x. box_test r x) 0 r.boxes rest.boxes b c in
          box_fact r b one.1;
      redactions = λ text c.
          let one =
          hold_each (λ k x. redaction_tests (label_in r) (claim_uri r) x) 0 (redactions_in r)
          rest.redactions text c in
          redaction_fact (label_in r) (claim_uri r) text one.1;
      ingredients = λ b c label labelled kind.
          let own = hold_each (λ k x. ingredient_tests hash (seen_at rs n r) x) 0 r.boxes rest.children b c in
          let form = hold_each (λ k x. form_tests (seen_at rs n r) x) 0 r.boxes rest.forms b c in
          let forms : AllHold (kind_tests (standing_of rs n) (assertion_uri (label_in r) label) b.ingredient
          (label_kind label)) =
          subst (λ o. AllHold (option_map_or
          (λ (l : List ℕ). kind_tests (standing_of rs n) (assertion_uri (label_in r) l) b.ingredient
          (label_kind l)) o [])) labelled form.1 in
          ingredient_fact hash rs n r b (assertion_uri (label_in r) label) (label_kind label) kind own.1
          forms;
    }

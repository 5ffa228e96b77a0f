-- What is read of a store is one.
use Rattle.std.proofs.Common.{◌≡◌, ℕ, Bool, true, false, List, Option, Some, None, Result, Ok, IsErr, MatchBool, is_err, refl, sym, ap, ap₂, ◌∙◌, subst}
use Rattle.c2_base.specs.declared.values.Question.{Question}
use Rattle.c2_spec.specs.C2pa.Assertion.{ingredient_of}
use Rattle.c2_spec.specs.Cbor.Item.{Item}
use Rattle.c2_spec.specs.C2pa.Claim.{claim_of}
use Rattle.c2_spec.specs.C2pa.Manifest.{Manifest, Superbox, claim_bytes, claim_version_of, manifests_of}
use Rattle.c2_spec.specs.C2pa.Sign1.{SignParts}
use Rattle.c2_spec.specs.Jumbf.Tree.{Tree}
use Rattle.c2_spec.specs.Located.{Opening, refused, absent, here}
use Rattle.c2_spec.specs.declared.assertion.Ingredient.{Ingredient}
use Rattle.c2_spec.specs.declared.claim.Claim.{Claim}
use Rattle.c2_rules.specs.Binding.{Binding, Media, IsItemOf, IsLabelledBinding, binding_label, binding_payload}
use Rattle.c2_spec.specs.declared.assertion.FieldError.{FieldError}
use Rattle.c2_rules.specs.CheckList.{StoreReading, IsStoreReading, HasBindingOf, active_in}
use Rattle.c2_rules.specs.Ingredients.{is_ingredient, box_version}
use Rattle.c2_rules.specs.Readings.{IsParsed, IsMessageOf, ReadBox, IsReadBox, Reading, IsReading, AreReadings, signature_item}
use Rattle.c2_rules.specs.Validated.{OpenedAsks}
use Rattle.c2_rules.specs.declared.parsed.Parsed.{Parsed}
use Rattle.c2_rules.specs.declared.parsed.Parsed.TheVariants.{NoItem, NoForm, Value}
use Rattle.c2_spec.proofs.OneMessage.{same_message}
use Rattle.c2_cbor_spec.proofs.PlainBack.{one_item, same_item}
use Rattle.c2_lemmas.proofs.Each.{one_list}
use Rattle.c2_rules.proofs.OneAnswer.{one_labelled}

-- ---- an item

-- a payload has one item, or none
pub one_item_of : (o : Option (List ℕ)) (a b : Option Item) → IsItemOf o a → IsItemOf o b → a ≡ b
one_item_of None None None p q = refl
one_item_of None None (Some w) p q = absurd q
one_item_of None (Some v) b p q = absurd p
one_item_of (Some s) None None p q = refl
one_item_of (Some s) None (Some w) p q = absurd (p w q)
one_item_of (Some s) (Some v) None p q = absurd (q v p)
one_item_of (Some s) (Some v) (Some w) p q = ap Some (same_item s v w p q)

-- ---- a value

-- a refusal is no value
err_or_ok : {A E : Type 0} (r : Result A E) (x : A) → IsErr r → r ≡ Ok x → ⊥
err_or_ok r x wrong right = let both = sym (ap is_err right) ∙ wrong in absurd cc

-- a payload is read as one thing
pub one_parsed : {A E : Type 0} → (read : Item → Result A E) (o : Option (List ℕ)) (a b : Parsed A) → IsParsed read o a
    → IsParsed read o b → a ≡ b
one_parsed read None NoItem NoItem p q = refl
one_parsed read None NoItem NoForm p q = absurd q
one_parsed read None NoItem (Value y) p q = absurd q
one_parsed read None NoForm b p q = absurd p
one_parsed read None (Value x) b p q = absurd p
one_parsed read (Some s) NoItem NoItem p q = refl
one_parsed read (Some s) NoItem NoForm p q = absurd (p q.0 q.1)
one_parsed read (Some s) NoItem (Value y) p q = absurd (p q.0 q.1)
one_parsed read (Some s) NoForm NoItem p q = absurd (q p.0 p.1)
one_parsed read (Some s) NoForm NoForm p q = refl
one_parsed read (Some s) NoForm (Value y) p q =
    absurd (err_or_ok (read p.0) y p.2 (ap read (same_item s p.0 q.0 p.1 q.1) ∙ q.2))
one_parsed read (Some s) (Value x) NoItem p q = absurd (q p.0 p.1)
one_parsed read (Some s) (Value x) NoForm p q =
    absurd (err_or_ok (read q.0) x q.2 (ap read (same_item s q.0 p.0 q.1 p.1) ∙ p.2))
one_parsed {A} {E} read (Some s) (Value x) (Value y) p q =
    let same : ◌≡◌ {A = Result A E} (Ok x) (Ok y) = sym p.2 ∙ ap read (same_item s p.0 q.0 p.1 q.1) ∙ q.2 in
    let one : x ≡ y = cc (same) in
    ap Value one

-- ---- a message

-- a payload is one message, or none
pub one_message_of : (o : Option (List ℕ)) (a b : Option SignParts) → IsMessageOf o a → IsMessageOf o b → a ≡ b
one_message_of None None None p q = refl
one_message_of None None (Some y) p q = absurd q
one_message_of None (Some x) b p q = absurd p
one_message_of (Some s) None None p q = refl
one_message_of (Some s) None (Some y) p q = absurd (p y q)
one_message_of (Some s) (Some x) None p q = absurd (q x p)
one_message_of (Some s) (Some x) (Some y) p q = ap Some (same_message one_item s x y p q)

-- ---- boxes and manifests

-- a box is read as one ingredient, or not at all
same_ingredient : (b : Superbox) (is : Bool) (p q : Parsed Ingredient)
    → MatchBool is (IsParsed (ingredient_of (box_version b)) b.item p) (p ≡ NoItem)
    → MatchBool is (IsParsed (ingredient_of (box_version b)) b.item q) (q ≡ NoItem) → p ≡ q
same_ingredient b true p q h k = one_parsed (ingredient_of (box_version b)) b.item p q h k
same_ingredient b false p q h k = h ∙ sym k

-- a box is read as one thing
pub one_box : (b : Superbox) (r s : ReadBox) → IsReadBox b r → IsReadBox b s → r ≡ s
one_box b r s p q =
    ap₂ (λ (x : Superbox) (y : Parsed Ingredient). record { boxed = x; ingredient = y }) (p.same ∙ sym q.same)
    (same_ingredient b (is_ingredient b) r.ingredient s.ingredient p.reads q.reads)

-- a reading of these parts, written short
abbrev reading : Manifest → Parsed Claim → Option SignParts → List ReadBox → Reading
reading m claim message boxes = record { manifest = m; claim = claim; message = message; boxes = boxes }

-- a manifest is read as one thing
pub one_reading : (m : Manifest) (r s : Reading) → IsReading m r → IsReading m s → r ≡ s
one_reading m r s p q =
    ap (λ (x : Manifest). reading x r.claim r.message r.boxes) (p.same ∙ sym q.same)
    ∙ ap (λ (x : Parsed Claim). reading s.manifest x r.message r.boxes)
    (one_parsed (claim_of (claim_version_of m.claims)) (claim_bytes m.claims) r.claim s.claim p.claim q.claim)
    ∙ ap (λ (x : Option SignParts). reading s.manifest s.claim x r.boxes)
    (one_message_of (signature_item m) r.message s.message p.message q.message)
    ∙ ap (λ (x : List ReadBox). reading s.manifest s.claim s.message x)
    (one_list IsReadBox one_box m.assertions r.boxes s.boxes p.boxes q.boxes)

-- manifests are read as one list
pub one_list_of_readings : (ms : List Manifest) (rs ss : List Reading) → AreReadings ms rs → AreReadings ms ss → rs ≡ ss
one_list_of_readings ms rs ss p q = one_list IsReading one_reading ms rs ss p q

-- ---- the binding

-- an active manifest has one binding
pub one_bound : (m : Media) (o : Option Reading) (a b : Option (Result Binding FieldError)) → HasBindingOf m o a
    → HasBindingOf m o b → a ≡ b
one_bound m None a b p q = p ∙ sym q
one_bound m (Some r) a b p q =
    let item : q.item ≡ p.item = one_item_of (binding_payload r) q.item p.item q.is_item p.is_item in
    one_labelled m (binding_label r) p.item a b p.is (subst (λ v. IsLabelledBinding m (binding_label r) v b) item q.is)

-- a store is read as one thing
pub one_store : (m : Media) (ms : List Manifest) (s t : StoreReading) → IsStoreReading m ms s → IsStoreReading m ms t
    → s ≡ t
one_store m ms s t p q =
    let each : s.readings ≡ t.readings = one_list_of_readings ms s.readings t.readings p.each q.each in
    let bound : HasBindingOf m (active_in t.readings) s.binding =
    subst (λ (rs : List Reading). HasBindingOf m (active_in rs) s.binding) each p.binding in
    ap₂ (λ (rs : List Reading) (v : Option (Result Binding FieldError)). record { readings = rs; binding = v }) each
    (one_bound m (active_in t.readings) s.binding t.binding bound q.binding)

-- ---- questions

-- what is asked over one opening is one list
pub one_opened_asks : (asks : List Reading → List Question) (o : Opening Tree) (ps qs : List Question)
    → OpenedAsks asks o ps → OpenedAsks asks o qs → ps ≡ qs
one_opened_asks asks (refused reason number) ps qs p q = p ∙ sym q
one_opened_asks asks absent ps qs p q = p ∙ sym q
one_opened_asks asks (here start len t) ps qs p q =
    p.2 ∙ ap asks (one_list_of_readings (manifests_of t) p.0 q.0 p.1 q.1) ∙ sym q.2

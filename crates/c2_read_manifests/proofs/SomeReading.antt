-- What a program can hold is read as something.
use Rattle.std.proofs.Common.{◌≡◌, ◌⊎◌, inl, inr, ℕ, Bool, true, false, List, [], ◌∷◌, Option, Some, None, Result, Ok, Err, IfSome, MatchBool, is_err, refl, ap}
use Rattle.std.specs.List.{AllByRecursion, AllZip}
use Rattle.c2_spec.specs.C2pa.Assertion.{ingredient_of}
use Rattle.c2_spec.specs.Cbor.Item.{Item}
use Rattle.c2_spec.specs.C2pa.Claim.{claim_of}
use Rattle.c2_spec.specs.Cbor.Fields.{HasItem, IsUnread}
use Rattle.c2_spec.specs.C2pa.Manifest.{Manifest, Superbox, claim_bytes, claim_version_of}
use Rattle.c2_spec.specs.C2pa.Sign1.{SignParts, SpellsMessage}
use Rattle.c2_spec.specs.declared.assertion.Ingredient.{Ingredient}
use Rattle.c2_spec.specs.declared.cbor.CborError.{CborError}
use Rattle.c2_rules.specs.Binding.{IsItemOf}
use Rattle.c2_rules.specs.Ingredients.{is_ingredient, box_version}
use Rattle.c2_rules.specs.Readings.{IsParsed, IsMessageOf, ReadBox, IsReadBox, Reading, IsReading, AreReadings, signature_item}
use Rattle.c2_rules.specs.declared.parsed.Parsed.{Parsed}
use Rattle.c2_rules.specs.declared.parsed.Parsed.TheVariants.{NoItem, NoForm, Value}
use Rattle.c2_read_manifests.specs.Existing.{IsHeld}
use Rattle.c2_read_manifests.proofs.TakenLaws.{item_laws}
use Rattle.c2_read_manifests.proofs.Messages.{message_bytes}
use Rattle.c2_read_manifests.specs.Held.{IsHeldManifest}

-- ---- payloads

-- a payload has an item or none
pub item_or : (o : Option (List ℕ)) → IfSome o IsHeld → (v : Option Item) × IsItemOf o v
item_or None held = (None, tt)
item_or (Some s) held = by (item_laws.each_list s held)
  where
    by : ((v : Item) × HasItem s v) ⊎ ((e : CborError) × IsUnread s e) → (v : Option Item) × IsItemOf (Some s) v
    by (inl (v, has)) = (Some v, has)
    by (inr (e, unread)) = (None, λ v has. item_laws.never_both s held v e has unread)

-- an item is read as a value or has another form
by_read : {A E : Type 0} (read : Item → Result A E) (s : List ℕ) (v : Item) (r : Result A E) → HasItem s v → read v ≡ r
    → (p : Parsed A) × IsParsed read (Some s) p
by_read read s v (Ok x) has is = (Value x, (v, has, is))
by_read read s v (Err e) has is = (NoForm, (v, has, ap is_err is))

-- a payload is read as something
pub parsed_or : {A E : Type 0} → (read : Item → Result A E) (o : Option (List ℕ)) → IfSome o IsHeld
    → (p : Parsed A) × IsParsed read o p
parsed_or read None held = (NoItem, tt)
parsed_or {A} {E} read (Some s) held = by (item_laws.each_list s held)
  where
    by : ((v : Item) × HasItem s v) ⊎ ((e : CborError) × IsUnread s e) → (p : Parsed A) × IsParsed read (Some s) p
    by (inl (v, has)) = by_read read s v (read v) has refl
    by (inr (e, unread)) = (NoItem, λ v has. item_laws.never_both s held v e has unread)

-- a payload is a message or none
pub message_or : (o : Option (List ℕ)) → IfSome o IsHeld → (p : Option SignParts) × IsMessageOf o p
message_or None held = (None, tt)
message_or (Some s) held = by (message_bytes s held)
  where
    by : ((p : SignParts) × SpellsMessage s p) ⊎ ((p : SignParts) → SpellsMessage s p → ⊥)
        → (p : Option SignParts) × IsMessageOf (Some s) p
    by (inl (p, h)) = (Some p, h)
    by (inr none) = (None, none)

-- ---- boxes and manifests

-- a box is read as an ingredient, or not at all
ingredient_or : (b : Superbox) (is : Bool) → IfSome b.item IsHeld
    → (p : Parsed Ingredient) × MatchBool is (IsParsed (ingredient_of (box_version b)) b.item p) (p ≡ NoItem)
ingredient_or b true held = parsed_or (ingredient_of (box_version b)) b.item held
ingredient_or b false held = (NoItem, refl)

-- a box is read as something
box_or : (b : Superbox) → IfSome b.item IsHeld → (r : ReadBox) × IsReadBox b r
box_or b held = let p = ingredient_or b (is_ingredient b) held in (record { boxed = b; ingredient = p.0 }, record { same = refl; reads = p.1 })

-- boxes are read as something
boxes_or : (bs : List Superbox) → AllByRecursion (λ (b : Superbox). IfSome b.item IsHeld) bs
    → (rs : List ReadBox) × AllZip IsReadBox bs rs
boxes_or [] held = ([], tt)
boxes_or (b ∷ bs) held = let first = box_or b held.0 in let rest = boxes_or bs held.1 in (first.0 ∷ rest.0, (first.1, rest.1))

-- a manifest is read as something
pub reading_or : (m : Manifest) → IsHeldManifest m → (r : Reading) × IsReading m r
reading_or m held =
    let claim = parsed_or (claim_of (claim_version_of m.claims)) (claim_bytes m.claims) held.claim in
    let message = message_or (signature_item m) held.signature in
    let boxes = boxes_or m.assertions held.assertions in
    (record { manifest = m; claim = claim.0; message = message.0; boxes = boxes.0 }, record { same = refl; claim = claim.1; message = message.1; boxes = boxes.1 })

-- manifests are read as something
pub readings_or : (ms : List Manifest) → AllByRecursion IsHeldManifest ms → (rs : List Reading) × AreReadings ms rs
readings_or [] held = ([], tt)
readings_or (m ∷ ms) held = let first = reading_or m held.0 in let rest = readings_or ms held.1 in (first.0 ∷ rest.0, (first.1, rest.1))

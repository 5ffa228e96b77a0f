-- What readers answer is what payloads are read as.
use Rattle.std.proofs.Common.{◌≡◌, ◌≢◌, ◌⊎◌, inl, inr, ℕ, ◌+◌, ◌<◌, ◌≤◌, Bool, true, false, List, [], ◌∷◌, ◌++◌, length, take, get_or, map, Option, Some, None, Result, Ok, Err, IfOk, MatchBool, is_err, refl, sym, ap, ◌∙◌, subst}
use Rattle.std.specs.List.{AllZip}
use Rattle.std.proofs.lemmas.List.{take_more, take_all, map_push}
use Rattle.c2_spec.specs.C2pa.Assertion.{ingredient_of}
use Rattle.c2_spec.specs.Cbor.Item.{Item}
use Rattle.c2_spec.specs.C2pa.Claim.{claim_of, IsClaimRead, Agrees}
use Rattle.c2_spec.specs.Cbor.Fields.{HasItem, IsAnswer}
use Rattle.c2_spec.specs.C2pa.Manifest.{Superbox}
use Rattle.c2_spec.specs.declared.sign1.SignError.{SignError}
use Rattle.c2_spec.specs.declared.sign1.SignError.TheVariants as sign
use Rattle.c2_rules.specs.Ingredients.{is_ingredient, box_version}
use Rattle.c2_spec.specs.declared.assertion.FieldError.{FieldError}
use Rattle.c2_spec.specs.declared.assertion.FieldError.TheVariants as field
use Rattle.c2_spec.specs.declared.assertion.Ingredient.{Ingredient}
use Rattle.c2_spec.specs.declared.assertion.IngredientVersion.{IngredientVersion}
use Rattle.c2_spec.specs.declared.claim.Claim.{Claim}
use Rattle.c2_spec.specs.declared.claim.ClaimVersion.{ClaimVersion}
use Rattle.c2_spec.specs.declared.claim.ClaimError.{ClaimError}
use Rattle.c2_spec.specs.declared.claim.ClaimError.TheVariants as claim
use Rattle.c2_rules.specs.Readings.{IsParsed, IsReadBox}
use Rattle.c2_rules.specs.declared.parsed.Parsed.{Parsed}
use Rattle.c2_rules.specs.declared.parsed.Parsed.TheVariants.{NoItem, NoForm, Value}
use Rattle.std.proofs.lemmas.Option.{same_Some}
use Rattle.c2_read_manifests.specs.Parsing.{claim_parsed, ingredient_parsed}

-- unless memory ran out, the reader's answer for claim bytes says what they are read as: a claim, no form, or no item
pub claim_is : (version : ClaimVersion) (s : List ℕ) (r : Result Claim ClaimError) (p : Parsed Claim)
    → IsClaimRead version s r → ((v : Item) → HasItem s v → Agrees (claim_of version v) r) → claim_parsed r ≡ Some p
    → IsParsed (claim_of version) (Some s) p
claim_is version s (Ok c) p h only e =
    subst (IsParsed (claim_of version) (Some s)) (same_Some (Value c) p e) (h.item, h.has, h.is)
claim_is version s (Err (claim.Cbor f)) p h only e =
    subst (IsParsed (claim_of version) (Some s)) (same_Some NoItem p e) only
claim_is version s (Err (claim.Fields f)) p h only e =
    subst (IsParsed (claim_of version) (Some s)) (same_Some NoForm p e) (h.item, h.has, ap is_err h.is)
claim_is version s (Err claim.NoMemory) p h only e = absurd cc

-- an item that is refused as an ingredient, and not for want of memory, is read as an item without the form
refused_form : (version : IngredientVersion) (s : List ℕ) (v : Item) (f : FieldError) (p : Parsed Ingredient)
    → HasItem s v → f ≢ field.NoMemory → IsAnswer field.NoMemory (ingredient_of version v) (Err f)
    → Some NoForm ≡ Some p → IsParsed (ingredient_of version) (Some s) p
refused_form version s v f p has other (inl memory) e = absurd (other memory)
refused_form version s v f p has other (inr is) e =
    subst (IsParsed (ingredient_of version) (Some s)) (same_Some NoForm p e) (v, has, ap is_err is)

-- unless memory ran out, the reader's answer for an item says what its bytes are read as: an ingredient, or no form
pub ingredient_is :
    (version : IngredientVersion) (s : List ℕ) (v : Item) (r : Result Ingredient FieldError) (p : Parsed Ingredient)
    → HasItem s v → IsAnswer field.NoMemory (ingredient_of version v) r → ingredient_parsed r ≡ Some p
    → IsParsed (ingredient_of version) (Some s) p
ingredient_is version s v (Ok g) p has h e =
    subst (IsParsed (ingredient_of version) (Some s)) (same_Some (Value g) p e) (v, has, h)
ingredient_is version s v (Err field.NoMemory) p has h e = absurd cc
ingredient_is version s v (Err field.Merkle) p has h e = refused_form version s v field.Merkle p has (λ x. cc (x)) h e
ingredient_is version s v (Err field.Form) p has h e = refused_form version s v field.Form p has (λ x. cc (x)) h e
ingredient_is version s v (Err (field.TooMany n)) p has h e =
    refused_form version s v (field.TooMany n) p has (λ x. cc (x)) h e
ingredient_is version s v (Err field.Test) p has h e = refused_form version s v field.Test p has (λ x. cc (x)) h e
ingredient_is version s v (Err field.Path) p has h e = refused_form version s v field.Path p has (λ x. cc (x)) h e

-- an error of the form, where either memory ran out or a fact holds with it, has that fact
pub no_message : (e : SignError) (P : Type 0) → e ≡ sign.Form → (e ≡ sign.NoMemory) ⊎ ((e ≡ sign.Form) × P) → P
no_message e P is (inl memory) = absurd (let wrong = sym is ∙ memory in cc (wrong))
no_message e P is (inr (same, h)) = h

-- ---- boxes, one after the other

-- two lists that correspond still do with one pair more at their ends
zip_append : {A B : Type 0} (R : A → B → Type 0) (xs : List A) (ys : List B) (x : A) (y : B) → AllZip R xs ys → R x y
    → AllZip R (xs ++ x ∷ []) (ys ++ y ∷ [])
zip_append R [] [] x y h k = (k, tt)
zip_append R [] (z ∷ ys) x y h k = absurd h
zip_append R (w ∷ xs) [] x y h k = absurd h
zip_append R (w ∷ xs) (z ∷ ys) x y h k = (h.0, zip_append R xs ys x y h.1 k)

-- if things found correspond to the first `k` members of a list, then with one more to the first `k + 1`
pub zip_more :
    {A B C : Type 0} (R : B → C → Type 0) (f : A → B) (xs : List A) (k : ℕ) (d : A) (old new : List C) (y : C)
    → k < length xs → AllZip R (map f (take k xs)) old → new ≡ old ++ y ∷ [] → R (f (get_or xs k d)) y
    → AllZip R (map f (take (k + 1) xs)) new
zip_more {A} {B} {C} R f xs k d old new y lt so_far is one =
    let step : map f (take (k + 1) xs) ≡ map f (take k xs) ++ f (get_or xs k d) ∷ [] =
    ap (map f) (take_more xs k d lt) ∙ map_push f (take k xs) (get_or xs k d) in
    subst (λ (bs : List B). AllZip R bs new) (sym step)
    (subst (λ (cs : List C). AllZip R (map f (take k xs) ++ f (get_or xs k d) ∷ []) cs) (sym is) (zip_append R (map f (take k xs)) old (f (get_or xs k d)) y so_far one))

-- things found that correspond to the first `k` members of a list that has no more correspond to the whole list
pub zip_all : {A B C : Type 0} (R : B → C → Type 0) (f : A → B) (xs : List A) (k : ℕ) (old : List C) → length xs ≤ k
    → AllZip R (map f (take k xs)) old → AllZip R (map f xs) old
zip_all {A} {B} {C} R f xs k old le so_far = subst (λ (zs : List A). AllZip R (map f zs) old) (take_all k xs le) so_far

-- a box of an ingredient, and another
pub reads_here : (b : Superbox) (is : Bool) (bytes : List ℕ) (p : Parsed Ingredient) → is ≡ is_ingredient b → is ≡ true
    → b.item ≡ Some bytes → IsParsed (ingredient_of (box_version b)) (Some bytes) p
    → IsReadBox b (record { boxed = b; ingredient = p })
reads_here b is bytes p same wanted at h =
    record
    { same = refl; reads = subst (λ (t : Bool). MatchBool t (IsParsed (ingredient_of (box_version b)) b.item p) (p ≡ NoItem)) (sym wanted ∙ same) (subst (λ (o : Option (List ℕ)). IsParsed (ingredient_of (box_version b)) o p) (sym at) h) }

-- a box of an ingredient without a payload is read as no item
pub reads_nothing : (b : Superbox) (is : Bool) → is ≡ is_ingredient b → is ≡ true → b.item ≡ None
    → IsReadBox b (record { boxed = b; ingredient = NoItem })
reads_nothing b is same wanted at =
    let read = IsParsed (ingredient_of (box_version b)) in
    record {
      same = refl;
      reads = subst (λ (t : Bool). MatchBool t (read b.item NoItem) (◌≡◌ {A = Parsed Ingredient} NoItem NoItem))
          (sym wanted ∙ same) (subst (λ (o : Option (List ℕ)). read o NoItem) (sym at) tt);
    }

-- a box of another kind is read as no item
pub reads_other : (b : Superbox) (is : Bool) → is ≡ is_ingredient b → is ≡ false
    → IsReadBox b (record { boxed = b; ingredient = NoItem })
reads_other b is same no_ingredient =
    record
    { same = refl; reads = subst (λ (t : Bool). MatchBool t (IsParsed (ingredient_of (box_version b)) b.item NoItem) (◌≡◌ {A = Parsed Ingredient} NoItem NoItem)) (sym no_ingredient ∙ same) refl }

-- unless memory ran out, a box of an ingredient is read as its payload is
pub reads_here_ok : {E : Type 0} (b : Superbox) (is : Bool) (bytes : List ℕ) (r : Result (Parsed Ingredient) E)
    → is ≡ is_ingredient b → is ≡ true → b.item ≡ Some bytes
    → IfOk r (λ p. IsParsed (ingredient_of (box_version b)) (Some bytes) p)
    → IfOk r (λ p. IsReadBox b (record { boxed = b; ingredient = p }))
reads_here_ok b is bytes (Ok p) same wanted at h = reads_here b is bytes p same wanted at h
reads_here_ok b is bytes (Err e) same wanted at h = tt

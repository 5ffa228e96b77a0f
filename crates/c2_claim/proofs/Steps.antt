-- A claim, some fields at a time.
use Rattle.std.proofs.Common.{◌≡◌, ℕ, Bool, true, false, List, [], Option, Some, None, Result, Ok, Err, is_some, codes, refl, sym, ap, subst, ◌∙◌}
use Rattle.c2_spec.specs.Cbor.Item.{Item}
use Rattle.c2_spec.specs.Cbor.Lookup.{field_of, ref_of}
use Rattle.c2_spec.specs.Cbor.Fields.{is_map, text_of, optional_text, list_of, optional_list}
use Rattle.c2_spec.specs.C2pa.Claim.{Agrees}
use Rattle.c2_spec.specs.declared.cbor.Ref.{Ref}
use Rattle.c2_spec.specs.declared.claim.Claim.{Claim}
use Rattle.c2_spec.specs.declared.claim.ClaimError.{ClaimError}
use Rattle.c2_spec.specs.declared.claim.ClaimError.TheVariants.{Cbor, Fields, NoMemory}
use Rattle.c2_spec.specs.declared.claim.ClaimField.{ClaimField}
use Rattle.c2_spec.specs.declared.claim.ClaimField.TheVariants.{Alg, Assertions, Created, Gathered, InstanceId, Redacted, Signature}
use Rattle.c2_spec.specs.declared.claim.ClaimVersion.TheVariants.{V1, V2}
use Rattle.c2_spec.proofs.ClaimVersions.{v1_claim_by, v2_claim_by}
use Rattle.c2_claim.specs.Apart.{AgreesOn, both_of, last_fields, unless, v1_claim_apart, v1_own, v2_claim_apart, v2_lists, v2_names, wanted}

-- what follows from values that are there
abbrev then_of : {A B : Type 0} → Result A ClaimField → (A → Result B ClaimField) → Result B ClaimField
then_of (Err f) more = Err f
then_of (Ok x) more = more x

-- where some fields are refused, the claim is
refused : {A : Type 0} (part : Result A ClaimField) (more : A → Result Claim ClaimField) (e : ClaimError)
    → AgreesOn part (Err e) → Agrees (then_of part more) (Err e)
refused part more (Cbor e) h = absurd h
refused part more (Fields f) h = ap (λ p. then_of p more) h
refused part more NoMemory h = tt

-- ---- version 2

-- the claim of these values
abbrev v2_of : List ℕ × List ℕ → List Ref × List Ref → List (List ℕ) × Option (List ℕ) → Claim
v2_of names lists others = record {
  version = V2;
  signature = names.1;
  instance = Some names.0;
  alg = others.1;
  created = lists.0;
  gathered = lists.1;
  redacted = others.0;
}

-- from its lists on
abbrev v2_listed : Item → Option (List (List ℕ)) → List ℕ × List ℕ → Result Claim ClaimField
v2_listed v redacted names =
    then_of (v2_lists v) (λ lists. then_of (last_fields Assertions (codes "assertions") v redacted) (λ others. Ok (v2_of names lists others)))

-- field by field it is the same
v2_same : (i s : Option (List ℕ)) (c g : Option (List Ref)) (r : Option (List (List ℕ))) (a : Option (Option (List ℕ))) (o : Bool)
    → v2_claim_by true i s c g r a o
    ≡ then_of (both_of (wanted InstanceId i) (wanted Signature s)) (λ names. then_of (both_of (wanted Created c) (wanted Gathered g))
    (λ lists. then_of (unless Assertions o (both_of (wanted Redacted r) (wanted Alg a))) (λ others. Ok (v2_of names lists others))))
v2_same None s c g r a o = refl
v2_same (Some i) None c g r a o = refl
v2_same (Some i) (Some s) None g r a o = refl
v2_same (Some i) (Some s) (Some c) None r a o = refl
v2_same (Some i) (Some s) (Some c) (Some g) None a o = refl
v2_same (Some i) (Some s) (Some c) (Some g) (Some r) None o = refl
v2_same (Some i) (Some s) (Some c) (Some g) (Some r) (Some a) true = refl
v2_same (Some i) (Some s) (Some c) (Some g) (Some r) (Some a) false = refl

-- the claim of an item that is a map
v2_steps : (v : Item) (redacted : Option (List (List ℕ))) → is_map v ≡ true
    → v2_claim_apart v redacted ≡ then_of (v2_names v) (v2_listed v redacted)
v2_steps v redacted map =
    let i : Option (List ℕ) = text_of (field_of (codes "instanceID") v) in
    let s : Option (List ℕ) = text_of (field_of (codes "signature") v) in
    let c : Option (List Ref) = list_of ref_of (field_of (codes "created_assertions") v) in
    let g : Option (List Ref) = optional_list ref_of (field_of (codes "gathered_assertions") v) in
    let a : Option (Option (List ℕ)) = optional_text (field_of (codes "alg") v) in
    let o : Bool = is_some (field_of (codes "assertions") v) in
    ap (λ m. v2_claim_by m i s c g redacted a o) map ∙ v2_same i s c g redacted a o

-- its names are refused
pub v2_names_refused : (v : Item) (redacted : Option (List (List ℕ))) (e : ClaimError) → is_map v ≡ true
    → AgreesOn (v2_names v) (Err e) → Agrees (v2_claim_apart v redacted) (Err e)
v2_names_refused v redacted e map h =
    subst (λ x. Agrees x (Err e)) (sym (v2_steps v redacted map)) (refused (v2_names v) (v2_listed v redacted) e h)

-- with its names
v2_named : (v : Item) (redacted : Option (List (List ℕ))) (names : List ℕ × List ℕ) → is_map v ≡ true
    → v2_names v ≡ Ok names → v2_claim_apart v redacted ≡ v2_listed v redacted names
v2_named v redacted names map h = v2_steps v redacted map ∙ ap (λ p. then_of p (v2_listed v redacted)) h

-- its lists are refused
pub v2_lists_refused : (v : Item) (redacted : Option (List (List ℕ))) (names : List ℕ × List ℕ) (e : ClaimError)
    → is_map v ≡ true → v2_names v ≡ Ok names → AgreesOn (v2_lists v) (Err e)
    → Agrees (v2_claim_apart v redacted) (Err e)
v2_lists_refused v redacted names e map h k =
    subst (λ x. Agrees x (Err e)) (sym (v2_named v redacted names map h))
    (refused (v2_lists v) (λ lists. then_of (last_fields Assertions (codes "assertions") v redacted) (λ others. Ok (v2_of names lists others))) e k)

-- with its lists
v2_with_lists : (v : Item) (redacted : Option (List (List ℕ))) (names : List ℕ × List ℕ) (lists : List Ref × List Ref)
    → is_map v ≡ true → v2_names v ≡ Ok names → v2_lists v ≡ Ok lists
    → v2_claim_apart v redacted
    ≡ then_of (last_fields Assertions (codes "assertions") v redacted) (λ others. Ok (v2_of names lists others))
v2_with_lists v redacted names lists map h k =
    v2_named v redacted names map h
    ∙ ap
    (λ p. then_of p (λ ls. then_of (last_fields Assertions (codes "assertions") v redacted) (λ others. Ok (v2_of names ls others))))
    k

-- its last fields are refused
pub v2_last_refused : (v : Item) (redacted : Option (List (List ℕ))) (names : List ℕ × List ℕ) (lists : List Ref × List Ref) (e : ClaimError)
    → is_map v ≡ true → v2_names v ≡ Ok names → v2_lists v ≡ Ok lists
    → AgreesOn (last_fields Assertions (codes "assertions") v redacted) (Err e) → Agrees (v2_claim_apart v redacted) (Err e)
v2_last_refused v redacted names lists e map h k l =
    subst (λ x. Agrees x (Err e)) (sym (v2_with_lists v redacted names lists map h k))
    (refused (last_fields Assertions (codes "assertions") v redacted) (λ others. Ok (v2_of names lists others)) e l)

-- with all of them it is this claim
pub v2_made : (v : Item) (redacted : Option (List (List ℕ))) (names : List ℕ × List ℕ) (lists : List Ref × List Ref) (others : List (List ℕ) × Option (List ℕ))
    → is_map v ≡ true → v2_names v ≡ Ok names → v2_lists v ≡ Ok lists
    → last_fields Assertions (codes "assertions") v redacted ≡ Ok others
    → v2_claim_apart v redacted ≡ Ok (v2_of names lists others)
v2_made v redacted names lists others map h k l =
    v2_with_lists v redacted names lists map h k ∙ ap (λ p. then_of p (λ t. Ok (v2_of names lists t))) l

-- ---- version 1

-- the claim of these values
abbrev v1_of : List ℕ × List Ref → List (List ℕ) × Option (List ℕ) → Option (List ℕ) → Claim
v1_of own others instance = record {
  version = V1;
  signature = own.0;
  instance = instance;
  alg = others.1;
  created = own.1;
  gathered = [];
  redacted = others.0;
}

-- its instance
abbrev v1_instance : Item → Option (List ℕ)
v1_instance v = text_of (field_of (codes "instanceID") v)

-- from its last fields on
abbrev v1_owned : Item → Option (List (List ℕ)) → List ℕ × List Ref → Result Claim ClaimField
v1_owned v redacted own =
    then_of (last_fields Created (codes "created_assertions") v redacted) (λ others. Ok (v1_of own others (v1_instance v)))

-- field by field it is the same
v1_same : (s : Option (List ℕ)) (c : Option (List Ref)) (r : Option (List (List ℕ))) (a : Option (Option (List ℕ))) (o : Bool) (i : Option (List ℕ))
    → v1_claim_by true s c r a o i
    ≡ then_of (both_of (wanted Signature s) (wanted Assertions c))
    (λ own. then_of (unless Created o (both_of (wanted Redacted r) (wanted Alg a))) (λ others. Ok (v1_of own others i)))
v1_same None c r a o i = refl
v1_same (Some s) None r a o i = refl
v1_same (Some s) (Some c) None a o i = refl
v1_same (Some s) (Some c) (Some r) None o i = refl
v1_same (Some s) (Some c) (Some r) (Some a) true i = refl
v1_same (Some s) (Some c) (Some r) (Some a) false i = refl

-- the claim of an item that is a map
v1_steps : (v : Item) (redacted : Option (List (List ℕ))) → is_map v ≡ true
    → v1_claim_apart v redacted ≡ then_of (v1_own v) (v1_owned v redacted)
v1_steps v redacted map =
    let s : Option (List ℕ) = text_of (field_of (codes "signature") v) in
    let c : Option (List Ref) = list_of ref_of (field_of (codes "assertions") v) in
    let a : Option (Option (List ℕ)) = optional_text (field_of (codes "alg") v) in
    let o : Bool = is_some (field_of (codes "created_assertions") v) in
    ap (λ m. v1_claim_by m s c redacted a o (v1_instance v)) map ∙ v1_same s c redacted a o (v1_instance v)

-- its own fields are refused
pub v1_own_refused : (v : Item) (redacted : Option (List (List ℕ))) (e : ClaimError) → is_map v ≡ true
    → AgreesOn (v1_own v) (Err e) → Agrees (v1_claim_apart v redacted) (Err e)
v1_own_refused v redacted e map h =
    subst (λ x. Agrees x (Err e)) (sym (v1_steps v redacted map)) (refused (v1_own v) (v1_owned v redacted) e h)

-- with its own fields
v1_with_own : (v : Item) (redacted : Option (List (List ℕ))) (own : List ℕ × List Ref) → is_map v ≡ true
    → v1_own v ≡ Ok own → v1_claim_apart v redacted ≡ v1_owned v redacted own
v1_with_own v redacted own map h = v1_steps v redacted map ∙ ap (λ p. then_of p (v1_owned v redacted)) h

-- its last fields are refused
pub v1_last_refused : (v : Item) (redacted : Option (List (List ℕ))) (own : List ℕ × List Ref) (e : ClaimError)
    → is_map v ≡ true → v1_own v ≡ Ok own
    → AgreesOn (last_fields Created (codes "created_assertions") v redacted) (Err e)
    → Agrees (v1_claim_apart v redacted) (Err e)
v1_last_refused v redacted own e map h l =
    subst (λ x. Agrees x (Err e)) (sym (v1_with_own v redacted own map h))
    (refused (last_fields Created (codes "created_assertions") v redacted) (λ others. Ok (v1_of own others (v1_instance v))) e l)

-- with all of them it is this claim
pub v1_made : (v : Item) (redacted : Option (List (List ℕ))) (own : List ℕ × List Ref) (others : List (List ℕ) × Option (List ℕ)) (instance : Option (List ℕ)) (gathered : List Ref)
    → is_map v ≡ true → v1_own v ≡ Ok own → last_fields Created (codes "created_assertions") v redacted ≡ Ok others
    → instance ≡ v1_instance v → gathered ≡ []
    → v1_claim_apart v redacted
    ≡ Ok (record { version = V1; signature = own.0; instance = instance; alg = others.1; created = own.1; gathered = gathered; redacted = others.0 })
v1_made v redacted own others instance gathered map h l is none =
    v1_with_own v redacted own map h ∙ ap (λ p. then_of p (λ t. Ok (v1_of own t (v1_instance v)))) l
    ∙ ap (λ i. Ok (v1_of own others i)) (sym is)
    ∙ ap
    (λ g. Ok (record { version = V1; signature = own.0; instance = instance; alg = others.1; created = own.1; gathered = g; redacted = others.0 }))
    (sym none)

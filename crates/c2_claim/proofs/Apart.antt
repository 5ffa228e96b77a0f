-- A claim whose redactions are held apart is that of the whole item.
use Rattle.std.proofs.Common.{◌≡◌, ℕ, Bool, true, ◌∷◌, [], List, Option, Some, None, Result, is_some, codes, refl, sym, ap, subst, ◌∙◌, map}
use Rattle.c2_spec.specs.Cbor.Item.{Item, uint, nint, bytes, text, list, dict, tag, simple, half, single, double, Pairs}
use Rattle.c2_spec.specs.Cbor.View.{items_of}
use Rattle.c2_spec.specs.Cbor.Lookup.{ref_of}
use Rattle.c2_spec.specs.Cbor.Fields.{each_of, joined, text_item, text_of, optional_text, list_of, optional_list}
use Rattle.c2_spec.specs.C2pa.Claim.{claim_of, Agrees}
use Rattle.c2_spec.specs.declared.cbor.Ref.{Ref}
use Rattle.c2_spec.specs.declared.claim.Claim.{Claim}
use Rattle.c2_spec.specs.declared.claim.ClaimError.{ClaimError}
use Rattle.c2_spec.specs.declared.claim.ClaimVersion.{ClaimVersion}
use Rattle.c2_spec.specs.declared.claim.ClaimVersion.TheVariants.{V1, V2}
use Rattle.c2_cbor.specs.Apart.{with_texts}
use Rattle.c2_claim.proofs.PutIn.{field_own, field_other}
use Rattle.c2_spec.proofs.ClaimVersions.{v1_claim_by, v2_claim_by}
use Rattle.c2_claim.specs.Apart.{redactions_of, claim_apart}

-- each text of a list is one
each_text : (ts : List (List ℕ)) → each_of text_item (items_of (map text ts)) ≡ Some ts
each_text [] = refl
each_text (t ∷ ts) = ap (joined (Some t)) (each_text ts)

-- the key of redactions
abbrev key : List ℕ
key = codes "redacted_assertions"

-- equal fields make equal claims of version 1
v1_alike : (s t : Option (List ℕ)) (c d : Option (List Ref)) (r q : Option (List (List ℕ))) (a b : Option (Option (List ℕ))) (o p : Bool) (i j : Option (List ℕ))
    → s ≡ t → c ≡ d → r ≡ q → a ≡ b → o ≡ p → i ≡ j → v1_claim_by true s c r a o i ≡ v1_claim_by true t d q b p j
v1_alike s t c d r q a b o p i j es ec er ea eo ei =
    ap (λ x. v1_claim_by true x c r a o i) es ∙ ap (λ x. v1_claim_by true t x r a o i) ec
    ∙ ap (λ x. v1_claim_by true t d x a o i) er
    ∙ ap (λ x. v1_claim_by true t d q x o i) ea ∙ ap (λ x. v1_claim_by true t d q b x i) eo
    ∙ ap (λ x. v1_claim_by true t d q b p x) ei

-- equal fields make equal claims of version 2
v2_alike : (i j s t : Option (List ℕ)) (c d g h : Option (List Ref)) (r q : Option (List (List ℕ))) (a b : Option (Option (List ℕ))) (o p : Bool)
    → i ≡ j → s ≡ t → c ≡ d → g ≡ h → r ≡ q → a ≡ b → o ≡ p
    → v2_claim_by true i s c g r a o ≡ v2_claim_by true j t d h q b p
v2_alike i j s t c d g h r q a b o p ei es ec eg er ea eo =
    ap (λ x. v2_claim_by true x s c g r a o) ei ∙ ap (λ x. v2_claim_by true j x c g r a o) es
    ∙ ap (λ x. v2_claim_by true j t x g r a o) ec
    ∙ ap (λ x. v2_claim_by true j t d x r a o) eg ∙ ap (λ x. v2_claim_by true j t d h x a o) er
    ∙ ap (λ x. v2_claim_by true j t d h q x o) ea
    ∙ ap (λ x. v2_claim_by true j t d h q b x) eo

-- the claim of a map with redactions that are held apart
dict_claim : (version : ClaimVersion) (ps : Pairs) (ts : List (List ℕ))
    → claim_of version (with_texts key (dict ps) (Some ts)) ≡ claim_apart version (dict ps) (Some ts)
dict_claim V1 ps ts =
    v1_alike _ _ _ _ _ _ _ _ _ _ _ _
    (ap text_of (field_other key (codes "signature") ts ps refl))
    (ap (list_of ref_of) (field_other key (codes "assertions") ts ps refl))
    (ap (optional_list text_item) (field_own key ts ps) ∙ each_text ts)
    (ap optional_text (field_other key (codes "alg") ts ps refl))
    (ap is_some (field_other key (codes "created_assertions") ts ps refl))
    (ap text_of (field_other key (codes "instanceID") ts ps refl))
dict_claim V2 ps ts =
    v2_alike _ _ _ _ _ _ _ _ _ _ _ _ _ _
    (ap text_of (field_other key (codes "instanceID") ts ps refl))
    (ap text_of (field_other key (codes "signature") ts ps refl))
    (ap (list_of ref_of) (field_other key (codes "created_assertions") ts ps refl))
    (ap (optional_list ref_of) (field_other key (codes "gathered_assertions") ts ps refl))
    (ap (optional_list text_item) (field_own key ts ps) ∙ each_text ts)
    (ap optional_text (field_other key (codes "alg") ts ps refl))
    (ap is_some (field_other key (codes "assertions") ts ps refl))

-- the claim of an item with texts held apart
apart_claim : (version : ClaimVersion) (v : Item) (ts : List (List ℕ))
    → claim_of version (with_texts (codes "redacted_assertions") v (Some ts)) ≡ claim_apart version v (Some ts)
apart_claim version (dict ps) ts = dict_claim version ps ts
apart_claim V1 (uint n) ts = refl
apart_claim V1 (nint n) ts = refl
apart_claim V1 (bytes b) ts = refl
apart_claim V1 (text t) ts = refl
apart_claim V1 (list vs) ts = refl
apart_claim V1 (tag n v) ts = refl
apart_claim V1 (simple a) ts = refl
apart_claim V1 (half n) ts = refl
apart_claim V1 (single n) ts = refl
apart_claim V1 (double n) ts = refl
apart_claim V2 (uint n) ts = refl
apart_claim V2 (nint n) ts = refl
apart_claim V2 (bytes b) ts = refl
apart_claim V2 (text t) ts = refl
apart_claim V2 (list vs) ts = refl
apart_claim V2 (tag n v) ts = refl
apart_claim V2 (simple a) ts = refl
apart_claim V2 (half n) ts = refl
apart_claim V2 (single n) ts = refl
apart_claim V2 (double n) ts = refl

-- the claim of the whole item
whole_claim : (version : ClaimVersion) (v : Item) (texts : Option (List (List ℕ)))
    → claim_of version (with_texts (codes "redacted_assertions") v texts) ≡ claim_apart version v (redactions_of v texts)
whole_claim V1 v None = refl
whole_claim V2 v None = refl
whole_claim version v (Some ts) = apart_claim version v ts

-- the answer for what is held is that for the whole item
pub agrees_whole : (version : ClaimVersion) (v : Item) (texts : Option (List (List ℕ))) (r : Result Claim ClaimError)
    → Agrees (claim_apart version v (redactions_of v texts)) r
    → Agrees (claim_of version (with_texts (codes "redacted_assertions") v texts)) r
agrees_whole version v texts r h = subst (λ x. Agrees x r) (sym (whole_claim version v texts)) h

-- Equal bytes are read alike: as claims, as ingredients, as messages, and as the items of bindings.
use Rattle.std.proofs.Common.{◌≡◌, inl, inr, ℕ, Bool, true, false, List, [], ◌∷◌, Option, Some, None, Ok, MatchBool, Contains, refl, sym, ap, ◌∙◌, subst}
use Rattle.std.specs.List.{AllZip}
use Rattle.c2_spec.specs.C2pa.Assertion.{ingredient_of}
use Rattle.c2_spec.specs.C2pa.Claim.{claim_of}
use Rattle.c2_spec.proofs.ClaimVersions.{says_version, one_claim_of}
use Rattle.c2_spec.specs.C2pa.Manifest.{Manifest, claim_version_of}
use Rattle.c2_spec.specs.C2pa.Uri.{PlainUri, uri_of}
use Rattle.c2_spec.specs.Cbor.Fields.{HasItem}
use Rattle.c2_spec.specs.Cbor.Item.{Item}
use Rattle.c2_spec.specs.declared.cbor.Ref.{Ref}
use Rattle.c2_spec.specs.declared.claim.Claim.{Claim}
use Rattle.c2_spec.specs.declared.claim.ClaimVersion.{ClaimVersion}
use Rattle.c2_rules.proofs.ListLemmas.{contains_none, contains_head, contains_tail, contains_cons}
use Rattle.c2_rules.proofs.OneReading.{one_parsed}
use Rattle.c2_rules.specs.Chains.{own_assertion, assertion_label, entry_label}
use Rattle.c2_rules.specs.Ingredients.{is_ingredient, box_version}
use Rattle.c2_rules.specs.Questions.{is_own_label}
use Rattle.c2_rules.specs.Readings.{IsParsed, ReadBox, IsReadBox, Reading, IsReading, value_in, claim_in}
use Rattle.c2_rules.specs.declared.parsed.Parsed.{Parsed}
use Rattle.c2_rules.specs.declared.parsed.Parsed.TheVariants.{NoItem, NoForm, Value}
use Rattle.c2_compare_spec.specs.ChainContent.{claim_bytes_of}
use Rattle.c2_compare_spec.specs.Correspondence.{HaveSameClaim}
use Rattle.c2_cbor_spec.proofs.PlainBack.{same_item}
use Rattle.c2_lemmas.proofs.Options.{one_value}

-- ---- claims

-- Claim bytes are an item that is this claim under a version.
record IsClaimItem (version : ClaimVersion) (o : Option (List ℕ)) (p : Parsed Claim) (c : Claim) : Type 0 where
  bytes : List ℕ
  has_bytes : o ≡ Some bytes
  item : Item
  has_item : HasItem bytes item
  is : claim_of version item ≡ Ok c
  read : p ≡ Value c

-- a claim that was read is that of an item
claim_item : (version : ClaimVersion) (o : Option (List ℕ)) (p : Parsed Claim) (c : Claim)
    → IsParsed (claim_of version) o p → value_in p ≡ Some c → IsClaimItem version o p c
claim_item version o NoItem c h e = absurd (cc (e))
claim_item version o NoForm c h e = absurd (cc (e))
claim_item version None (Value x) c h e = absurd h
claim_item version (Some bytes) (Value x) c h e =
    let same : x ≡ c = cc (e) in
    record {
      bytes = bytes;
      has_bytes = refl;
      item = h.0;
      has_item = h.1;
      is = h.2 ∙ ap Ok same;
      read = ap Value same;
    }

-- the label of a claim box says the version that the claim says
pub version_is : (r : Reading) → IsReading r.manifest r → (c : Claim) → claim_in r ≡ Some c
    → c.version ≡ claim_version_of r.manifest.claims
version_is r h c is =
    let version = claim_version_of r.manifest.claims in
    let x = claim_item version (claim_bytes_of r) r.claim c h.claim is in
    says_version version x.item c x.is

-- equal claim bytes are equal claims, since they are a claim under one version
pub claims_alike : (r s : Reading) → IsReading r.manifest r → IsReading s.manifest s
    → claim_bytes_of r ≡ claim_bytes_of s → (c d : Claim) → claim_in r ≡ Some c → claim_in s ≡ Some d
    → r.claim ≡ s.claim
claims_alike r s h k e c d is are =
    let own = claim_version_of r.manifest.claims in
    let other = claim_version_of s.manifest.claims in
    let x = claim_item own (claim_bytes_of r) r.claim c h.claim is in
    let y = claim_item other (claim_bytes_of s) s.claim d k.claim are in
    let bytes : x.bytes ≡ y.bytes = one_value (claim_bytes_of r) x.bytes y.bytes x.has_bytes (e ∙ y.has_bytes) in
    let item : x.item ≡ y.item =
    same_item y.bytes x.item y.item (subst (λ b. HasItem b x.item) bytes x.has_item) y.has_item in
    let same : c ≡ d = one_claim_of own other y.item c d (ap (claim_of own) (sym item) ∙ x.is) y.is in
    x.read ∙ ap Value same ∙ sym y.read

-- two manifests with equal claim bytes have one claim
pub same_claim : (r s : Reading) → IsReading r.manifest r → IsReading s.manifest s
    → claim_bytes_of r ≡ claim_bytes_of s → (c d : Claim) → claim_in r ≡ Some c → claim_in s ≡ Some d
    → HaveSameClaim r s
same_claim r s h k e c d is are =
    let both : claim_in s ≡ Some c = sym (ap value_in (claims_alike r s h k e c d is are)) ∙ is in
    record {
      claim = c;
      first = is;
      second = both;
      first_version = version_is r h c is;
      second_version = version_is s k c both;
    }

-- ---- boxes

-- the partner of a member of the second of two lists that go together
pub partner : {A B : Type 0} (R : A → B → Type 0) (xs : List A) (ys : List B) (y : B) → AllZip R xs ys
    → Contains ys y → (x : A) × Contains xs x × R x y
partner R [] [] y h c = absurd (contains_none y c)
partner R [] (z ∷ ys) y h c = absurd h
partner R (x ∷ xs) [] y h c = absurd h
partner R (x ∷ xs) (z ∷ ys) y h c =
    elim (contains_cons z y ys c) [
      | inl same ↦ (x, contains_head x xs, subst (R x) same h.0)
      | inr rest ↦ let r = partner R xs ys y h.1 rest in (r.0, contains_tail x r.0 xs r.1, r.2)
    ]

-- a box of a manifest that was read is read so
pub box_reads : (r : Reading) → IsReading r.manifest r → (b : ReadBox) → Contains r.boxes b
    → IsReadBox b.boxed b
box_reads r h b c =
    let z = partner IsReadBox r.manifest.assertions r.boxes b h.boxes c in
    subst (λ x. IsReadBox x b) (sym z.2.same) z.2

-- by whether the box is one of an ingredient
same_ingredient : (b c : ReadBox) (is : Bool)
    → MatchBool is (IsParsed (ingredient_of (box_version c.boxed)) c.boxed.item b.ingredient) (b.ingredient ≡ NoItem)
    → MatchBool is (IsParsed (ingredient_of (box_version c.boxed)) c.boxed.item c.ingredient) (c.ingredient ≡ NoItem)
    → b.ingredient ≡ c.ingredient
same_ingredient b c true p q =
    one_parsed (ingredient_of (box_version c.boxed)) c.boxed.item b.ingredient c.ingredient p q
same_ingredient b c false p q = p ∙ sym q

-- equal boxes are equal ingredients
pub ingredients_alike : (b c : ReadBox) → IsReadBox b.boxed b → IsReadBox c.boxed c
    → b.boxed ≡ c.boxed
    → b.ingredient ≡ c.ingredient
ingredients_alike b c p q e =
    same_ingredient b c (is_ingredient c.boxed) (subst (λ x. IsReadBox x b) e p).reads q.reads

-- ---- labels of entries

-- a label that an entry lists is that of its URI's target
target_of : (own : Option (List ℕ)) (o : Option PlainUri) (label : List ℕ) → own_assertion own o ≡ Some label
    → (u : PlainUri) × (o ≡ Some u) × (assertion_label u.target ≡ Some label)
target_of own None label e = absurd cc
target_of own (Some u) label e = by (is_own_label own u.manifest) refl e
  where
    by : (b : Bool) → is_own_label own u.manifest ≡ b → own_assertion own (Some u) ≡ Some label
        → (v : PlainUri) × (Some u ≡ Some v) × (assertion_label v.target ≡ Some label)
    by true t is = (u, refl, sym (rw t refl) ∙ is)
    by false t is =
        let none : own_assertion own (Some u) ≡ None = rw t refl in
        absurd (let bad = sym none ∙ is in cc (bad))

-- an entry lists one label, in whichever manifest it stands
pub one_label : (m n : Manifest) (e : Ref) (k l : List ℕ) → entry_label m e ≡ Some k
    → entry_label n e ≡ Some l
    → k ≡ l
one_label m n e k l p q =
    let a = target_of m.label (uri_of e.url) k p in
    let b = target_of n.label (uri_of e.url) l q in
    let same : a.0 ≡ b.0 = one_value (uri_of e.url) a.0 b.0 a.1 b.1 in
    one_value (assertion_label a.0.target) k l a.2 (ap (λ (u : PlainUri). assertion_label u.target) same ∙ b.2)

-- A claim that is made of its parts is plain, and is read as these parts.
use Rattle.std.proofs.Common.{◌≡◌, ℕ, Bool, true, not, ◌&&◌, List, [], ◌∷◌, ◌++◌, length, take, map, Option, Some, None, Ok, refl, sym, ap, ◌∙◌, subst, codes}
use Rattle.std.proofs.lemmas.Bool.{and_parts, not-true, false≢true}
use Rattle.std.proofs.lemmas.Slice.Eq.{bytes_eq-Decides}
use Rattle.std.proofs.lemmas.List.{take_at}
use Rattle.std.specs.Str.{bytes_eq}
use Rattle.std.specs.declared.result.Result.{Result}
use Rattle.c2_spec.specs.Cbor.Item.{Item, bytes, text, list, dict, Pairs, no_pairs, pair}
use Rattle.c2_spec.specs.Cbor.View.{items_of, pairs_of}
use Rattle.c2_spec.specs.Cbor.Spelling.{Spells}
use Rattle.c2_spec.specs.Cbor.Legal.{IsLegal}
use Rattle.c2_spec.specs.Cbor.Plain.{DiffersFrom, HasPlainKeys, ItemsHavePlainKeys, PairsHavePlainKeys, IsPlain}
use Rattle.c2_spec.specs.Cbor.Deterministic.{sorted, sorted_items, deterministic, shortest_head}
use Rattle.c2_spec.specs.Cbor.Answers.{BeginsWith}
use Rattle.c2_spec.specs.Cbor.Fields.{require, each_of, text_item, joined}
use Rattle.c2_spec.specs.Cbor.Lookup.{ref_of}
use Rattle.c2_spec.specs.C2pa.Claim.{claim_of, IsClaim}
use Rattle.c2_spec.specs.Cbor.Writing.{field, field_if, ref_item}
use Rattle.c2_claim.specs.Written.{redactions_field, signature_uri, generator_item, claim_fields, claim_item, claim_from}
use Rattle.c2_spec.specs.declared.cbor.Ref.{Ref}
use Rattle.c2_spec.specs.declared.claim.Claim.{Claim}
use Rattle.c2_spec.specs.declared.claim.ClaimField.{ClaimField}
use Rattle.c2_spec.specs.declared.claim.ClaimVersion.TheVariants.{V2}
use Rattle.c2_spec.specs.declared.claim.ClaimField.TheVariants.{Created, Redacted}
use Rattle.c2_claim.specs.declared.writing.ClaimParts.{ClaimParts}

-- ---- plain

-- no key of ps has the deterministic bytes of k
abbrev is_apart : Item → Pairs → Bool
is_apart k no_pairs = true
is_apart k (pair l v ps) = not (bytes_eq (deterministic k) (deterministic l)) && is_apart k ps

-- two lists of bytes that differ
differ : (a b : List ℕ) → not (bytes_eq a b) ≡ true → a ≡ b → ⊥
differ a b n e = false≢true (sym (not-true (bytes_eq a b) n) ∙ (bytes_eq-Decides a b).1 e)

-- the test, as a fact
apart : (k : Item) (ps : Pairs) → is_apart k ps ≡ true → DiffersFrom k ps
apart k no_pairs h = tt
apart k (pair l v ps) h =
    let both = and_parts (not (bytes_eq (deterministic k) (deterministic l))) (is_apart k ps) h in
    (differ (deterministic k) (deterministic l) both.0, apart k ps both.1)

-- pairs with plain keys
record PlainPairs (ps : Pairs) : Type 0 where
  are : PairsHavePlainKeys ps

-- no pairs
none_plain : PlainPairs no_pairs
none_plain = record { are = tt }

-- a pair with another key before them
one_plain : (key : List ℕ) (v : Item) (ps : Pairs) → HasPlainKeys v → is_apart (text key) ps ≡ true → PlainPairs ps
    → PlainPairs (pair (text key) v ps)
one_plain key v ps h new rest = record { are = (tt, h, apart (text key) ps new, rest.are) }

-- a reference
ref_plain_of : (u h : List ℕ) (a : Option (List ℕ)) → HasPlainKeys (ref_item (record { url = u; hash = h; alg = a }))
unfolding shortest_head
ref_plain_of u h None =
    (one_plain (codes "url") (text u) (pair (text (codes "hash")) (bytes h) no_pairs) tt refl (one_plain (codes "hash") (bytes h) no_pairs tt refl none_plain)).are
ref_plain_of u h (Some a) = (one_plain (codes "alg") (text a)
    (pair (text (codes "url")) (text u) (pair (text (codes "hash")) (bytes h) no_pairs)) tt refl
    (one_plain (codes "url") (text u) (pair (text (codes "hash")) (bytes h) no_pairs) tt refl
    (one_plain (codes "hash") (bytes h) no_pairs tt refl none_plain))).are

-- references
refs_plain : (rs : List Ref) → ItemsHavePlainKeys (items_of (map ref_item rs))
refs_plain [] = tt
refs_plain (r ∷ rs) = (ref_plain_of r.url r.hash r.alg, refs_plain rs)

-- texts
texts_plain : (ts : List (List ℕ)) → ItemsHavePlainKeys (items_of (map text ts))
texts_plain [] = tt
texts_plain (t ∷ ts) = (tt, texts_plain ts)

-- the parts, one by one
parts_of : List ℕ → List ℕ → List ℕ → Option (List ℕ) → List ℕ → List Ref → List (List ℕ) → ClaimParts
parts_of label instance generator title alg entries redacted =
    record
    { label = label; instance = instance; generator = generator; title = title; alg = alg; entries = entries; redacted = redacted }

-- the last field
last_plain : (generator : List ℕ)
    → PlainPairs (pair (text (codes "claim_generator_info")) (generator_item generator) no_pairs)
unfolding shortest_head
last_plain generator =
    one_plain (codes "claim_generator_info") (generator_item generator) no_pairs
    ((one_plain (codes "name") (text generator) no_pairs tt refl none_plain).are) refl none_plain

-- the fields of a claim
fields_plain :
    (label instance generator : List ℕ) (title : Option (List ℕ)) (alg : List ℕ) (entries : List Ref)
    (redacted : List (List ℕ))
    → PlainPairs (pairs_of (claim_fields (parts_of label instance generator title alg entries redacted)))
unfolding parts_of shortest_head
fields_plain label instance generator None alg entries [] =
    one_plain (codes "alg") (text alg) _ tt refl
    (one_plain (codes "signature") (text (signature_uri label)) _ tt refl
    (one_plain (codes "instanceID") (text instance) _ tt refl
    (one_plain (codes "created_assertions") (list (items_of (map ref_item entries))) _ (refs_plain entries) refl
    (last_plain generator))))
fields_plain label instance generator None alg entries (t ∷ ts) =
    one_plain (codes "alg") (text alg) _ tt refl
    (one_plain (codes "signature") (text (signature_uri label)) _ tt refl
    (one_plain (codes "instanceID") (text instance) _ tt refl
    (one_plain (codes "created_assertions") (list (items_of (map ref_item entries))) _ (refs_plain entries) refl
    (one_plain (codes "redacted_assertions") (list (items_of (map text (t ∷ ts)))) _ (texts_plain (t ∷ ts)) refl
    (last_plain generator)))))
fields_plain label instance generator (Some title) alg entries [] =
    one_plain (codes "alg") (text alg) _ tt refl
    (one_plain (codes "dc:title") (text title) _ tt refl
    (one_plain (codes "signature") (text (signature_uri label)) _ tt refl
    (one_plain (codes "instanceID") (text instance) _ tt refl
    (one_plain (codes "created_assertions") (list (items_of (map ref_item entries))) _ (refs_plain entries) refl
    (last_plain generator)))))
fields_plain label instance generator (Some title) alg entries (t ∷ ts) =
    one_plain (codes "alg") (text alg) _ tt refl
    (one_plain (codes "dc:title") (text title) _ tt refl
    (one_plain (codes "signature") (text (signature_uri label)) _ tt refl
    (one_plain (codes "instanceID") (text instance) _ tt refl
    (one_plain (codes "created_assertions") (list (items_of (map ref_item entries))) _ (refs_plain entries) refl
    (one_plain (codes "redacted_assertions") (list (items_of (map text (t ∷ ts)))) _ (texts_plain (t ∷ ts)) refl
    (last_plain generator))))))

-- ---- read back

-- a reference
ref_back_of : (u h : List ℕ) (a : Option (List ℕ))
    → ref_of (sorted (ref_item (record { url = u; hash = h; alg = a }))) ≡ Some (record { url = u; hash = h; alg = a })
unfolding shortest_head
ref_back_of u h None = refl
ref_back_of u h (Some a) = refl

-- references
refs_back : (rs : List Ref) → each_of ref_of (sorted_items (items_of (map ref_item rs))) ≡ Some rs
refs_back [] = refl
refs_back (r ∷ rs) =
    ap (λ o. joined o (each_of ref_of (sorted_items (items_of (map ref_item rs))))) (ref_back_of r.url r.hash r.alg)
    ∙ ap (λ o. joined (Some r) o) (refs_back rs)

-- texts
texts_back : (ts : List (List ℕ)) → each_of text_item (sorted_items (items_of (map text ts))) ≡ Some ts
texts_back [] = refl
texts_back (t ∷ ts) = ap (λ o. joined (Some t) o) (texts_back ts)

-- what a claim says of which these entries and these redactions are read
said_by : List ℕ → List ℕ → List ℕ → Option (List Ref) → Option (List (List ℕ)) → Result Claim ClaimField
said_by signature instance alg created redacted =
    require Created created
    (λ created. require Redacted redacted (λ redacted. Ok (record { version = V2; signature = signature; instance = Some instance; alg = Some alg; created = created; gathered = []; redacted = redacted })))

-- a claim of these parts
claim_said : (label instance generator : List ℕ) (title : Option (List ℕ)) (alg : List ℕ) (entries : List Ref) (redacted : List (List ℕ))
    → claim_of V2 (sorted (claim_item (parts_of label instance generator title alg entries redacted))) ≡ said_by (signature_uri label) instance alg (each_of ref_of (sorted_items (items_of (map ref_item entries)))) (each_of text_item (sorted_items (items_of (map text redacted))))
unfolding said_by parts_of shortest_head
claim_said label instance generator None alg entries [] = refl
claim_said label instance generator None alg entries (t ∷ ts) = refl
claim_said label instance generator (Some title) alg entries [] = refl
claim_said label instance generator (Some title) alg entries (t ∷ ts) = refl

-- a claim that is made of parts, read
pub claim_back : (p : ClaimParts) → claim_of V2 (sorted (claim_item p)) ≡ Ok (claim_from p)
unfolding said_by parts_of
claim_back p =
    claim_said p.label p.instance p.generator p.title p.alg p.entries p.redacted
    ∙ ap
    (λ o. said_by (signature_uri p.label) p.instance p.alg o (each_of text_item (sorted_items (items_of (map text p.redacted)))))
    (refs_back p.entries)
    ∙ ap (λ o. said_by (signature_uri p.label) p.instance p.alg (Some p.entries) o) (texts_back p.redacted)

-- ---- the bytes

-- what is written of a legal claim
pub written_back : (p : ClaimParts) (v : Item) (b : List ℕ) → v ≡ claim_item p → IsLegal v
    → (IsPlain v → (r : List ℕ) → BeginsWith (b ++ r) (sorted v) (length b)) → IsClaim V2 b (claim_from p)
unfolding parts_of
written_back p v b is legal read =
    let fields = fields_plain p.label p.instance p.generator p.title p.alg p.entries p.redacted in
    let plain : HasPlainKeys v = subst HasPlainKeys (sym is) fields.are in
    let begins = read (record { legal = legal; plain = plain }) [] in
    let whole : take (length b) (b ++ []) ≡ b = take_at b [] (length b) refl in
    record {
      item = sorted v;
      has = record { legal = begins.legal; spelled = subst (Spells (sorted v)) whole begins.spelled };
      is = ap (λ w. claim_of V2 (sorted w)) is ∙ claim_back p;
    }

-- ---- the item

-- one field after the other
in_turn : (title redacted : List (Item × Item)) (s i c g : Item × Item)
    → ((((title ++ s ∷ []) ++ i ∷ []) ++ c ∷ []) ++ redacted) ++ g ∷ [] ≡ title ++ s ∷ i ∷ c ∷ redacted ++ g ∷ []
in_turn [] redacted s i c g = refl
in_turn (t ∷ ts) redacted s i c g = ap (λ (fs : List (Item × Item)). t ∷ fs) (in_turn ts redacted s i c g)

-- the fields with these values
abbrev fields_with : ClaimParts → Item → Item → Item → Item → Item → List (Item × Item)
fields_with p alg s i c g =
    field (codes "alg") alg ∷ field_if (codes "dc:title") text p.title ++ field (codes "signature") s ∷ field
    (codes "instanceID") i
    ∷ field (codes "created_assertions") c ∷ redactions_field p.redacted ++ field (codes "claim_generator_info") g ∷ []

-- the fields, each added to those before it
pub claim_is : (p : ClaimParts) (m0 m1 m2 m3 m4 m5 m6 m7 : List (Item × Item)) (alg s i c g : Item)
    → m0 ≡ []
    → m1 ≡ m0 ++ field (codes "alg") alg ∷ []
    → m2 ≡ m1 ++ field_if (codes "dc:title") text p.title
    → m3 ≡ m2 ++ field (codes "signature") s ∷ []
    → m4 ≡ m3 ++ field (codes "instanceID") i ∷ []
    → m5 ≡ m4 ++ field (codes "created_assertions") c ∷ []
    → m6 ≡ m5 ++ redactions_field p.redacted
    → m7 ≡ m6 ++ field (codes "claim_generator_info") g ∷ []
    → alg ≡ text p.alg → s ≡ text (signature_uri p.label) → i ≡ text p.instance
    → c ≡ list (items_of (map ref_item p.entries)) → g ≡ generator_item p.generator
    → dict (pairs_of m7) ≡ claim_item p
claim_is p m0 m1 m2 m3 m4 m5 m6 m7 alg s i c g e0 e1 e2 e3 e4 e5 e6 e7 is_alg is_s is_i is_c is_g =
    let title = field_if (codes "dc:title") text p.title in
    let all : m7 ≡ fields_with p alg s i c g =
    e7 ∙ ap (λ m. m ++ field (codes "claim_generator_info") g ∷ []) (e6 ∙ ap (λ m. m ++ redactions_field p.redacted) (e5
    ∙ ap (λ m. m ++ field (codes "created_assertions") c ∷ []) (e4 ∙ ap (λ m. m ++ field (codes "instanceID") i ∷ []) (e3
    ∙ ap (λ m. m ++ field (codes "signature") s ∷ []) (e2 ∙ ap (λ m. m ++ title) (e1 ∙ ap (λ m. m ++ field (codes "alg") alg ∷ []) e0))))))
    ∙ ap (λ (fs : List (Item × Item)). field (codes "alg") alg ∷ fs) (in_turn title (redactions_field p.redacted) (field (codes "signature") s) (field (codes "instanceID") i) (field (codes "created_assertions") c) (field (codes "claim_generator_info") g)) in
    ap (λ m. dict (pairs_of m)) (all
    ∙ ap (λ x. fields_with p x s i c g) is_alg
    ∙ ap (λ x. fields_with p (text p.alg) x i c g) is_s
    ∙ ap (λ x. fields_with p (text p.alg) (text (signature_uri p.label)) x c g) is_i
    ∙ ap (λ x. fields_with p (text p.alg) (text (signature_uri p.label)) (text p.instance) x g) is_c
    ∙ ap (λ x. fields_with p (text p.alg) (text (signature_uri p.label)) (text p.instance) (list (items_of (map ref_item p.entries))) x) is_g)

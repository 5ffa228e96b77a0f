-- What goes into a new store, by a definition and what is carried: its assertions and its claim, its length, and that there is room for
-- each box where the store isn't too large.
use Rattle.std.proofs.Common.{◌≡◌, ℕ, ◌+◌, ◌≤◌, true, inl, inr, List, [], ◌∷◌, ◌++◌, length, map, replicate, refl, sym, ap, ◌∙◌, subst, arith, codes, append_assoc, length-append, lit<}
use Rattle.std.specs.Prelude.{All}
use Rattle.std.specs.List.{AllByRecursion}
use Rattle.std.proofs.lemmas.List.{length-replicate}
use Rattle.std.proofs.lemmas.List.Elements.{All-cons, All-head, All-nil, All-tail}
use Rattle.c2_base.specs.declared.limits.TheConstants.{MAX_STORE_LEN}
use Rattle.c2_spec.specs.Cbor.Deterministic.{deterministic}
use Rattle.c2_spec.specs.Jumbf.Tree.{Tree, tree_bytes, trees_bytes}
use Rattle.c2_spec.specs.Jumbf.Writing.{IsWrittenLabel}
use Rattle.c2_claim.specs.Written.{claim_item}
use Rattle.c2_definition.specs.DefinitionFile.{IsWellFormed, is_new_label}
use Rattle.c2_definition.specs.declared.types.Definition.{Definition}
use Rattle.c2_definition.specs.declared.types.NewAssertion.{NewAssertion}
use Rattle.c2_new_file_spec.specs.Built.{HasDigestLen, bound_len, no_digest}
use Rattle.c2_new_file_spec.specs.FreshBoxes.{store_box}
use Rattle.c2_new_file_spec.specs.Store.{Content, NewIngredient, assertion_box, assertion_boxes, claim_with, entry_of, ingredient_assertion, manifest_box, new_alg, new_assertions, new_claim, new_store}
use Rattle.c2_new_file_spec.specs.Unbound.{IsKnownLabel}
use Rattle.c2_new_file_spec.specs.Written.{IsIngredientLabel}
use Rattle.c2_new_file_spec.proofs.Labels.{new_label, written_label}
use Rattle.c2_layout.specs.Parts.{AreParts, CanBeBoxed, IsContent, parts_size}
use Rattle.c2_layout.specs.declared.carried.Carried.{Carried}
use Rattle.c2_layout.specs.declared.parts.NewParts.{NewParts}
use Rattle.c2_layout.proofs.References.{ingredient_label}
use Rattle.c2_layout.proofs.Sizes.{both_boxes, content_size, sized_with}
use Rattle.c2_new_file_spec.proofs.BuiltLemmas.{no_digest_len}
use Rattle.c2_new_file_spec.proofs.StoreLaws.{new_stores_have_one_length}

-- ---- the assertions and the claim

-- the assertions of a definition, those of ingredients, and the binding
abbrev pub all_assertions : Definition → List NewAssertion → NewAssertion → List NewAssertion
all_assertions d ingredients b = d.assertions ++ (ingredients ++ b ∷ [])

-- the claim of a definition with references to these
abbrev pub all_claim : (List ℕ → List ℕ) → Definition → List NewAssertion → NewAssertion → List ℕ
all_claim hash d ingredients b =
    deterministic (claim_item (claim_with d (map (entry_of hash) (all_assertions d ingredients b))))

-- the assertions of the new manifest are these
content_all : (hash : List ℕ → List ℕ) (d : Definition) (k : Carried) (c : Content) (b : NewAssertion)
    → IsContent hash d k c → new_assertions hash c b ≡ all_assertions d k.ingredients.items b
content_all hash d k c b is =
    ap (λ (x : Definition). x.assertions ++ (map (ingredient_assertion hash) c.ingredients ++ b ∷ [])) is.definition
    ∙ ap (λ (all : List NewAssertion). d.assertions ++ (all ++ b ∷ [])) (sym is.assertions)

-- what was made of them are the parts of the new store
pub content_parts :
    (hash : List ℕ → List ℕ) (d : Definition) (k : Carried) (c : Content) (b : NewAssertion) (more : List NewAssertion)
    → more ≡ k.ingredients.items → IsContent hash d k c → (p : NewParts)
    → p.boxes ≡ trees_bytes (assertion_boxes (all_assertions d more b)) → p.claim ≡ all_claim hash d more b
    → AreParts hash c b p
content_parts hash d k c b more given is p boxes claim =
    let all : all_assertions d more b ≡ new_assertions hash c b =
    ap (λ (as_ : List NewAssertion). all_assertions d as_ b) given ∙ sym (content_all hash d k c b is) in
    record {
      boxes = boxes ∙ ap (λ (as_ : List NewAssertion). trees_bytes (assertion_boxes as_)) all;
      claim = claim ∙ ap (λ (as_ : List NewAssertion). deterministic (claim_item (claim_with d (map (entry_of hash) as_)))) all
          ∙ ap (λ (x : Definition). deterministic (claim_item (claim_with x (map (entry_of hash) (new_assertions hash c b))))) (sym is.definition);
    }

-- ---- the length

-- the digests of a content have the length of those of its definition
own_digests : (hash : List ℕ → List ℕ) (d : Definition) (k : Carried) (c : Content) → IsContent hash d k c
    → HasDigestLen (new_alg c.definition) hash
own_digests hash d k c is = subst (λ (x : Definition). HasDigestLen (new_alg x) hash) (sym is.definition) is.digests

-- the parts of a new store are as long as was told
pub parts_long :
    (hash : List ℕ → List ℕ) (d : Definition) (k : Carried) (c : Content) (b : NewAssertion) → IsContent hash d k c
    → (p : NewParts) → AreParts hash c b p
    → length k.boxes + parts_size d.label p d.reserve ≡ bound_len c b d.reserve
parts_long hash d k c b is p are =
    let size = sized_with hash c b d.reserve (own_digests hash d k c is) in
    let label : length c.definition.label ≡ length d.label = ap (λ (x : Definition). length x.label) is.definition in
    omega (arith, size, label, ap length is.boxes, ap length are.boxes, ap length are.claim)

-- a definition with more assertions behind its own
abbrev with_more : Definition → List NewAssertion → Definition
with_more d more = record {
  label = d.label;
  instance_id = d.instance_id;
  generator = d.generator;
  title = d.title;
  protected = d.protected;
  reserve = d.reserve;
  assertions = d.assertions ++ more;
  redact = d.redact;
  alg = d.alg;
}

-- what goes into a store of such a definition with these boxes, and with no ingredients beside it
abbrev defined : Definition → List NewAssertion → Content → Content
defined d more c = record { definition = with_more d more; carried = c.carried; ingredients = [] }

-- the store of these assertions
abbrev store_over : (List ℕ → List ℕ) → Content → List ℕ → Definition → List NewAssertion → Tree
store_over hash c message d all =
    store_box c.carried
    (manifest_box d.label all (deterministic (claim_item (claim_with d (map (entry_of hash) all)))) message)

-- where the assertions of the ingredients stand in the definition, the store is the same
same_store : (hash : List ℕ → List ℕ) (d : Definition) (k : Carried) (c : Content) (b : NewAssertion) (message : List ℕ)
    → IsContent hash d k c
    → new_store hash c b message ≡ new_store hash (defined d k.ingredients.items c) b message
same_store hash d k c b message is =
    ap (λ (x : Definition). store_over hash c message x (new_assertions hash c b)) is.definition
    ∙ ap (store_over hash c message d)
    (content_all hash d k c b is ∙ sym (append_assoc d.assertions k.ingredients.items (b ∷ [])))

-- what the length of the new store is reckoned as
pub reckoned_size :
    (hash : List ℕ → List ℕ) (d : Definition) (k : Carried) (c : Content) (b : NewAssertion) (reserve : ℕ)
    → IsContent hash d k c
    → bound_len c b reserve
    ≡ length (trees_bytes c.carried)
    + (232 + length d.label + (length (trees_bytes (assertion_boxes d.assertions)) + length (trees_bytes (assertion_boxes (k.ingredients.items ++ b ∷ [])))) + length (all_claim (no_digest (new_alg d)) d k.ingredients.items b) + reserve)
reckoned_size hash d k c b reserve is =
    let more : List NewAssertion = k.ingredients.items in
    let blank : List ℕ → List ℕ = no_digest (new_alg d) in
    let message : List ℕ = replicate reserve 0 in
    let all : new_assertions blank (defined d more c) b ≡ all_assertions d more b =
    append_assoc d.assertions more (b ∷ []) in
    let long : bound_len c b reserve ≡ length (tree_bytes (new_store blank (defined d more c) b message)) =
    new_stores_have_one_length (no_digest (new_alg c.definition)) hash c b b message message
    (no_digest_len (new_alg c.definition)) (own_digests hash d k c is) refl refl refl
    ∙ ap (λ (t : Tree). length (tree_bytes t)) (same_store hash d k c b message is)
    ∙ new_stores_have_one_length hash blank (defined d more c) b b message message is.digests (no_digest_len (new_alg d))
    refl refl refl in
    let boxes : length (trees_bytes (assertion_boxes (new_assertions blank (defined d more c) b))) ≡ length (trees_bytes (assertion_boxes (all_assertions d more b))) =
    ap (λ (as_ : List NewAssertion). length (trees_bytes (assertion_boxes as_))) all in
    let claim : length (new_claim blank (defined d more c) b) ≡ length (all_claim blank d more b) =
    ap (λ (as_ : List NewAssertion). length (deterministic (claim_item (claim_with d (map (entry_of blank) as_))))) all in
    omega
    (arith, long, content_size blank (defined d more c) b message, length-replicate {A = ℕ} reserve 0, boxes, claim, both_boxes d.assertions (more ++ b ∷ []))

-- ---- what can be boxed

-- the label of an assertion may be written
abbrev HasWrittenLabel : NewAssertion → Type 0
HasWrittenLabel a = IsWrittenLabel a.label

-- assertions whose labels may be written and whose boxes aren't too large together
each_boxed : (all : List NewAssertion) → All HasWrittenLabel all
    → length (trees_bytes (assertion_boxes all)) ≤ MAX_STORE_LEN → All CanBeBoxed all
each_boxed [] h small = All-nil CanBeBoxed
each_boxed (a ∷ others) h small =
    let both : length (trees_bytes (assertion_boxes (a ∷ others))) ≡ length (tree_bytes (assertion_box a)) + length (trees_bytes (assertion_boxes others)) =
    length-append (tree_bytes (assertion_box a)) (trees_bytes (assertion_boxes others)) in
    All-cons CanBeBoxed a others
    (record { label = All-head HasWrittenLabel a others h; small = omega (arith, both, small) })
    (each_boxed others (All-tail HasWrittenLabel a others h) (omega (arith, both, small)))

-- labels that a definition may have may be written
new_written : (all : List NewAssertion) → AllByRecursion (λ (a : NewAssertion). is_new_label a.label ≡ true) all
    → All HasWrittenLabel all
new_written [] h = All-nil HasWrittenLabel
new_written (a ∷ others) h =
    All-cons HasWrittenLabel a others (written_label a.label (new_label a.label h.0).text) (new_written others h.1)

-- the labels of ingredients may be written
ingredients_written : (hash : List ℕ → List ℕ) (gs : List NewIngredient)
    → AllByRecursion (λ (g : NewIngredient). IsIngredientLabel g.label) gs
    → All HasWrittenLabel (map (ingredient_assertion hash) gs)
ingredients_written hash [] h = All-nil HasWrittenLabel
ingredients_written hash (g ∷ gs) h =
    All-cons HasWrittenLabel (ingredient_assertion hash g) (map (ingredient_assertion hash) gs)
    (ingredient_label g.label h.0) (ingredients_written hash gs h.1)

-- the label of a binding to ranges can be written
data_label : IsWrittenLabel (codes "c2pa.hash.data")
data_label = written_label (codes "c2pa.hash.data") (record { some = lit< tt; named = grind arith })

-- the label of a binding to boxes can be written
bmff_label : IsWrittenLabel (codes "c2pa.hash.bmff.v2")
bmff_label = written_label (codes "c2pa.hash.bmff.v2") (record { some = lit< tt; named = grind arith })

-- a binding's label of a kind that is known can be written
known_label : (l : List ℕ) → IsKnownLabel l → IsWrittenLabel l
known_label l (inl e) = subst IsWrittenLabel (sym e) data_label
known_label l (inr e) = subst IsWrittenLabel (sym e) bmff_label

-- the assertions of a definition, those of ingredients and a binding can be boxed
pub record AreBoxed (d : Definition) (ingredients : List NewAssertion) (b : NewAssertion) : Type 0 where
  pub defined : All CanBeBoxed d.assertions
  pub more : All CanBeBoxed ingredients
  pub last : CanBeBoxed b

-- a store that isn't too large has room for all of them
pub all_boxed :
    (hash : List ℕ → List ℕ) (d : Definition) (k : Carried) (c : Content) (b : NewAssertion) → IsContent hash d k c
    → IsKnownLabel b.label → IsWellFormed d → bound_len c b d.reserve ≤ MAX_STORE_LEN
    → AreBoxed d k.ingredients.items b
all_boxed hash d k c b is known formed small =
    let more : List NewAssertion = k.ingredients.items in
    let size = reckoned_size hash d k c b d.reserve is in
    let own = both_boxes more (b ∷ []) in
    let one : length (trees_bytes (assertion_boxes (b ∷ []))) ≡ length (tree_bytes (assertion_box b)) + 0 =
    length-append (tree_bytes (assertion_box b)) [] in
    let labels : All HasWrittenLabel more =
    subst (All HasWrittenLabel) (sym is.assertions) (ingredients_written hash c.ingredients is.ingredients.labels) in
    record {
      defined = each_boxed d.assertions (new_written d.assertions formed.labels) (omega (arith, size, small));
      more = each_boxed more labels (omega (arith, size, own, small));
      last = record { label = known_label b.label known; small = omega (arith, size, own, one, small) };
    }

-- ---- answers

-- The rules of a new manifest that has ingredients: what they see of its boxes, and that they hold.
use Rattle.std.proofs.Common.{◌≡◌, ◌≢◌, ◌⊎◌, inl, inr, ⊎_elim, ℕ, suc, ◌+◌, ◌<◌, ◌≤◌, Bool, true, false, cond, List, [], ◌∷◌, ◌++◌, length, map, find, not, is_some, ◌||◌, Option, Some, None, Contains, slice_get, refl, sym, ap, ◌∙◌, subst, arith, bytes_eq}
use Rattle.std.specs.Prelude.{filter, filter_map, option_and_then}
use Rattle.std.specs.Bool.{MatchBool}
use Rattle.std.specs.List.{AllByRecursion, AllZip, cons_option}
use Rattle.std.specs.Option.{option_map_or}
use Rattle.std.proofs.lemmas.Bool.{false_from_ne_true, lt-ltb, not_from_true, true≢false}
use Rattle.std.proofs.lemmas.List.{map-append}
use Rattle.std.proofs.lemmas.Slice.Eq.{bytes_eq-Decides}
use Rattle.c2_spec.specs.C2pa.Assertion.{ingredient_of, kind_of}
use Rattle.c2_spec.specs.C2pa.Sign1.{SignParts}
use Rattle.c2_spec.specs.C2pa.Uri as targets
use Rattle.c2_spec.specs.Digest.{alg_name, alg_named}
use Rattle.c2_spec.proofs.Digests.{named_back}
use Rattle.c2_spec.specs.declared.assertion.Ingredient.{Ingredient}
use Rattle.c2_spec.specs.declared.assertion.IngredientVersion.TheVariants.{V3}
use Rattle.c2_spec.specs.declared.digest.Alg.{Alg}
use Rattle.c2_rules.specs.Chains.{child_of, is_touched, label_in, named_by, place_before, place_of}
use Rattle.c2_rules.specs.Ingredients.{assertion_uri, box_version, is_ingredient_kind}
use Rattle.c2_rules.specs.Readings.{IsParsed, IsReadBox, ReadBox, Reading}
use Rattle.c2_rules.specs.Rules.{assertion_box_uri, form_tests, ingredient_tests, has_digest_by, is_parent_word, kind_tests, order_tests, reads_parent, redaction_tests, standing_tests}
use Rattle.c2_rules.specs.Rules as rule
use Rattle.c2_rules.specs.Seen.{Seen, Standing, child_standing, earlier_standing, later, place_standing, signature_contents, standing_of, touched, whole}
use Rattle.c2_rules.specs.Tests.{Test, each}
use Rattle.c2_rules.specs.declared.parsed.Parsed.{Parsed}
use Rattle.c2_rules.specs.declared.parsed.Parsed.TheVariants.{NoItem, Value}
use Rattle.c2_rules.proofs.ListLemmas.{contains_cons, contains_head, contains_none, contains_tail}
use Rattle.c2_definition.specs.declared.types.Definition.{Definition}
use Rattle.c2_definition.specs.declared.types.NewAssertion.{NewAssertion}
use Rattle.c2_new_file_spec.specs.Store.{Content, NewIngredient, ingredient_assertion, new_alg, new_assertions, target_ref, written_ingredient}
use Rattle.c2_new_file_spec.specs.Unbound.{IsKnownLabel}
use Rattle.c2_new_file_spec.specs.Written.{AreIngredients, IsIngredientLabel, LabelsApart, written_assertion}
use Rattle.c2_rules.proofs.Conditions.{Holds}
use Rattle.c2_new_file_spec.proofs.Ingredients.{AreLabelled, good_label}
use Rattle.c2_new_file_spec.proofs.Labels.{IsLabelText, new_label}
use Rattle.c2_new_file_spec.proofs.WrittenStore.{IsNew, own_assertions}
use Rattle.c2_new_file_spec.specs.Less.{AreLess}
use Rattle.c2_new_file_spec.specs.Refusing.{new_claim_uri}
use Rattle.c2_new_file_spec.proofs.Places.{less_len}
use Rattle.c2_new_content_spec.specs.Taken.{IsRoot}
use Rattle.c2_new_content_spec.proofs.Bindings.{by_label}
use Rattle.c2_new_content_spec.proofs.Items.{IsIngredient, ingredient_named, no_binding_reads, whole_named}
use Rattle.c2_new_content_spec.proofs.Less.{less_place}
use Rattle.c2_new_content_spec.proofs.More.{get_front, place_more}
use Rattle.c2_new_content_spec.proofs.NewRules.{IsListed, RestHolds, Said, bindings_of, new_box, new_boxes, new_reading, new_seen}
use Rattle.c2_new_content_spec.proofs.Plain.{boxes_append, listed_each, no_bindings, no_children, no_forms, no_ingredient, none_child, none_parent, none_read}
use Rattle.c2_new_content_spec.proofs.Roots.{HasRoots}
use Rattle.c2_lemmas.proofs.Each.{each_append, each_back, each_front, member_of, zip_append}
use Rattle.c2_lemmas.proofs.Lists.{same_bytes}

-- ---- what boxes are read as

-- the ingredient with a label
abbrev pub with_label : List NewIngredient → List ℕ → Option NewIngredient
with_label gs label = find (λ (g : NewIngredient). bytes_eq g.label label) gs

-- what an ingredient is read as, where there is one
abbrev pub read_some : (List ℕ → List ℕ) → Option NewIngredient → Parsed Ingredient
read_some hash None = NoItem
read_some hash (Some g) = Value (written_ingredient hash g)

-- what the box of a new assertion is read as
abbrev pub read_as : (List ℕ → List ℕ) → List NewIngredient → NewAssertion → Parsed Ingredient
read_as hash gs a = read_some hash (with_label gs a.label)

-- a label of another kind isn't that of an ingredient
pub no_label : (gs : List NewIngredient) (label : List ℕ) → AreLabelled gs → is_ingredient_kind (kind_of label) ≡ false
    → with_label gs label ≡ None
no_label [] label h k = refl
no_label (g ∷ gs) label h k =
    ap (λ b. cond b (Some g) (with_label gs label)) (false_from_ne_true (bytes_eq g.label label) other)
    ∙ no_label gs label h.1 k
  where
    other : bytes_eq g.label label ≡ true → ⊥
    other e =
        true≢false
        (sym (ap is_ingredient_kind (good_label g.label h.0).kind) ∙ ap (λ (l : List ℕ). is_ingredient_kind (kind_of l)) ((bytes_eq-Decides g.label label).0 e) ∙ k)

-- each ingredient is found by its label
pub found : (gs : List NewIngredient) (g : NewIngredient) → LabelsApart gs → Contains gs g
    → with_label gs g.label ≡ Some g
found [] g a c = absurd (contains_none g c)
found (x ∷ xs) g a c = by (λ more. found xs g a.1 more) (contains_cons x g xs c)
  where
    by : (Contains xs g → with_label xs g.label ≡ Some g) → (x ≡ g) ⊎ Contains xs g
        → cond (bytes_eq x.label g.label) (Some x) (with_label xs g.label) ≡ Some g
    by rest (inl same) =
        ap (λ b. cond b (Some x) (with_label xs g.label))
        ((bytes_eq-Decides x.label g.label).1 (ap (λ (y : NewIngredient). y.label) same))
        ∙ ap Some same
    by rest (inr more) =
        ap (λ b. cond b (Some x) (with_label xs g.label))
        (false_from_ne_true (bytes_eq x.label g.label) (λ e. member_of (λ (h : NewIngredient). h.label ≢ x.label) xs g a.0 more (sym ((bytes_eq-Decides x.label g.label).0 e))))
        ∙ rest more

-- the box of an ingredient
abbrev pub ingredient_box : (List ℕ → List ℕ) → NewIngredient → ReadBox
ingredient_box hash g =
    record { boxed = written_assertion (ingredient_assertion hash g); ingredient = Value (written_ingredient hash g) }

-- the boxes of the ingredients and of the binding
abbrev own_tail : (List ℕ → List ℕ) → List NewIngredient → NewAssertion → List ReadBox
own_tail hash gs b = map (ingredient_box hash) gs ++ new_box none_read b ∷ []

-- a definition's assertions are read as no ingredient
plain_boxes : (hash : List ℕ → List ℕ) (gs : List NewIngredient) (ds : List NewAssertion) → AreLabelled gs
    → AllByRecursion IsNew ds → new_boxes (read_as hash gs) ds ≡ new_boxes none_read ds
plain_boxes hash gs [] h k = refl
plain_boxes hash gs (a ∷ ds) h k =
    ap (λ o. record { boxed = written_assertion a; ingredient = read_some hash o } ∷ new_boxes (read_as hash gs) ds)
    (no_label gs a.label h (no_ingredient (kind_of a.label) (new_label a.label k.0).kind))
    ∙ ap (λ (bs : List ReadBox). new_box none_read a ∷ bs) (plain_boxes hash gs ds h k.1)

-- each ingredient is read as it was written
own_boxes : (hash : List ℕ → List ℕ) (gs some : List NewIngredient) → LabelsApart gs
    → ((g : NewIngredient) → Contains some g → Contains gs g)
    → new_boxes (read_as hash gs) (map (ingredient_assertion hash) some) ≡ map (ingredient_box hash) some
own_boxes hash gs [] a in_all = refl
own_boxes hash gs (g ∷ some) a in_all =
    ap
    (λ o. record { boxed = written_assertion (ingredient_assertion hash g); ingredient = read_some hash o } ∷ new_boxes (read_as hash gs) (map (ingredient_assertion hash) some))
    (found gs g a (in_all g (contains_head g some)))
    ∙ ap (λ (bs : List ReadBox). ingredient_box hash g ∷ bs)
    (own_boxes hash gs some a (λ x c. in_all x (contains_tail g x some c)))

-- a binding has no form to keep
binding_forms : (l : List ℕ) → IsKnownLabel l → (standing : List ℕ → Standing) (uri : List ℕ)
    → AllByRecursion Holds (kind_tests standing uri NoItem (kind_of l))
binding_forms =
    by_label
    (λ (l : List ℕ). (standing : List ℕ → Standing) (uri : List ℕ) → AllByRecursion Holds (kind_tests standing uri NoItem (kind_of l)))
    (λ s u. tt) (λ s u. tt)

-- the boxes of the new manifest: the definition's, the ingredients', the binding's
pub split_boxes : (hash : List ℕ → List ℕ) (gs : List NewIngredient) (ds : List NewAssertion) (b : NewAssertion)
    → AreLabelled gs → LabelsApart gs → AllByRecursion IsNew ds → IsKnownLabel b.label
    → new_boxes (read_as hash gs) (ds ++ own_assertions hash gs b) ≡ new_boxes none_read ds ++ (own_tail hash gs b)
split_boxes hash gs ds b h a k known =
    boxes_append (read_as hash gs) ds (own_assertions hash gs b)
    ∙ ap (λ (bs : List ReadBox). bs ++ new_boxes (read_as hash gs) (own_assertions hash gs b))
    (plain_boxes hash gs ds h k)
    ∙ ap (λ (bs : List ReadBox). new_boxes none_read ds ++ bs)
    (boxes_append (read_as hash gs) (map (ingredient_assertion hash) gs) (b ∷ [])
    ∙ ap (λ (bs : List ReadBox). bs ++ new_box (read_as hash gs) b ∷ []) (own_boxes hash gs gs a (λ g c. c))
    ∙ ap
    (λ o. map (ingredient_box hash) gs ++ record { boxed = written_assertion b; ingredient = read_some hash o } ∷ [])
    (no_label gs b.label h (no_binding_reads b.label known)))

-- ---- they are read so

-- what the box of a new assertion is read as, whether or not its kind is that of an ingredient
abbrev ReadsBy : (List ℕ → List ℕ) → List NewIngredient → NewAssertion → Bool → Type 0
ReadsBy hash gs a b =
    MatchBool b
    (IsParsed (ingredient_of (box_version (written_assertion a))) (written_assertion a).item (read_as hash gs a))
    (read_as hash gs a ≡ NoItem)

-- a box of another kind is read as none
none_is_read : (hash : List ℕ → List ℕ) (gs : List NewIngredient) (a : NewAssertion) → AreLabelled gs
    → is_ingredient_kind (kind_of a.label) ≡ false → IsReadBox (written_assertion a) (new_box (read_as hash gs) a)
none_is_read hash gs a h other = record {
  same = refl;
  reads = subst
      (ReadsBy hash gs a)
      (sym other) (ap (read_some hash) (no_label gs a.label h other));
}

-- a definition's are
plain_zip : (hash : List ℕ → List ℕ) (gs : List NewIngredient) (ds : List NewAssertion) → AreLabelled gs
    → AllByRecursion IsNew ds → AllZip IsReadBox (map written_assertion ds) (new_boxes (read_as hash gs) ds)
plain_zip hash gs [] h k = tt
plain_zip hash gs (a ∷ ds) h k =
    (none_is_read hash gs a h (no_ingredient (kind_of a.label) (new_label a.label k.0).kind), plain_zip hash gs ds h k.1)

-- the binding is read as its box
pub binding_read : (hash : List ℕ → List ℕ) (gs : List NewIngredient) (b : NewAssertion) → AreLabelled gs
    → IsKnownLabel b.label → IsReadBox (written_assertion b) (new_box (read_as hash gs) b)
binding_read hash gs b h known = none_is_read hash gs b h (no_binding_reads b.label known)

-- what an ingredient's item is read as
abbrev pub IsRead : (List ℕ → List ℕ) → NewIngredient → Type 0
IsRead hash g = IsIngredient (ingredient_assertion hash g).bytes (written_ingredient hash g)

-- the ingredients are read as their boxes
own_zip : (hash : List ℕ → List ℕ) (gs some : List NewIngredient) → AreLabelled some → LabelsApart gs
    → ((g : NewIngredient) → Contains some g → Contains gs g) → AllByRecursion (IsRead hash) some
    → AllZip IsReadBox (map written_assertion (map (ingredient_assertion hash) some)) (new_boxes (read_as hash gs) (map (ingredient_assertion hash) some))
own_zip hash gs [] h a in_all k = tt
own_zip hash gs (g ∷ some) h a in_all k = (
  record {
    same = refl;
    reads =
        subst
        (ReadsBy hash gs (ingredient_assertion hash g))
        (sym (ap is_ingredient_kind (good_label g.label h.0).kind))
        (subst (λ v. IsParsed (ingredient_of v) (written_assertion (ingredient_assertion hash g)).item (read_as hash gs (ingredient_assertion hash g))) (sym (good_label g.label h.0).version)
        (subst (λ o. IsParsed (ingredient_of V3) (written_assertion (ingredient_assertion hash g)).item (read_some hash o)) (sym (found gs g a (in_all g (contains_head g some)))) (k.0.item, k.0.has, k.0.is)));
  },
  own_zip hash gs some h.1 a (λ x c. in_all x (contains_tail g x some c)) k.1,
)

-- all assertions are read as their boxes
pub boxes_zip : (hash : List ℕ → List ℕ) (gs : List NewIngredient) (ds : List NewAssertion) (b : NewAssertion)
    → AreLabelled gs → LabelsApart gs → AllByRecursion IsNew ds → IsKnownLabel b.label → AllByRecursion (IsRead hash) gs
    → AllZip IsReadBox (map written_assertion (ds ++ own_assertions hash gs b)) (new_boxes (read_as hash gs) (ds ++ own_assertions hash gs b))
boxes_zip hash gs ds b h a k known reads =
    let f : NewAssertion → Parsed Ingredient = read_as hash gs in
    let items : List NewAssertion = map (ingredient_assertion hash) gs in
    subst (λ z. AllZip IsReadBox z (new_boxes f (ds ++ (items ++ b ∷ []))))
    (sym (map-append written_assertion ds (items ++ b ∷ [])))
    (subst (λ (z : List ReadBox). AllZip IsReadBox (map written_assertion ds ++ map written_assertion (items ++ b ∷ [])) z) (sym (boxes_append f ds (items ++ b ∷ [])))
    (zip_append IsReadBox (map written_assertion ds) (map written_assertion (items ++ b ∷ [])) (new_boxes f ds) (new_boxes f (items ++ b ∷ [])) (plain_zip hash gs ds h k)
    (subst (λ z. AllZip IsReadBox z (new_boxes f (items ++ b ∷ []))) (sym (map-append written_assertion items (b ∷ [])))
    (subst (λ (z : List ReadBox). AllZip IsReadBox (map written_assertion items ++ written_assertion b ∷ []) z) (sym (boxes_append f items (b ∷ [])))
    (zip_append IsReadBox (map written_assertion items) (written_assertion b ∷ []) (new_boxes f items) (new_box f b ∷ []) (own_zip hash gs gs h a (λ g c. c) reads) (binding_read hash gs b h known, tt))))))

-- ---- entries

-- the ingredients and the binding can be listed
own_listed : (hash : List ℕ → List ℕ) (gs : List NewIngredient) (b : NewAssertion) → AreLabelled gs → IsListed b
    → AllByRecursion IsListed (own_assertions hash gs b)
own_listed hash [] b h k = (k, tt)
own_listed hash (g ∷ gs) b h k = (
  record { text = (good_label g.label h.0).named; no_cloud = ap rule.is_cloud (good_label g.label h.0).kind; no_other = ap rule.is_other_hash (good_label g.label h.0).kind },
  own_listed hash gs b h.1 k,
)

-- all assertions can be listed
pub all_listed : (hash : List ℕ → List ℕ) (gs : List NewIngredient) (ds : List NewAssertion) (b : NewAssertion)
    → AreLabelled gs → AllByRecursion IsNew ds → IsListed b → AllByRecursion IsListed (ds ++ own_assertions hash gs b)
all_listed hash gs ds b h k l =
    each_append IsListed ds (own_assertions hash gs b) (listed_each ds k) (own_listed hash gs b h l)

-- the binding is the one
own_binding : (hash : List ℕ → List ℕ) (gs : List NewIngredient) (b : NewAssertion) → AreLabelled gs
    → rule.is_binding (kind_of b.label) ≡ true → bindings_of (own_assertions hash gs b) ≡ b.label ∷ []
own_binding hash [] b h k = ap (λ t. cond t (b.label ∷ []) []) k
own_binding hash (g ∷ gs) b h k =
    ap
    (λ t. cond (rule.is_binding t) (g.label ∷ bindings_of (own_assertions hash gs b)) (bindings_of (own_assertions hash gs b)))
    (good_label g.label h.0).kind
    ∙ own_binding hash gs b h.1 k

-- the binding is the one of all assertions
pub one_binding : (hash : List ℕ → List ℕ) (gs : List NewIngredient) (ds : List NewAssertion) (b : NewAssertion)
    → AreLabelled gs → AllByRecursion IsNew ds → rule.is_binding (kind_of b.label) ≡ true
    → bindings_of (ds ++ own_assertions hash gs b) ≡ b.label ∷ []
one_binding hash gs ds b h k l = no_bindings ds (own_assertions hash gs b) k ∙ own_binding hash gs b h l

-- ---- how the ingredients stand

-- an ingredient's manifest, as it stands to the new one
pub record StandsBy (standing : List ℕ → Standing) (g : NewIngredient) : Type 0 where
  pub named : Reading
  pub touched : Bool
  pub is : standing g.of.label ≡ child_standing touched named
  pub signed : signature_contents named ≡ Some g.of.signed
  pub contents : named.manifest.contents ≡ g.of.contents
  pub label : IsLabelText g.of.label

-- a digest of a list by an algorithm that is named is right
named_digest : (hash : Alg → List ℕ → List ℕ) (alg : Alg) (list : List ℕ)
    → has_digest_by hash (alg_named (alg_name alg)) list (hash alg list) ≡ true
named_digest hash alg list =
    ap (λ o. has_digest_by hash o list (hash alg list)) (named_back alg) ∙ same_bytes (hash alg list)

-- a digest of a signature by an algorithm that is named is right
named_signature : (hash : Alg → List ℕ → List ℕ) (alg : Alg) (list : List ℕ)
    → not (has_digest_by hash (alg_named (alg_name alg)) list (hash alg list)) ≡ false
named_signature hash alg list =
    not_from_true (has_digest_by hash (alg_named (alg_name alg)) list (hash alg list)) (named_digest hash alg list)

-- each algorithm is known by its name
named_known : (alg : Alg)
    → (not (is_some (alg_named (alg_name alg))) || not (is_some (alg_named (alg_name alg)))) ≡ false
named_known alg = ap (λ o. not (is_some o) || not (is_some o)) (named_back alg)

-- the rules on what an ingredient says of its manifest, with digests by an algorithm
abbrev says_tests : (Alg → List ℕ → List ℕ) → Alg → Reading → List ℕ → NewIngredient → Standing → List Test
says_tests hash alg r uri g s =
    standing_tests hash r uri (target_ref (hash alg) g.of.label targets.whole g.of.contents)
    (Some (target_ref (hash alg) g.of.label targets.signature g.of.signed)) s

-- the rules on what an ingredient says of its manifest hold, whether it is touched or not
named_holds : (hash : Alg → List ℕ → List ℕ) (f : NewAssertion → Parsed Ingredient) (label : List ℕ) (said : Said)
    (as_ : List NewAssertion) (claim message : List ℕ) (sp : SignParts) (uri : List ℕ) (g : NewIngredient)
    (s : Standing) (named : Reading) (t : Bool)
    → s ≡ child_standing t named → signature_contents named ≡ Some g.of.signed → named.manifest.contents ≡ g.of.contents
    → AllByRecursion Holds (says_tests hash said.alg (new_reading (hash said.alg) f label said as_ claim message sp) uri g s)
named_holds hash f label said as_ claim message sp uri g s named true e signed contents =
    subst
    (λ s. AllByRecursion Holds (says_tests hash said.alg (new_reading (hash said.alg) f label said as_ claim message sp) uri g s))
    (sym (e ∙ ap touched signed))
    (named_known said.alg, (named_signature hash said.alg g.of.signed, tt))
named_holds hash f label said as_ claim message sp uri g s named false e signed contents =
    subst
    (λ s. AllByRecursion Holds (says_tests hash said.alg (new_reading (hash said.alg) f label said as_ claim message sp) uri g s))
    (sym (e ∙ ap (λ o. whole o named.manifest.contents) signed ∙ ap (λ (x : List ℕ). whole (Some g.of.signed) x) contents))
    (named_known said.alg, (named_signature hash said.alg g.of.signed, (named_signature hash said.alg g.of.contents, tt)))

-- the rules on the order of an ingredient's manifest hold, which stands earlier
order_holds : (uri : List ℕ) (s : Standing) (named : Reading) (t : Bool) → s ≡ child_standing t named
    → AllByRecursion Holds (order_tests uri s)
order_holds uri s named true e = subst (λ s. AllByRecursion Holds (order_tests uri s)) (sym e) tt
order_holds uri s named false e = subst (λ s. AllByRecursion Holds (order_tests uri s)) (sym e) tt

-- the rule on the ingredient that a box is read as holds
child_holds : (hash : Alg → List ℕ → List ℕ) (f : NewAssertion → Parsed Ingredient) (label : List ℕ) (said : Said)
    (as_ : List NewAssertion) (claim message : List ℕ) (sp : SignParts) (redacted : List ℕ → Bool)
    (standing : List ℕ → Standing) (g : NewIngredient)
    → StandsBy standing g
    → AllByRecursion Holds (ingredient_tests hash (new_seen (new_reading (hash said.alg) f label said as_ claim message sp) redacted standing) (ingredient_box (hash said.alg) g))
child_holds hash f label said as_ claim message sp redacted standing g h =
    let r : Reading = new_reading (hash said.alg) f label said as_ claim message sp in
    let uri : List ℕ = assertion_box_uri r (Some g.label) in
    subst
    (λ o. AllByRecursion Holds (option_map_or (λ (l : List ℕ). says_tests hash said.alg r uri g (standing l)) o []))
    (sym (whole_named g.of.label h.label))
    (named_holds hash f label said as_ claim message sp uri g (standing g.of.label) h.named h.touched h.is h.signed h.contents)

-- the rule on the form of an ingredient holds
form_holds : (hash : List ℕ → List ℕ) (s : Seen) (g : NewIngredient) → IsIngredientLabel g.label
    → StandsBy s.standing g → AllByRecursion Holds (form_tests s (ingredient_box hash g))
unfolding rule.label_kind
form_holds hash s g is h =
    let uri : List ℕ = assertion_uri (label_in s.own) g.label in
    subst (λ k. AllByRecursion Holds (kind_tests s.standing uri (Value (written_ingredient hash g)) k))
    (sym (good_label g.label is).kind)
    (subst (λ o. AllByRecursion Holds (option_map_or (λ (l : List ℕ). order_tests uri (s.standing l)) o [])) (sym (ingredient_named hash g h.label)) (order_holds uri (s.standing g.of.label) h.named h.touched h.is))

-- box by box
pub each_both : (f : ReadBox → List Test) (k : ℕ) (xs ys : List ReadBox) → AllByRecursion Holds (each (λ k b. f b) k xs)
    → ((j : ℕ) → AllByRecursion Holds (each (λ k b. f b) j ys)) → AllByRecursion Holds (each (λ k b. f b) k (xs ++ ys))
each_both f k [] ys h g = g k
each_both f k (x ∷ xs) ys h g =
    each_append Holds (f x) (each (λ k b. f b) (k + 1) (xs ++ ys))
    (each_front Holds (f x) (each (λ k b. f b) (k + 1) xs) h)
    (each_both f (k + 1) xs ys (each_back Holds (f x) (each (λ k b. f b) (k + 1) xs) h) g)

-- what holds of each ingredient's box holds of all
own_each : (f : ReadBox → List Test) (hash : List ℕ → List ℕ) (P : NewIngredient → Type 0) (k : ℕ)
    (gs : List NewIngredient)
    → ((g : NewIngredient) → P g → AllByRecursion Holds (f (ingredient_box hash g))) → AllByRecursion P gs
    → AllByRecursion Holds (each (λ k b. f b) k (map (ingredient_box hash) gs))
own_each f hash P k [] h p = tt
own_each f hash P k (g ∷ gs) h p =
    each_append Holds (f (ingredient_box hash g)) (each (λ k b. f b) (k + 1) (map (ingredient_box hash) gs)) (h g p.0)
    (own_each f hash P (k + 1) gs h p.1)

-- the parents among ingredients
abbrev parents_among : List NewIngredient → List NewIngredient
parents_among gs = filter (λ (g : NewIngredient). is_parent_word g.relationship) gs

-- as many boxes read as a parent as there are
parents_len : (hash : List ℕ → List ℕ) (gs : List NewIngredient) (b : NewAssertion)
    → length (filter reads_parent (own_tail hash gs b)) ≡ length (parents_among gs)
parents_len hash [] b = refl
parents_len hash (g ∷ gs) b = go (is_parent_word g.relationship) (parents_len hash gs b)
  where
    go : (x : Bool)
        → length (filter reads_parent (own_tail hash gs b)) ≡ length (parents_among gs)
        → length (cond x (ingredient_box hash g ∷ filter reads_parent (own_tail hash gs b)) (filter reads_parent (own_tail hash gs b)))
        ≡ length (cond x (g ∷ parents_among gs) (parents_among gs))
    go true e = ap suc e
    go false e = e

-- an ingredient under its label, and how it stands
record IsFine (standing : List ℕ → Standing) (g : NewIngredient) : Type 0 where
  label : IsIngredientLabel g.label
  stands : StandsBy standing g

-- each is
fine_each : (standing : List ℕ → Standing) (gs : List NewIngredient) → AreLabelled gs
    → AllByRecursion (StandsBy standing) gs → AllByRecursion (IsFine standing) gs
fine_each standing [] h k = tt
fine_each standing (g ∷ gs) h k = (record { label = h.0; stands = k.0 }, fine_each standing gs h.1 k.1)

-- what a claim of a definition says beside the label and the entries
abbrev pub said_by : Definition → Said
said_by d =
    record { instance = d.instance_id; generator = d.generator; title = d.title; alg = new_alg d; redacted = d.redact }

-- the new manifest's reading
abbrev pub gathered_reading : (List ℕ → List ℕ) → Content → NewAssertion → List ℕ → List ℕ → SignParts → Reading
gathered_reading hash c b claim message sp =
    new_reading hash (read_as hash c.ingredients) c.definition.label (said_by c.definition)
    (new_assertions hash c b) claim message sp

-- what is asked of the boxes of the new manifest
pub gathered_rest : (hash : Alg → List ℕ → List ℕ) (c : Content) (b : NewAssertion) (claim message : List ℕ) (sp : SignParts)
    (redacted : List ℕ → Bool) (standing : List ℕ → Standing)
    → AreIngredients c.ingredients → AllByRecursion IsNew c.definition.assertions → IsKnownLabel b.label
    → AllByRecursion (StandsBy standing) c.ingredients
    → AllByRecursion Holds (each (λ k text. redaction_tests c.definition.label (new_claim_uri c.definition.label) text) 0 c.definition.redact)
    → RestHolds hash (new_seen (gathered_reading (hash (new_alg c.definition)) c b claim message sp) redacted standing)
unfolding rule.label_kind
gathered_rest hash c b claim message sp redacted standing are plain known stand redactions =
    let h : List ℕ → List ℕ = hash (new_alg c.definition) in
    let d : Definition = c.definition in
    let gs : List NewIngredient = c.ingredients in
    let r : Reading = gathered_reading h c b claim message sp in
    let s : Seen = new_seen r redacted standing in
    let tail : List ReadBox = own_tail h gs b in
    let split : r.boxes ≡ new_boxes none_read d.assertions ++ tail =
    split_boxes h gs d.assertions b are.labels are.apart plain known in
    let fine : AllByRecursion (IsFine standing) gs = fine_each standing gs are.labels stand in
    let last : AllByRecursion Holds (form_tests s (new_box none_read b)) =
    binding_forms b.label known standing (assertion_uri d.label b.label) in
    record {
      children =
          subst (λ (bs : List ReadBox). AllByRecursion Holds (each (λ k b. ingredient_tests hash s b) 0 bs)) (sym split)
          (each_both (ingredient_tests hash s) 0 (new_boxes none_read d.assertions) tail (no_children hash s 0 d.assertions)
          (λ j. each_both (ingredient_tests hash s) j (map (ingredient_box h) gs) (new_box none_read b ∷ [])
          (own_each (ingredient_tests hash s) h (IsFine standing) j gs (λ g f. child_holds hash (read_as h gs) d.label (said_by d) (new_assertions h c b) claim message sp redacted standing g f.stands) fine)
          (λ i. tt)));
      forms =
          subst (λ (bs : List ReadBox). AllByRecursion Holds (each (λ k b. form_tests s b) 0 bs)) (sym split)
          (each_both (form_tests s) 0 (new_boxes none_read d.assertions) tail (no_forms s 0 d.assertions plain)
          (λ j. each_both (form_tests s) j (map (ingredient_box h) gs) (new_box none_read b ∷ [])
          (own_each (form_tests s) h (IsFine standing) j gs (λ g f. form_holds h s g f.label f.stands) fine)
          (λ i. each_append Holds (form_tests s (new_box none_read b)) [] last tt)));
      redactions = redactions;
      parents = subst (λ (bs : List ReadBox). length bs ≤ 1)
          (sym (ap (filter reads_parent) split ∙ none_parent d.assertions tail))
          (subst (λ n. n ≤ 1) (sym (parents_len h gs b)) are.parents);
    }

-- ---- roots

-- a root's place among what is left
root_place : (redacts : List (List ℕ)) (rs ss : List Reading) (g : NewIngredient) (root : ℕ) → AreLess redacts rs ss
    → IsRoot rs ss g.of root → place_of ss g.of.label ≡ Some root
root_place redacts rs ss g root less h = less_place redacts rs ss g.of.label less ∙ h.place

-- the ingredients name their roots
own_children : (hash : List ℕ → List ℕ) (redacts : List (List ℕ)) (rs ss : List Reading) (b : NewAssertion)
    (gs : List NewIngredient) (roots : List ℕ)
    → AreLess redacts rs ss → AllByRecursion (λ (g : NewIngredient). IsLabelText g.of.label) gs
    → AllZip (λ (g : NewIngredient) root. IsRoot rs ss g.of root) gs roots
    → filter_map (child_of ss (length ss)) (own_tail hash gs b) ≡ roots
own_children hash redacts rs ss b [] [] less u h = refl
own_children hash redacts rs ss b [] (n ∷ ns) less u h = absurd h
own_children hash redacts rs ss b (g ∷ gs) [] less u h = absurd h
own_children hash redacts rs ss b (g ∷ gs) (root ∷ roots) less u h =
    let within : root < length rs = h.0.within in
    let child : place_before (length ss) (option_and_then (place_of ss) (named_by (Some (written_ingredient hash g)))) ≡ Some root =
    ap (λ o. place_before (length ss) (option_and_then (place_of ss) o)) (ingredient_named hash g u.0)
    ∙ ap (place_before (length ss)) (root_place redacts rs ss g root less h.0)
    ∙ ap (λ t. cond t (Some root) None)
    (lt-ltb root (length ss) (omega (arith, within, less_len redacts rs ss less))) in
    ap
    (λ o. cons_option o (filter_map (child_of ss (length ss)) (own_tail hash gs b))) child
    ∙ ap (λ (ns : List ℕ). root ∷ ns) (own_children hash redacts rs ss b gs roots less u.1 h.1)

-- the new manifest has the roots as its children
pub gathered_roots : (hash : List ℕ → List ℕ) (c : Content) (b : NewAssertion) (claim message : List ℕ) (sp : SignParts)
    (roots : List ℕ) (rs ss : List Reading)
    → AreIngredients c.ingredients → AllByRecursion IsNew c.definition.assertions → IsKnownLabel b.label
    → AreLess c.definition.redact rs ss
    → AllByRecursion (λ (g : NewIngredient). IsLabelText g.of.label) c.ingredients
    → AllZip (λ (g : NewIngredient) root. IsRoot rs ss g.of root) c.ingredients roots
    → HasRoots ss (gathered_reading hash c b claim message sp) roots
gathered_roots hash c b claim message sp roots rs ss are plain known less u h =
    ap (filter_map (child_of ss (length ss)))
    (split_boxes hash c.ingredients c.definition.assertions b are.labels are.apart plain known)
    ∙ none_child ss (length ss) c.definition.assertions
    (own_tail hash c.ingredients b)
    ∙ own_children hash c.definition.redact rs ss b c.ingredients roots less u h

-- a root stands earlier than the new manifest
pub root_stands : (redacts : List (List ℕ)) (rs ss : List Reading) (x : Reading) (g : NewIngredient) (root : ℕ)
    → AreLess redacts rs ss → IsLabelText g.of.label → IsRoot rs ss g.of root
    → StandsBy (standing_of (ss ++ x ∷ []) (length rs)) g
root_stands redacts rs ss x g root less u h =
    let all : List Reading = ss ++ x ∷ [] in
    let within : root < length rs = h.within in
    let place : place_of all g.of.label ≡ Some root =
    ⊎_elim (λ e. e ∙ root_place redacts rs ss g root less h)
    (λ e. absurd (cc (e.0, root_place redacts rs ss g root less h))) (place_more ss x g.of.label) in
    record {
      named = h.named;
      touched = is_touched all root;
      is = ap (place_standing all (length rs)) place
          ∙ ap (λ b. cond b (earlier_standing (is_touched all root) (slice_get all root)) later)
          (lt-ltb root (length rs) within)
          ∙ ap (earlier_standing (is_touched all root))
          (get_front ss x root (omega (arith, within, less_len redacts rs ss less)) ∙ h.is_named);
      signed = h.signed;
      contents = h.contents;
      label = u;
    }

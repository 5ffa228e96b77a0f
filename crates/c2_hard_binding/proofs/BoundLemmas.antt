-- What was found of a binding.
use Rattle.std.proofs.Common.{◌≡◌, ◌⊎◌, inl, inr, ℕ, Bool, true, false, not, List, [], ◌∷◌, bytes_eq, Option, Some, None, Result, Ok, Err, IfOk, IsErr, is_some, refl, sym, ap, ◌∙◌, subst}
use Rattle.c2_spec.specs.Cbor.Item.{Item}
use Rattle.c2_spec.specs.Digest.{alg_named}
use Rattle.c2_spec.specs.declared.assertion.FieldError.{FieldError}
use Rattle.c2_spec.specs.declared.assertion.FieldError.TheVariants as field
use Rattle.c2_spec.specs.declared.assertion.Kind.{Kind}
use Rattle.c2_spec.specs.declared.digest.Alg.{Alg}
use Rattle.c2_cover.specs.Covers.{Covered, excluded_of, text_of}
use Rattle.c2_rules.specs.Binding.{Binding, Media, IsItemOf, HasBinding, IsBinding, IsLabelledBinding, binding_label, bound_tests, bound_to_tests, mismatch_code, field_code}
use Rattle.c2_rules.specs.Chains.{label_in}
use Rattle.c2_rules.specs.Ingredients.{assertion_uri}
use Rattle.c2_rules.specs.Readings.{Reading}
use Rattle.c2_rules.specs.Rules.{label_kind, alg_in, has_digest_by, manifest_uri}
use Rattle.c2_rules.specs.Tests.{Test, test, first_failing}
use Rattle.c2_rules.specs.declared.answer.Failing.{Failing}
use Rattle.c2_rules.specs.declared.code.Code.{Code}
use Rattle.c2_rules.specs.declared.code.Code.TheVariants as code
use Rattle.c2_hard_binding.specs.Bindings.{item_with}
use Rattle.c2_hard_binding.proofs.Items.{same_item}
use Rattle.c2_hard_binding.specs.Fields.{IsBindingFields, CoversAs, ReadsTo, code_of, named_alg, named_hash}
use Rattle.c2_hard_binding.specs.Found.{IsFoundBy, IsItemBound, IsBoundAs, IsTextOf}
use Rattle.c2_hard_binding.specs.declared.fields.HardBinding.{HardBinding}
use Rattle.c2_hard_binding.specs.declared.fields.HardBinding.TheVariants.{Data, Bmff}
use Rattle.c2_hard_binding.specs.declared.bound.Bound.{Bound}
use Rattle.c2_hard_binding.specs.declared.bound.Bound.TheVariants.{Fails}
use Rattle.c2_hard_binding.specs.declared.bound.BoundText.{BoundText}

-- ---- what was found

-- a rule fails, and what was found says so
pub found_fails :
    {E : Type 0} (result : Result Bound E) (ts : List Test) (r : Reading) (file : List ℕ)
    (b : Option (Result Binding FieldError)) (f : Failing)
    → Some f ≡ first_failing ts → IfOk result (λ found. found ≡ Fails f) → IfOk result (IsFoundBy ts r file b)
found_fails (Ok o) ts r file b f fails h = subst (IsFoundBy ts r file b) (sym h) fails
found_fails (Err e) ts r file b f fails h = tt

-- ---- the fields of a binding

-- a binding has the algorithm that its fields name
comes_alg : (file : List ℕ) (h : HardBinding) (b : Binding) → IsBindingFields file h b → b.alg ≡ named_alg h
comes_alg file (Data d) b is = ap (λ (x : Binding). x.alg) is
comes_alg file (Bmff h roots) b is = is.3.alg

-- a binding has the digest that its fields name
comes_hash : (file : List ℕ) (h : HardBinding) (b : Binding) → IsBindingFields file h b → b.hash ≡ named_hash h
comes_hash file (Data d) b is = ap (λ (x : Binding). x.hash) is
comes_hash file (Bmff h roots) b is = is.3.hash

-- the rules on a binding, by its algorithm
abbrev by_alg : (hash : Alg → List ℕ → List ℕ) (uri : List ℕ) (kind : Kind) (b : Binding) → Option Alg → List Test
by_alg hash uri kind b alg =
    test (not (is_some alg)) code.AlgorithmUnsupported uri ∷ test (not b.in_order) code.ProfileHashForm uri ∷ test
    (not (has_digest_by hash alg b.text b.hash)) (mismatch_code kind) uri ∷ []

-- the rules on a binding whose algorithm is known: by the order of its ranges and by its digest
abbrev with_alg : (uri : List ℕ) (kind : Kind) → Bool → Bool → List Test
with_alg uri kind in_order same =
    test (not true) code.AlgorithmUnsupported uri ∷ test (not in_order) code.ProfileHashForm uri ∷ test (not same)
    (mismatch_code kind) uri ∷ []

-- the algorithm that was looked up is that of the binding
found_alg : (r : Reading) (file : List ℕ) (h : HardBinding) (b : Binding) (named : Option (List ℕ)) (o : Option Alg)
    → IsBindingFields file h b → named ≡ named_alg h → o ≡ alg_named (alg_in r named) → o ≡ alg_named (alg_in r b.alg)
found_alg r file h b named o comes same is =
    is ∙ ap (λ (x : Option (List ℕ)). alg_named (alg_in r x)) (same ∙ sym (comes_alg file h b comes))

-- the algorithm is unknown
pub alg_unknown :
    (hash : Alg → List ℕ → List ℕ) (r : Reading) (uri : List ℕ) (kind : Kind) (file : List ℕ) (h : HardBinding)
    (b : Binding) (named : Option (List ℕ)) (o : Option Alg)
    → IsBindingFields file h b → named ≡ named_alg h → o ≡ alg_named (alg_in r named) → o ≡ None
    → Some (record { code = code.AlgorithmUnsupported; uri = uri }) ≡ first_failing (bound_tests hash r uri kind (Ok b))
alg_unknown hash r uri kind file h b named o comes same is none =
    sym
    (ap (λ (x : Option Alg). first_failing (by_alg hash uri kind b x)) (sym (found_alg r file h b named o comes same is) ∙ none))

-- where the algorithm of a binding is known, the order of its ranges and its digest are left
known :
    (hash : Alg → List ℕ → List ℕ) (r : Reading) (uri : List ℕ) (kind : Kind) (file : List ℕ) (h : HardBinding)
    (b : Binding) (named : Option (List ℕ)) (o : Option Alg) (alg : Alg)
    → IsBindingFields file h b → named ≡ named_alg h → o ≡ alg_named (alg_in r named) → o ≡ Some alg
    → first_failing (bound_tests hash r uri kind (Ok b)) ≡ first_failing (with_alg uri kind b.in_order (bytes_eq (hash alg b.text) b.hash))
known hash r uri kind file h b named o alg comes same is some =
    ap (λ (x : Option Alg). first_failing (by_alg hash uri kind b x))
    (sym (found_alg r file h b named o comes same is) ∙ some)

-- the ranges aren't in order
pub disordered :
    (hash : Alg → List ℕ → List ℕ) (r : Reading) (uri : List ℕ) (kind : Kind) (file : List ℕ) (h : HardBinding)
    (b : Binding) (named : Option (List ℕ)) (o : Option Alg) (alg : Alg)
    → IsBindingFields file h b → named ≡ named_alg h → o ≡ alg_named (alg_in r named) → o ≡ Some alg
    → b.in_order ≡ false
    → Some (record { code = code.ProfileHashForm; uri = uri }) ≡ first_failing (bound_tests hash r uri kind (Ok b))
disordered hash r uri kind file h b named o alg comes same is some out =
    sym
    (known hash r uri kind file h b named o alg comes same is some ∙ ap (λ (t : Bool). first_failing (with_alg uri kind t (bytes_eq (hash alg b.text) b.hash))) out)

-- the digest of the cover tells whether that of the binding is the same
told :
    (hash : Alg → List ℕ → List ℕ) (alg : Alg) (file : List ℕ) (h : HardBinding) (b : Binding) (c : Covered)
    (digest hashed : List ℕ) (is_same : Bool)
    → IsBindingFields file h b → CoversAs file b c → digest ≡ hash alg (text_of c file) → hashed ≡ named_hash h
    → is_same ≡ bytes_eq digest hashed
    → bytes_eq (hash alg b.text) b.hash ≡ is_same
told hash alg file h b c digest hashed is_same comes covers digested named is =
    sym
    (is ∙ ap (λ (x : List ℕ). bytes_eq x hashed) (digested ∙ ap (hash alg) covers.text) ∙ ap (bytes_eq (hash alg b.text)) (named ∙ sym (comes_hash file h b comes)))

-- what fails where the ranges are in order, by whether the digest is the same
pub digested : (hash : Alg → List ℕ → List ℕ) (r : Reading) (uri : List ℕ) (kind : Kind) (file : List ℕ) (h : HardBinding) (b : Binding) (named : Option (List ℕ)) (o : Option Alg) (alg : Alg) (c : Covered) (digest hashed : List ℕ) (is_same : Bool)
    → IsBindingFields file h b → named ≡ named_alg h → o ≡ alg_named (alg_in r named) → o ≡ Some alg → CoversAs file b c
    → digest ≡ hash alg (text_of c file) → hashed ≡ named_hash h → is_same ≡ bytes_eq digest hashed
    → first_failing (bound_tests hash r uri kind (Ok b)) ≡ first_failing (with_alg uri kind true is_same)
digested hash r uri kind file h b named o alg c digest hashed is_same comes same is some covers made hash_named compared =
    known hash r uri kind file h b named o alg comes same is some
    ∙ ap (λ (t : Bool). first_failing (with_alg uri kind t (bytes_eq (hash alg b.text) b.hash))) covers.in_order
    ∙ ap (λ (t : Bool). first_failing (with_alg uri kind true t))
    (told hash alg file h b c digest hashed is_same comes covers made hash_named compared)

-- the digest is another
pub digest_other : (ts : List Test) (uri : List ℕ) (kind : Kind) (is_same : Bool) (said : Code)
    → first_failing ts ≡ first_failing (with_alg uri kind true is_same) → is_same ≡ false → said ≡ mismatch_code kind
    → Some (record { code = said; uri = uri }) ≡ first_failing ts
digest_other ts uri kind is_same said left differs named =
    ap (λ (x : Code). Some (record { code = x; uri = uri })) named
    ∙ sym (left ∙ ap (λ (t : Bool). first_failing (with_alg uri kind true t)) differs)

-- the digest is the same
pub digest_same : (ts : List Test) (uri : List ℕ) (kind : Kind) (is_same : Bool)
    → first_failing ts ≡ first_failing (with_alg uri kind true is_same) → is_same ≡ true → None ≡ first_failing ts
digest_same ts uri kind is_same left same =
    sym (left ∙ ap (λ (t : Bool). first_failing (with_alg uri kind true t)) same)

-- the text of the binding
pub text_is :
    (r : Reading) (file : List ℕ) (h : HardBinding) (b : Binding) (t : BoundText) (c : Covered)
    (named : Option (List ℕ)) (name alg : List ℕ)
    → IsBindingFields file h b → CoversAs file b c → named ≡ named_alg h → name ≡ alg_in r named → alg ≡ name
    → t.cover ≡ c → t.alg ≡ alg → IsTextOf r file b t
text_is r file h b t c named name alg comes covers same is copied covered kept = record {
  excluded = ap (λ (x : Covered). excluded_of x) covered ∙ covers.excluded;
  text = ap (λ (x : Covered). text_of x file) covered ∙ covers.text;
  alg = kept ∙ copied ∙ is ∙ ap (alg_in r) (same ∙ sym (comes_alg file h b comes));
}

-- ---- an item

-- the fields were read
pub read_fields : {E : Type 0} (hash : Alg → List ℕ → List ℕ) (r : Reading) (uri : List ℕ) (kind : Kind) (file : List ℕ)
    (p : Result HardBinding FieldError) (h : HardBinding) (b : Result Binding FieldError) (result : Result Bound E)
    → p ≡ Ok h → IfOk p (λ x. code_of x ≡ mismatch_code kind) → ReadsTo file p b
    → ((x : Binding) → code_of h ≡ mismatch_code kind → IsBindingFields file h x → IfOk result (IsItemBound hash r uri kind file (Ok x)))
    → IfOk result (IsItemBound hash r uri kind file b)
read_fields {E} hash r uri kind file p h b result is coded reads found =
    let there = subst (λ (x : Result HardBinding FieldError). ReadsTo file x b) is reads in
    let same = subst (λ (x : Result HardBinding FieldError). IfOk x (λ y. code_of y ≡ mismatch_code kind)) is coded in
    subst (λ (x : Result Binding FieldError). IfOk result (IsItemBound hash r uri kind file x)) (sym there.1)
    (found there.0 same there.2)

-- a field is refused
pub read_refused :
    {E F : Type 0} (hash : Alg → List ℕ → List ℕ) (r : Reading) (uri : List ℕ) (kind : Kind) (file : List ℕ)
    (p : Result HardBinding FieldError) (e : FieldError) (o : Result Code F) (said : Code)
    (b : Result Binding FieldError) (result : Result Bound E)
    → p ≡ Err e → ReadsTo file p b
    → (e ≡ field.NoMemory → IsErr o) → o ≡ Ok said → said ≡ field_code e
    → IfOk result (λ found. found ≡ Fails (record { code = said; uri = uri }))
    → IfOk result (IsItemBound hash r uri kind file b)
read_refused {E} {F} hash r uri kind file p e o said b result is reads memory some coded h = by (subst (λ (x : Result HardBinding FieldError). ReadsTo file x b) is reads)
  where
    by : (e ≡ field.NoMemory) ⊎ (b ≡ Err e) → IfOk result (IsItemBound hash r uri kind file b)
    by (inl out) = absurd (let no = subst (λ (x : Result Code F). IsErr x) some (memory out) in cc (no))
    by (inr refused) =
        subst (λ (x : Result Binding FieldError). IfOk result (IsItemBound hash r uri kind file x)) (sym refused)
        (found_fails result (bound_tests hash r uri kind (Err e)) r file (Some (Err e)) (record { code = said; uri = uri }) (ap (λ (x : Code). Some (record { code = x; uri = uri })) coded) h)

-- ---- the binding of a manifest

-- what was found by the rules on a binding with this label, or with none
abbrev BoundTo : (hash : Alg → List ℕ → List ℕ) → Reading → List ℕ → Option (Result Binding FieldError)
    → Option (List ℕ) → Bound → Type 0
BoundTo hash r file b label found = IsFoundBy (bound_to_tests hash r b label) r file b found

-- what was found of a binding, by its label
by_label :
    {E : Type 0} (hash : Alg → List ℕ → List ℕ) (r : Reading) (file : List ℕ) (o : Option (List ℕ))
    (b : Option (Result Binding FieldError)) (result : Result Bound E)
    → binding_label r ≡ o → IfOk result (BoundTo hash r file b o) → IfOk result (IsBoundAs hash r file b)
by_label {E} hash r file o b result is h =
    subst (λ (o : Option (List ℕ)). IfOk result (BoundTo hash r file b o)) (sym is) h

-- the binding has an item: the rules on it decide
pub bound_item : {E : Type 0}
    → (hash : Alg → List ℕ → List ℕ) (media : Media) (r : Reading) (file : List ℕ) (label : List ℕ) (payload : Option (List ℕ)) (o : Option Item) (v : Item) (b : Option (Result Binding FieldError)) (result : Result Bound E)
    → binding_label r ≡ Some label → payload ≡ item_with r label → IsItemOf payload o → o ≡ Some v
    → ((x : Result Binding FieldError) → IsBinding media (label_kind label) v x → IfOk result (IsItemBound hash r (assertion_uri (label_in r) label) (label_kind label) file x))
    → HasBinding media r b → IfOk result (IsBoundAs hash r file b)
bound_item {E} hash media r file label payload o v b result is same read some h has =
    by_label hash r file (Some label) b result is
    (by b (same_item media r label payload (Some v) b is same (subst (λ (x : Option Item). IsItemOf payload x) some read) has))
  where
    by : (p : Option (Result Binding FieldError)) → IsLabelledBinding media (Some label) (Some v) p
        → IfOk result (BoundTo hash r file p (Some label))
    by None k = absurd k
    by (Some x) k = h x k

-- the binding has no item
pub bound_no_item : {E : Type 0}
    → (hash : Alg → List ℕ → List ℕ) (media : Media) (r : Reading) (file : List ℕ) (label : List ℕ) (payload : Option (List ℕ)) (o : Option Item) (b : Option (Result Binding FieldError)) (result : Result Bound E)
    → binding_label r ≡ Some label → payload ≡ item_with r label → IsItemOf payload o → o ≡ None
    → IfOk result (λ found. found ≡ Fails (record { code = code.AssertionCborInvalid; uri = assertion_uri (label_in r) label }))
    → HasBinding media r b → IfOk result (IsBoundAs hash r file b)
bound_no_item {E} hash media r file label payload o b result is same read none h has =
    let nothing : b ≡ None =
    same_item media r label payload None b is same (subst (λ (x : Option Item). IsItemOf payload x) none read) has in
    by_label hash r file (Some label) b result is
    (subst (λ (p : Option (Result Binding FieldError)). IfOk result (BoundTo hash r file p (Some label))) (sym nothing)
    (found_fails result (bound_to_tests hash r None (Some label)) r file None (record { code = code.AssertionCborInvalid; uri = assertion_uri (label_in r) label }) refl h))

-- the manifest has no binding
pub unbound :
    {E : Type 0} (hash : Alg → List ℕ → List ℕ) (r : Reading) (file : List ℕ) (o : Option (List ℕ))
    (b : Option (Result Binding FieldError)) (result : Result Bound E)
    → o ≡ None → o ≡ binding_label r
    → IfOk result (λ found. found ≡ Fails (record { code = code.AssertionCborInvalid; uri = manifest_uri r }))
    → IfOk result (IsBoundAs hash r file b)
unbound {E} hash r file o b result none is h =
    by_label hash r file None b result (sym is ∙ none)
    (found_fails result (bound_to_tests hash r b None) r file b (record { code = code.AssertionCborInvalid; uri = manifest_uri r }) refl h)

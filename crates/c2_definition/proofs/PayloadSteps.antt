-- Whether the bytes of new assertions are for their content boxes.
use Rattle.std.proofs.Common.{◌≡◌, ◌↔◌, ℕ, ◌+◌, ◌<◌, Bool, true, false, List, length, drop, get_or, Option, Some, None, refl, sym, ap, subst, ◌∙◌, Result, IfOk, if◌then◌else◌, ◌≤◌}
use Rattle.std.specs.List.{AllByRecursion}
use Rattle.std.proofs.lemmas.Bool.{iff_false, false_from_ne_true}
use Rattle.std.proofs.lemmas.List.{drop_all}
use Rattle.serde_json.specs.Data.{Data}
use Rattle.c2_definition.specs.declared.types.NewAssertion.{NewAssertion}
use Rattle.c2_base.specs.declared.outside.NoMemory.{NoMemory}
use Rattle.c2_definition.specs.declared.types.Payload.TheVariants as payload
use Rattle.c2_definition.specs.DefinitionFile.{IsWholeItem, IsPayload, HasPayload, HavePayloads, assertions_in}
use Rattle.c2_lemmas.proofs.Lists.{drop_first}

-- all of a list are for their boxes exactly where those from a place on are
abbrev pub AllFrom : List NewAssertion → ℕ → Type 0
AllFrom list i = AllByRecursion HasPayload list ↔ AllByRecursion HasPayload (drop i list)

-- if those are, the one there and those behind it are
apart : (list : List NewAssertion) (i : ℕ) (a : NewAssertion) → i < length list → a ≡ get_or list i a
    → AllByRecursion HasPayload (drop i list) → HasPayload a × AllByRecursion HasPayload (drop (i + 1) list)
apart list i a lt at all = subst (AllByRecursion HasPayload) (drop_first list i a lt at) all

-- where a new assertion and those behind it have their payloads, all from it on have
together : (list : List NewAssertion) (i : ℕ) (a : NewAssertion) → i < length list → a ≡ get_or list i a
    → HasPayload a → AllByRecursion HasPayload (drop (i + 1) list) → AllByRecursion HasPayload (drop i list)
together list i a lt at has rest = subst (AllByRecursion HasPayload) (sym (drop_first list i a lt at)) (has, rest)

-- one more is
pub all_next : (list : List NewAssertion) (i : ℕ) (a : NewAssertion) (t : Bool) → i < length list → a ≡ get_or list i a
    → AllFrom list i
    → (t ≡ true) ↔ HasPayload a → t ≡ true → AllFrom list (i + 1)
all_next list i a t lt at so_far told is = (
  λ all. (apart list i a lt at (so_far.0 all)).1,
  λ rest. so_far.1 (together list i a lt at (told.0 is) rest),
)

-- one isn't
pub not_all : (list : List NewAssertion) (i : ℕ) (a : NewAssertion) (t : Bool) → i < length list → a ≡ get_or list i a
    → AllFrom list i
    → (t ≡ true) ↔ HasPayload a → t ≡ false → (false ≡ true) ↔ AllByRecursion HasPayload list
not_all list i a t lt at so_far told none = (
  λ bad. absurd (cc (bad)),
  λ all. absurd (iff_false told none (apart list i a lt at (so_far.0 all)).0),
)

-- all are
pub all_done : (list : List NewAssertion) (i : ℕ) → length list ≤ i → AllFrom list i
    → (true ≡ true) ↔ AllByRecursion HasPayload list
all_done list i end so_far =
    (λ e. so_far.1 (subst (AllByRecursion HasPayload) (sym (drop_all i list end)) tt), λ all. refl)

-- ---- what is told of an object

-- without new assertions none is answered
pub none_listed : (v : Data) (payloads : Bool) → None ≡ assertions_in v
    → ◌≡◌ {A = Option (List NewAssertion)} None (if payloads then assertions_in v else None)
none_listed v true none = none
none_listed v false none = refl

-- where all are for their boxes this is told, and the list is answered
pub listed : (v : Data) (payloads : Bool) (list : List NewAssertion) (t : Bool) → (payloads ≡ true) ↔ HavePayloads v
    → Some list ≡ assertions_in v
    → (t ≡ true) ↔ AllByRecursion HasPayload list → t ≡ true → Some list ≡ (if payloads then assertions_in v else None)
listed v payloads list t told is all_told all =
    let have : HavePayloads v =
    λ other at. subst (AllByRecursion HasPayload) (same_list list other (is ∙ at)) (all_told.0 all) in
    is ∙ sym (ap (λ b. if b then assertions_in v else None) (told.1 have))
  where
    same_list : (xs ys : List NewAssertion) → Some xs ≡ Some ys → xs ≡ ys
    same_list xs ys e = cc (e)

-- where one isn't that is told, and none is answered
pub not_listed : (v : Data) (payloads : Bool) (list : List NewAssertion) (t : Bool) → (payloads ≡ true) ↔ HavePayloads v
    → Some list ≡ assertions_in v
    → (t ≡ true) ↔ AllByRecursion HasPayload list → t ≡ false
    → ◌≡◌ {A = Option (List NewAssertion)} None (if payloads then assertions_in v else None)
not_listed v payloads list t told is all_told none =
    let wrong : payloads ≡ true → ⊥ = λ e. iff_false all_told none (told.0 e list (sym is)) in
    sym (ap (λ b. if b then assertions_in v else None) (false_from_ne_true payloads wrong))

-- ---- the bytes of one

-- what is told of bytes is told of a new assertion with the box `cbor`
pub of_cbor : (a : NewAssertion) (s : List ℕ) (r : Result Bool NoMemory) → a.kind ≡ payload.Cbor → s ≡ a.bytes
    → IfOk r (λ t. (t ≡ true) ↔ IsWholeItem s) → IfOk r (λ t. (t ≡ true) ↔ HasPayload a)
of_cbor a s r kind same told =
    subst (λ k. IfOk r (λ t. (t ≡ true) ↔ IsPayload k a.bytes)) (sym kind)
    (subst (λ u. IfOk r (λ t. (t ≡ true) ↔ IsWholeItem u)) same told)

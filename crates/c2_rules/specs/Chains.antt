-- Which manifests of a store are reached from its active one, and what is redacted in them (C2PA Technical Specification 2.x,
-- "Ingredient" and "Redaction of assertions"). Manifests are meant by their places in the store; the last is the active one.
--
-- Each notion stands here as a relation, and then as the test by which the rules go.
use Rattle.std.specs.Prelude.{◌≡◌, ℕ, zero, suc, ◌+◌, ◌-◌, ◌<◌, nat_lt, nat_eq, ◌==◌, Bool, false, ◌&&◌, ◌||◌, List, [], Option, Some, None, length, slice_get, position, bytes_eq, Contains, option_and_then, filter_map, if◌then◌else◌}
use Rattle.std.specs.List.{list_any}
use Rattle.c2_spec.specs.C2pa.Assertion.{manifest_named}
use Rattle.c2_spec.specs.C2pa.Manifest.{Manifest, is_given}
use Rattle.c2_spec.specs.C2pa.Uri.{PlainUri, PlainTarget, whole, assertion, signature, other, uri_of}
use Rattle.c2_spec.specs.declared.assertion.Ingredient.{Ingredient}
use Rattle.c2_spec.specs.declared.cbor.Ref.{Ref}
use Rattle.c2_rules.specs.Ingredients.{label_text}
use Rattle.c2_rules.specs.Questions.{is_own_label}
use Rattle.c2_rules.specs.Readings.{ReadBox, Reading, value_in, entries_in, redactions_in}

-- ---- labels

-- a manifest's label
abbrev pub label_in : Reading → List ℕ
label_in r = label_text r.manifest

-- two manifests of a store have different labels
abbrev pub LabelsDiffer : List Reading → Type 0
LabelsDiffer rs =
    (i j : ℕ) (r s : Reading) → slice_get rs i ≡ Some r → slice_get rs j ≡ Some s
    → label_in r ≡ label_in s → i ≡ j

-- the place of the manifest with this label
abbrev pub place_of : List Reading → List ℕ → Option ℕ
place_of rs label = position (λ (r : Reading). bytes_eq (label_in r) label) rs

-- ---- children

-- the label of the manifest that an ingredient names
abbrev pub named_by : Option Ingredient → Option (List ℕ)
named_by None = None
named_by (Some g) = option_and_then (λ (ref : Ref). manifest_named ref.url) g.manifest

-- the label of the manifest that an assertion box names, where it is read as an ingredient
abbrev pub named_in : ReadBox → Option (List ℕ)
named_in b = named_by (value_in b.ingredient)

-- `m` is a child of `n`: it stands earlier, and an assertion box of `n` is read as an ingredient that names it.
pub record IsChild (rs : List Reading) (n m : ℕ) : Type 0 where
  pub earlier : m < n
  pub user : Reading
  pub is_user : slice_get rs n ≡ Some user
  pub box : ReadBox
  pub has_box : Contains user.boxes box
  pub child : Reading
  pub is_child : slice_get rs m ≡ Some child
  pub names : named_in box ≡ Some (label_in child)

-- the place of the child that this box of the manifest at `n` names
abbrev pub place_before : ℕ → Option ℕ → Option ℕ
place_before n None = None
place_before n (Some m) = if nat_lt m n then Some m else None

-- the place of the child that this box of the manifest at `n` names, or none where it names no child
abbrev pub child_of : List Reading → ℕ → ReadBox → Option ℕ
child_of rs n b = place_before n (option_and_then (place_of rs) (named_in b))

-- the assertion boxes of a manifest; none where there is no manifest
abbrev pub boxes_of : Option Reading → List ReadBox
boxes_of None = []
boxes_of (Some r) = r.boxes

-- the assertion boxes of the manifest at place `n`
abbrev pub boxes_at : List Reading → ℕ → List ReadBox
boxes_at rs n = boxes_of (slice_get rs n)

-- the children of the manifest at `n`, box by box
abbrev pub children : List Reading → ℕ → List ℕ
children rs n = filter_map (child_of rs n) (boxes_at rs n)

-- ---- what is reached

-- `m` is reached from `n` by one or more child steps.
pub data Reaches (rs : List Reading) : ℕ → ℕ → Type 0 where
  child : (n m : ℕ) → IsChild rs n m → Reaches rs n m
  through : (n c m : ℕ) → IsChild rs n c → Reaches rs c m → Reaches rs n m

-- `n` is reached: it is the active manifest, or a reached one has it as a child. Nothing else is.
pub data Reached (rs : List Reading) : ℕ → Type 0 where
  active : (n : ℕ) → n + 1 ≡ length rs → Reached rs n
  below : (n m : ℕ) → Reached rs n → IsChild rs n m → Reached rs m

-- one child step, or one and then fewer than `steps`
abbrev pub reaches_within : List Reading → ℕ → ℕ → ℕ → Bool
reaches_within rs zero n m = false
reaches_within rs (suc steps) n m =
    list_any (λ c. nat_eq c m || reaches_within rs steps c m) (children rs n)

-- a path from `n` has at most `n` steps, since each child stands earlier
abbrev pub reaches : List Reading → ℕ → ℕ → Bool
reaches rs n m = reaches_within rs (n + 1) n m

-- the last manifest is the active one
abbrev pub is_active : List Reading → ℕ → Bool
is_active rs n = n + 1 == length rs

-- the manifest at `n` is reached
abbrev pub is_reached : List Reading → ℕ → Bool
is_reached rs n = is_active rs n || reaches rs (length rs - 1) n

-- ---- what is redacted

-- the label of an assertion that a URI has as its target
abbrev pub assertion_label : PlainTarget → Option (List ℕ)
assertion_label whole = None
assertion_label (assertion label) = Some label
assertion_label signature = None
assertion_label (other path) = None

-- this URI, of a redaction, names the assertion with this label in the manifest with this one
abbrev pub names_assertion : List ℕ → List ℕ → Option PlainUri → Bool
names_assertion manifest label None = false
names_assertion manifest label (Some u) =
    is_given u.manifest manifest && is_given (assertion_label u.target) label

-- the test passes at some place below `n`
abbrev pub any_below : (ℕ → Bool) → ℕ → Bool
any_below passes zero = false
any_below passes (suc n) = passes n || any_below passes n

-- This label is redacted in the manifest at `m`: the claim of a reached manifest, from which `m` is reached, redacts the assertion
-- with this label by an absolute URI.
pub record IsRedacted (rs : List Reading) (m : ℕ) (label : List ℕ) : Type 0 where
  pub place : ℕ
  pub reached : Reached rs place
  pub reaches : Reaches rs place m
  pub redactor : Reading
  pub at_place : slice_get rs place ≡ Some redactor
  pub text : List ℕ
  pub lists : Contains (redactions_in redactor) text
  pub target : Reading
  pub at_target : slice_get rs m ≡ Some target
  pub names : uri_of text ≡ Some
      (record { manifest = Some (label_in target); target = assertion label })

-- the claim of a manifest redacts this label in another
abbrev pub redacts : Option Reading → Option Reading → List ℕ → Bool
redacts None target label = false
redacts (Some r) None label = false
redacts (Some r) (Some target) label =
    list_any (λ (text : List ℕ). names_assertion (label_in target) label (uri_of text))
    (redactions_in r)

-- this label is redacted in the manifest at `m`
abbrev pub is_redacted : List Reading → ℕ → List ℕ → Bool
is_redacted rs m label =
    any_below
    (λ n. is_reached rs n && reaches rs n m && redacts (slice_get rs n) (slice_get rs m) label)
    (length rs)

-- ---- what is touched

-- the label of an assertion that a URI names in the manifest with this label
abbrev pub own_assertion : Option (List ℕ) → Option PlainUri → Option (List ℕ)
own_assertion own None = None
own_assertion own (Some u) = if is_own_label own u.manifest then assertion_label u.target else None

-- the label that an entry of this manifest's claim lists
abbrev pub entry_label : Manifest → Ref → Option (List ℕ)
entry_label m e = own_assertion m.label (uri_of e.url)

-- The manifest at `m` is touched: its claim lists a label that is redacted in it.
pub record IsTouched (rs : List Reading) (m : ℕ) : Type 0 where
  pub touched : Reading
  pub at_place : slice_get rs m ≡ Some touched
  pub entry : Ref
  pub lists : Contains (entries_in touched) entry
  pub label : List ℕ
  pub is_label : entry_label touched.manifest entry ≡ Some label
  pub redacted : IsRedacted rs m label

-- there is a value, and the test passes for it
abbrev pub passes_some : {A : Type 0} → (A → Bool) → Option A → Bool
passes_some passes None = false
passes_some passes (Some x) = passes x

-- a manifest at `m` has a claim that lists a label which is redacted there
abbrev pub lists_redacted : List Reading → ℕ → Option Reading → Bool
lists_redacted rs m None = false
lists_redacted rs m (Some r) =
    list_any (λ (e : Ref). passes_some (is_redacted rs m) (entry_label r.manifest e)) (entries_in r)

-- the manifest at `m` is touched
abbrev pub is_touched : List Reading → ℕ → Bool
is_touched rs m = lists_redacted rs m (slice_get rs m)

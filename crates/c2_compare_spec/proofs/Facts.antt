-- What is used of accepted files: of the box tree, and of the rules of their reached manifests. Nothing else
-- of the check list enters the laws on binding.
use Rattle.std.proofs.Common.{◌≡◌, ◌≢◌, ℕ, ◌+◌, ◌<◌, Bool, true, false, List, [], length, Option, Some, None, Ok, Contains, slice_get}
use Rattle.c2_base.specs.declared.values.Question.{Question}
use Rattle.c2_spec.specs.C2pa.Manifest.{Superbox}
use Rattle.c2_spec.specs.C2pa.Sign1.{SignParts, SpellsMessage, question_of}
use Rattle.c2_spec.specs.C2pa.Uri.{assertion, uri_of}
use Rattle.c2_spec.specs.Cbor.Fields.{HasItem}
use Rattle.c2_spec.specs.Cbor.Item.{Item}
use Rattle.c2_spec.specs.Digest.{alg_named}
use Rattle.c2_spec.specs.declared.assertion.Ingredient.{Ingredient}
use Rattle.c2_spec.specs.declared.assertion.Kind.{Kind}
use Rattle.c2_spec.specs.declared.assertion.Kind.TheVariants as kinds
use Rattle.c2_spec.specs.declared.cbor.Ref.{Ref}
use Rattle.c2_spec.specs.declared.claim.Claim.{Claim}
use Rattle.c2_spec.specs.declared.digest.Alg.{Alg}
use Rattle.c2_spec.specs.declared.panel.Verdict.{Verdict}
use Rattle.c2_spec.specs.declared.panel.Verdict.TheVariants.{Approved}
use Rattle.c2_rules.specs.Binding.{Binding, Media, IsBinding, binding_value}
use Rattle.c2_rules.specs.Chains.{label_in, named_by, entry_label, LabelsDiffer, is_reached, is_redacted}
use Rattle.c2_rules.specs.CheckList.{StoreReading}
use Rattle.c2_rules.specs.Ingredients.{is_ingredient_kind}
use Rattle.c2_rules.specs.Readings.{ReadBox, Reading, IsReading, value_in, claim_in, entries_in, redactions_in}
use Rattle.c2_rules.specs.Rules.{alg_in, box_with, is_binding, label_kind}
use Rattle.c2_compare_spec.specs.ChainContent.{claim_bytes_of}
use Rattle.c2_compare_spec.specs.Evidence.{ListPair, IsReal}
use Rattle.c2_compare_spec.specs.Lists.{IsListIn}

-- ---- the box tree

-- Manifests are there and have different labels that aren't empty; a box of a manifest is the one with its
-- label; all is read.
pub record TreeFacts (rs : List Reading) : Type 0 where
  pub some : 0 < length rs
  pub differ : LabelsDiffer rs
  pub named : (n : ℕ) (r : Reading) → slice_get rs n ≡ Some r → label_in r ≢ []
  pub one_box : (n : ℕ) (r : Reading) → slice_get rs n ≡ Some r → (b : ReadBox) → Contains r.boxes b
      → (label : List ℕ) → b.boxed.label ≡ Some label → box_with r label ≡ Some b
  pub reads : (n : ℕ) (r : Reading) → slice_get rs n ≡ Some r → IsReading r.manifest r

-- Boxes and manifests of two stores with equal contents are seen alike.
pub record SeenAlike (rs ss : List Reading) : Type 0 where
  pub boxes : (n m : ℕ) (r s : Reading) → slice_get rs n ≡ Some r → slice_get ss m ≡ Some s → (b c : ReadBox)
      → Contains r.boxes b → Contains s.boxes c → b.boxed.contents ≡ c.boxed.contents → b.boxed ≡ c.boxed
  pub signatures : (n m : ℕ) (r s : Reading) → slice_get rs n ≡ Some r → slice_get ss m ≡ Some s
      → (b c : Superbox)
      → r.manifest.signature ≡ Some b → s.manifest.signature ≡ Some c → b.contents ≡ c.contents → b ≡ c
  pub manifests : (n m : ℕ) (r s : Reading) → slice_get rs n ≡ Some r → slice_get ss m ≡ Some s
      → r.manifest.contents ≡ s.manifest.contents → r.manifest ≡ s.manifest

-- ---- the rules of a reached manifest

-- The rules on claim and signature: there are claim bytes, which are read as a claim, and the panel approves
-- the message in the signature box over them.
pub record IsApproved (said : Question → Verdict) (r : Reading) : Type 0 where
  pub bytes : List ℕ
  pub has_bytes : claim_bytes_of r ≡ Some bytes
  pub claim : Claim
  pub has_claim : claim_in r ≡ Some claim
  pub box : Superbox
  pub has_box : r.manifest.signature ≡ Some box
  pub item : List ℕ
  pub has_item : box.item ≡ Some item
  pub parts : SignParts
  pub is_message : SpellsMessage item parts
  pub approved : said (question_of parts bytes) ≡ Approved

-- The manifest has a box with this label, whose contents have this digest.
pub record HasBox (hash : Alg → List ℕ → List ℕ) (alg : Alg) (r : Reading) (label digest : List ℕ) : Type
    0 where
  pub box : ReadBox
  pub has_box : box_with r label ≡ Some box
  pub digested : hash alg box.boxed.contents ≡ digest

-- The rule on entries: an entry lists a label, its algorithm is known, and where the label isn't redacted its
-- box is there with the digest.
pub record EntryFact (hash : Alg → List ℕ → List ℕ) (rs : List Reading) (n : ℕ) (r : Reading) (e : Ref) : Type
    0 where
  pub label : List ℕ
  pub is_label : entry_label r.manifest e ≡ Some label
  pub alg : Alg
  pub known : alg_named (alg_in r e.alg) ≡ Some alg
  pub there : is_redacted rs n label ≡ false → HasBox hash alg r label e.hash

-- The rule on boxes: a box has a label, which an entry lists.
pub record BoxFact (r : Reading) (b : ReadBox) : Type 0 where
  pub label : List ℕ
  pub labelled : b.boxed.label ≡ Some label
  pub entry : Ref
  pub lists : Contains (entries_in r) entry
  pub is_label : entry_label r.manifest entry ≡ Some label

-- a kind of which no claim may redact an assertion
abbrev pub is_unredactable : Kind → Bool
is_unredactable kinds.DataHash = true
is_unredactable kinds.BmffHash = true
is_unredactable kinds.OtherHash = true
is_unredactable kinds.Ingredient = true
is_unredactable kinds.IngredientOther = true
is_unredactable kinds.Actions = true
is_unredactable kind = false

-- the rule on redactions: none names an assertion of such a kind
abbrev pub RedactionFact : List ℕ → Type 0
RedactionFact text =
    (manifest label : List ℕ)
    → uri_of text ≡ Some (record { manifest = Some manifest; target = assertion label })
    → is_unredactable (label_kind label) ≡ false

-- The rule on an ingredient with a reference to a signature: the signature box of its manifest has the
-- digest.
pub record BySignature (hash : Alg → List ℕ → List ℕ) (r child : Reading) (reference : Ref) : Type 0 where
  pub alg : Alg
  pub known : alg_named (alg_in r reference.alg) ≡ Some alg
  pub box : Superbox
  pub has_box : child.manifest.signature ≡ Some box
  pub digested : hash alg box.contents ≡ reference.hash

-- The rule on one without: its manifest isn't touched, and so its own contents have the digest.
pub record ByContents (hash : Alg → List ℕ → List ℕ) (r child : Reading) (g : Ingredient) : Type 0 where
  pub reference : Ref
  pub is_reference : g.manifest ≡ Some reference
  pub alg : Alg
  pub known : alg_named (alg_in r reference.alg) ≡ Some alg
  pub digested : hash alg child.manifest.contents ≡ reference.hash

-- by whether there is such a reference
abbrev pub Binds : (Alg → List ℕ → List ℕ) → Reading → Reading → Ingredient → Option Ref → Type 0
Binds hash r child g (Some reference) = BySignature hash r child reference
Binds hash r child g None = ByContents hash r child g

-- The rules on what an ingredient names: a manifest of this label stands earlier, and is bound.
pub record NamedFact (hash : Alg → List ℕ → List ℕ) (rs : List Reading) (n : ℕ) (r : Reading) (g : Ingredient)
    (label : List ℕ) : Type 0 where
  pub place : ℕ
  pub earlier : place < n
  pub child : Reading
  pub at_place : slice_get rs place ≡ Some child
  pub labelled : label_in child ≡ label
  pub binds : Binds hash r child g g.signature

-- The rule on a box with the label of an ingredient: it is read as one.
pub record IngredientFact (hash : Alg → List ℕ → List ℕ) (rs : List Reading) (n : ℕ) (r : Reading)
    (b : ReadBox) : Type 0 where
  pub ingredient : Ingredient
  pub is : value_in b.ingredient ≡ Some ingredient
  pub named : (label : List ℕ) → named_by (Some ingredient) ≡ Some label
      → NamedFact hash rs n r ingredient label

-- All of these hold of a reached manifest.
pub record ManifestFacts (hash : Alg → List ℕ → List ℕ) (said : Question → Verdict) (rs : List Reading)
    (n : ℕ) (r : Reading) : Type 0 where
  pub approved : IsApproved said r
  pub entries : (e : Ref) → Contains (entries_in r) e → EntryFact hash rs n r e
  pub boxes : (b : ReadBox) → Contains r.boxes b → BoxFact r b
  pub redactions : (text : List ℕ) → Contains (redactions_in r) text → RedactionFact text
  pub ingredients : (b : ReadBox) → Contains r.boxes b → (label : List ℕ) → b.boxed.label ≡ Some label
      → is_ingredient_kind (label_kind label) ≡ true → IngredientFact hash rs n r b

-- A store of an accepted file.
pub record StoreFacts (hash : Alg → List ℕ → List ℕ) (said : Question → Verdict) (rs : List Reading) : Type
    0 where
  pub tree : TreeFacts rs
  pub manifests : (n : ℕ) (r : Reading) → slice_get rs n ≡ Some r → is_reached rs n ≡ true
      → ManifestFacts hash said rs n r

-- ---- the binding of the active manifest

-- The rules on bindings: one entry lists a binding of a known kind, its box is read as this binding in the
-- media file, and the covered text has the digest.
pub record BindingFacts (hash : Alg → List ℕ → List ℕ) (s : StoreReading) (r : Reading) : Type 0 where
  pub entry : Ref
  pub lists : Contains (entries_in r) entry
  pub label : List ℕ
  pub is_label : entry_label r.manifest entry ≡ Some label
  pub kind : is_binding (label_kind label) ≡ true
  pub only : (e : Ref) (other : List ℕ) → Contains (entries_in r) e → entry_label r.manifest e ≡ Some other
      → is_binding (label_kind other) ≡ true → other ≡ label
  pub box : ReadBox
  pub has_box : box_with r label ≡ Some box
  pub bytes : List ℕ
  pub has_bytes : box.boxed.item ≡ Some bytes
  pub item : Item
  pub has_item : HasItem bytes item
  pub media : Media
  pub value : Binding
  pub is : IsBinding media (label_kind label) item (Ok value)
  pub is_value : binding_value s.binding ≡ Some value
  pub alg : Alg
  pub known : alg_named (alg_in r value.alg) ≡ Some alg
  pub digested : hash alg value.text ≡ value.hash

-- The file is accepted, as far as the laws use it.
pub record FileFacts (hash : Alg → List ℕ → List ℕ) (said : Question → Verdict) (s : StoreReading) : Type
    0 where
  pub store : StoreFacts hash said s.readings
  pub binding : (n : ℕ) (r : Reading) → slice_get s.readings n ≡ Some r → n + 1 ≡ length s.readings
      → BindingFacts hash s r

-- ---- evidence

-- A pair is real evidence, and its lists are lists of both stores.
pub record IsShown (hash : Alg → List ℕ → List ℕ) (said : Question → Verdict) (rs ss : List Reading)
    (p : ListPair) : Type 0 where
  pub real : IsReal hash said p
  pub left : IsListIn rs p.left
  pub right : IsListIn ss p.right

-- How long a new store can be: what a definition that was read of a file holds at most, what is taken over of an older
-- store or of two at most, and how many bytes a new store of both has then.
use Rattle.std.specs.Prelude.{ℕ, ◌+◌, ◌*◌, ◌-◌, ◌^◌, ◌<◌, ◌≤◌, List, [], ◌∷◌, length, IfSome, Ok}
use Rattle.std.specs.List.{AllByRecursion}
use Rattle.c2_base.specs.declared.limits.TheConstants.{MAX_INPUT_LEN, MAX_STORE_LEN}
use Rattle.c2_spec.specs.Jumbf.Tree.{Trees, trees_bytes}
use Rattle.c2_definition.specs.DefinitionFile.{IsDefinition, most_reserve}
use Rattle.c2_definition.specs.declared.types.Definition.{Definition}
use Rattle.c2_definition.specs.declared.types.NewAssertion.{NewAssertion}
use Rattle.c2_new_file_spec.specs.Built.{bound_len, store_size}
use Rattle.c2_new_file_spec.specs.Store.{Content, NewIngredient}
use Rattle.c2_new_file_spec.specs.Written.{AreIngredients}
use Rattle.c2_new_file_spec.specs.Films.{bmff_store_size}

-- ---- what is short

-- what new assertions hold: each one its label, its bytes, and one more
abbrev pub assertions_len : List NewAssertion → ℕ
assertions_len [] = 0
assertions_len (a ∷ others) = 1 + length a.label + length a.bytes + assertions_len others

-- what texts hold: each one its bytes, and one more
abbrev pub texts_len : List (List ℕ) → ℕ
texts_len [] = 0
texts_len (t ∷ others) = 1 + length t + texts_len others

-- A definition of which no text holds more than a definition file may have bytes, nor do its redactions together; its
-- assertions hold no more than thrice that, and it reserves no more than one may.
pub record IsShort (d : Definition) : Type 0 where
  pub label : length d.label ≤ MAX_INPUT_LEN
  pub instance : length d.instance_id ≤ MAX_INPUT_LEN
  pub generator : length d.generator ≤ MAX_INPUT_LEN
  pub title : IfSome d.title (λ t. length t ≤ MAX_INPUT_LEN)
  pub reserve : d.reserve ≤ most_reserve
  pub assertions : assertions_len d.assertions ≤ 3 * MAX_INPUT_LEN
  pub redact : texts_len d.redact ≤ MAX_INPUT_LEN

-- boxes have no more bytes than two stores may have together
abbrev pub AreOfTwoStores : Trees → Type 0
AreOfTwoStores boxes = length (trees_bytes boxes) ≤ 2 * MAX_STORE_LEN

-- What is taken over of one older store or of two: the boxes that are carried are no more than theirs, and the ingredients such as a
-- manifest may have, each of a manifest whose label has no more bytes.
pub record IsShortOver (c : Content) : Type 0 where
  pub boxes : AreOfTwoStores c.carried
  pub ingredients : AreIngredients c.ingredients
  pub labels : AllByRecursion (λ (g : NewIngredient). length g.of.label ≤ 2 * MAX_STORE_LEN) c.ingredients

-- the label and the bytes of a binding together are no more than a store may have
abbrev pub IsShortBinding : NewAssertion → Type 0
IsShortBinding b = length b.label + length b.bytes ≤ MAX_STORE_LEN

-- ---- what holds

-- A definition that a file is, is short.
abbrev pub DefinitionsAreShort : Type 0
DefinitionsAreShort = (file : List ℕ) (d : Definition) → IsDefinition file (Ok d) → IsShort d

-- A new store of what is short has fewer than 2^40 bytes, with as many for the message as are reserved.
abbrev pub StoresAreShort : Type 0
StoresAreShort = (c : Content) (b : NewAssertion) → IsShort c.definition → IsShortOver c → IsShortBinding b
    → bound_len c b c.definition.reserve < 2 ^ 40

-- The new store of a JPEG file has fewer than 2^40 bytes, where its definition and what is taken over of older stores are short.
abbrev pub JpegStoresAreShort : Type 0
JpegStoresAreShort =
    (c : Content) → IsShort c.definition → IsShortOver c → store_size c c.definition.reserve < 2 ^ 40

-- The new store of a BMFF file has fewer than 2^40 bytes, where its definition and what is taken over of older stores are short.
abbrev pub BmffStoresAreShort : Type 0
BmffStoresAreShort =
    (c : Content) → IsShort c.definition → IsShortOver c → bmff_store_size c c.definition.reserve < 2 ^ 40

-- The length of a new store of this is below the greatest number that 64 bits hold: with any short binding, in a JPEG
-- file and in a BMFF file.
pub record Fits (c : Content) : Type 0 where
  pub any : (b : NewAssertion) → IsShortBinding b → bound_len c b c.definition.reserve < 2 ^ 64 - 1
  pub jpeg : store_size c c.definition.reserve < 2 ^ 64 - 1
  pub film : bmff_store_size c c.definition.reserve < 2 ^ 64 - 1

-- The length of a new store is below the greatest number that 64 bits hold, where a file is its definition and what is taken over of older
-- stores is short.
abbrev pub StoresFit : Type 0
StoresFit = (file : List ℕ) (c : Content) → IsDefinition file (Ok c.definition) → IsShortOver c → Fits c

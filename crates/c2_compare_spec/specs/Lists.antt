-- Whose lists evidence consists of: lists of its two files, which are there (this project's own
-- choice).
use Rattle.std.specs.Prelude.{◌≡◌, ℕ, true, List, Some, slice_get, Contains}
use Rattle.c2_spec.specs.C2pa.Manifest.{Superbox}
use Rattle.c2_rules.specs.Binding.{Binding, binding_value}
use Rattle.c2_rules.specs.Chains.{is_reached}
use Rattle.c2_rules.specs.CheckList.{StoreReading}
use Rattle.c2_rules.specs.Readings.{ReadBox, Reading}
use Rattle.c2_compare_spec.specs.ChainContent.{claim_bytes_of}

-- A reached manifest stands at this place.
pub record IsReachedAt (rs : List Reading) (place : ℕ) (r : Reading) : Type 0 where
  pub at_place : slice_get rs place ≡ Some r
  pub reached : is_reached rs place ≡ true

-- A list of a store: the contents of an assertion box or of the signature box of a reached manifest,
-- its claim bytes, or its own contents.
pub data IsListIn (rs : List Reading) : List ℕ → Type 0 where
  of_box : (place : ℕ) (r : Reading) → IsReachedAt rs place r → (b : ReadBox)
      → Contains r.boxes b → IsListIn rs b.boxed.contents
  of_signature : (place : ℕ) (r : Reading) → IsReachedAt rs place r → (b : Superbox)
      → r.manifest.signature ≡ Some b → IsListIn rs b.contents
  of_claim : (place : ℕ) (r : Reading) → IsReachedAt rs place r → (bytes : List ℕ)
      → claim_bytes_of r ≡ Some bytes → IsListIn rs bytes
  of_manifest : (place : ℕ) (r : Reading) → IsReachedAt rs place r
      → IsListIn rs r.manifest.contents

-- A list of a file: one of its store, or the text that its binding covers.
pub data IsListOf (s : StoreReading) : List ℕ → Type 0 where
  in_store : (list : List ℕ) → IsListIn s.readings list → IsListOf s list
  covered : (b : Binding) → binding_value s.binding ≡ Some b → IsListOf s b.text

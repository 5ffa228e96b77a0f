-- The manifest store of a media file, taken by itself (C2PA Technical Specification 2.x, "External manifests").
use Rattle.std.specs.Prelude.{◌≡◌, ℕ, List, [], length}
use Rattle.c2_spec.specs.Container.{IsLocated}
use Rattle.c2_spec.specs.Located.{Located, refused, absent, here}
use Rattle.c2_sidecar.specs.declared.error.Extracted.{Extracted}
use Rattle.c2_sidecar.specs.declared.error.Extracted.TheVariants.{Done, NoStore, Refused}

-- what a file comes to that is this as a container: it is refused; it has no store; or it has one of so many bytes
abbrev pub extracted_of : Located → Extracted
extracted_of (refused reason number) = Refused reason number
extracted_of absent = NoStore
extracted_of (here start len store) = Done (length store)

-- the bytes of the store of such a file, or none
abbrev pub store_of : Located → List ℕ
store_of (refused reason number) = []
store_of absent = []
store_of (here start len store) = store

-- the file comes to this when its store is extracted, by the tests of its container alone
abbrev pub ExtractsTo : List ℕ → Extracted → Type 0
ExtractsTo file answer = (what : Located) × IsLocated file what × (answer ≡ extracted_of what)

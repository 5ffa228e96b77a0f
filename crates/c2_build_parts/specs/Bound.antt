-- What the parts of a new manifest bind, and how long the new store is.
use Rattle.std.specs.Prelude.{◌≡◌, ℕ, ◌≤◌, IfErr, IfOk, List, ◌++◌, length}
use Rattle.std.specs.declared.option.Option.{Option}
use Rattle.std.specs.declared.result.Result.{Result}
use Rattle.std.specs.Option.{ForSome}
use Rattle.c2_copying.specs.Writing.{piece_of}
use Rattle.c2_base.specs.declared.limits.TheConstants.{MAX_STORE_LEN}
use Rattle.c2_spec.specs.Digest.{digest_len}
use Rattle.c2_spec.specs.declared.digest.Alg.{Alg}
use Rattle.c2_definition.specs.declared.types.Definition.{Definition}
use Rattle.c2_definition.specs.declared.types.NewAssertion.{NewAssertion}
use Rattle.c2_new_file_spec.specs.Built.{built_len, store_size}
use Rattle.c2_layout.specs.Parts.{AreParts, IsContent}
use Rattle.c2_new_file_spec.specs.Store.{Content, data_binding, new_alg}
use Rattle.c2_layout.specs.declared.parts.NewParts.{NewParts}
use Rattle.c2_new_file_spec.specs.Films.{new_bmff_binding, bmff_len, bmff_store_size}
use Rattle.c2_new_file_spec.specs.Places.{IsPlace, Place, bound_text}
use Rattle.c2_build_refusals.specs.declared.types.Drafted.{Drafted}
use Rattle.c2_build_refusals.specs.declared.error.BuildError.{BuildError}
use Rattle.c2_build_refusals.specs.declared.types.InsertPoint.{InsertPoint}
use Rattle.c2_build_refusals.specs.Kinds.{SaysNothing}
use Rattle.c2_build_refusals.specs.InsertPoints.{IsInsertPoint, IsInsertPointIn}
use Rattle.c2_build_parts.specs.declared.parts.Bound.{Bound}

-- ---- digests

-- a running hash has taken further bytes, behind what it had taken: those of a file from one place to another, where they are known
abbrev pub HasTaken : {S : Type 0} → (S → Alg → List ℕ → Type 0) → Option (List ℕ) → ℕ → ℕ → S → S → Type 0
HasTaken holds known from to old new =
    (alg : Alg) (list : List ℕ) → holds old alg list
    → (bytes : List ℕ) × holds new alg (list ++ bytes) × ForSome known (λ file. bytes ≡ piece_of file from to)

-- The digest by this algorithm of what a binding at this place binds of a base: over known bytes it is that, it has the algorithm's length, and
-- an error says nothing of the base.
pub record IsBoundDigest (hash : Alg → List ℕ → List ℕ) (alg : Alg) (point : InsertPoint) (known : Option (List ℕ)) (result : Result (List ℕ) BuildError) : Type 0 where
  pub digest : IfOk result (λ d. ForSome known (λ base. (p : Place) → IsPlace base p → IsInsertPoint point p → d ≡ hash alg (bound_text base p)))
  pub len : IfOk result (λ d. length d ≡ digest_len alg)
  pub nothing : IfErr result SaysNothing

-- ---- lengths

-- how long the new store is there, whatever is known of the bytes
abbrev pub point_store_len : InsertPoint → Content → ℕ
point_store_len (InsertPoint.Segments start number) c = store_size c c.definition.reserve
point_store_len (InsertPoint.Boxes roots) c = bmff_store_size c c.definition.reserve

-- how many bytes are put in
abbrev pub point_range_len : InsertPoint → Content → ℕ
point_range_len (InsertPoint.Segments start number) c = built_len c c.definition.reserve
point_range_len (InsertPoint.Boxes roots) c = bmff_len c c.definition.reserve

-- What was drafted fits a base of this length, whatever is known of its bytes: the new store isn't too large, and the place and its first byte
-- lie in the base.
pub record IsSmall (hash : List ℕ → List ℕ) (len : ℕ) (d : Definition) (w : Drafted) : Type 0 where
  pub content : Content
  pub is : IsContent hash d w.ground.carried content
  pub small : point_store_len w.point content ≤ MAX_STORE_LEN
  pub size : w.draft.size ≡ len
  pub inside : w.draft.start ≤ w.draft.size
  pub point : IsInsertPointIn len w.point

-- What is bound is bound of a base of this length, and its place lies in that.
pub record IsOverBase (len : ℕ) (b : Bound) : Type 0 where
  pub size : b.size ≡ len
  pub inside : IsInsertPointIn len b.point.now

-- ---- the parts

-- the new binding by this algorithm, to a range or by a digest alone
abbrev pub point_binding : Alg → InsertPoint → ℕ → ℕ → List ℕ → NewAssertion
point_binding alg (InsertPoint.Segments at number) start len digest = data_binding alg start len digest
point_binding alg (InsertPoint.Boxes roots) start len digest = new_bmff_binding alg digest

-- the parts of the new manifest, made with a digest that is the one of what is bound of the base, where that is known
pub record AreNewParts (hash : List ℕ → List ℕ) (known : Option (List ℕ)) (d : Definition) (w : Drafted) (p : NewParts) : Type 0 where
  pub digest : List ℕ
  pub sized : length digest ≡ digest_len (new_alg d)
  pub parts : (c : Content) → IsContent hash d w.ground.carried c → AreParts hash c (point_binding (new_alg d) w.point w.draft.start w.draft.length digest) p
  pub is_digest : ForSome known (λ base. (place : Place) → IsPlace base place → IsInsertPoint w.point place → digest ≡ hash (bound_text base place))

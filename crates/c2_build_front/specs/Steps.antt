-- For private clauses: what the steps of a build in front of a BMFF file come to.
use Rattle.std.specs.Prelude.{◌≡◌, ◌⊎◌, ℕ, ◌+◌, ◌-◌, ◌^◌, ◌<◌, ◌≤◌, List, [], ◌∷◌, length, vec_len, IfOk, OnOk}
use Rattle.std.specs.declared.option.Option.{Option}
use Rattle.std.specs.declared.result.Result.{Result}
use Rattle.std.specs.declared.result.Result.TheVariants.{Ok, Err}
use Rattle.std.specs.Option.{ForSome}
use Rattle.c2_lemmas.specs.Stages.{Then}
use Rattle.c2_base.specs.declared.limits.TheConstants.{FILE_LEN_LIMIT, MAX_STORE_LEN}
use Rattle.c2_spec.specs.Bmff.Boxes.{Box, HasRoots, box_bytes}
use Rattle.c2_spec.specs.Bmff.Writing.{c2pa_box, c2pa_frame_len}
use Rattle.c2_spec.specs.Digest.{digest_len}
use Rattle.c2_spec.specs.Jpeg.Writing.{IsPacketStore}
use Rattle.c2_spec.specs.Jumbf.Tree.{Tree}
use Rattle.c2_spec.specs.Located.{Opening}
use Rattle.c2_spec.specs.declared.digest.Alg.{Alg}
use Rattle.c2_bmff_chunks.specs.declared.table.ShiftError.{ShiftError}
use Rattle.c2_bmff_chunks.specs.declared.table.ShiftError.TheVariants as shift
use Rattle.c2_definition.specs.declared.types.Definition.{Definition}
use Rattle.c2_new_file_spec.specs.Fresh.{fresh_content}
use Rattle.c2_new_file_spec.specs.Store.{new_alg}
use Rattle.c2_layout.specs.Parts.{AreParts}
use Rattle.c2_layout.specs.declared.parts.NewParts.{NewParts}
use Rattle.c2_new_file_spec.specs.Films.{new_bmff_binding, bmff_len, bmff_store_size}
use Rattle.c2_bmff_binding_front.specs.Putting.{FitsIn, range_of, with_store}
use Rattle.c2_bmff_binding_front.specs.declared.front.Front.{Front}
use Rattle.c2_new_front_spec.specs.Fronts.{front_covered, tables_of}
use Rattle.c2_new_front_spec.specs.InFront.{front_place}
use Rattle.c2_new_front_spec.specs.Order.{CanPlanFront, FrontRefusal, bmff_refusals, plan_refusals}
use Rattle.c2_new_front_spec.specs.Outcomes.{IsBmffStage, IsFrontMade, IsMadeIn, IsMessageStage, NewFile}
use Rattle.c2_build_refusals.specs.Kinds.{IsReadKind, WithoutFault, kind_of}
use Rattle.c2_build_refusals.specs.Stages.{HasTextsIn, IsDefinitionTold, IsMessageTold}
use Rattle.c2_build_refusals.specs.declared.error.BuildError.{BuildError}
use Rattle.c2_build_refusals.specs.declared.error.BuildError.TheVariants.{OffsetTable, BadTree, BadTable, Overflow, ReadFault, NoMemory}
use Rattle.c2_build_front.specs.Answers.{plan_effects, prepare_effects}
use Rattle.c2_build_front.specs.Errors.{IsRefusedWith, error_of}
use Rattle.c2_build_front.specs.declared.drafting.Sizes.{Sizes}
use Rattle.c2_build_front.specs.declared.ready.Ready.{Ready}

-- ---- errors

-- of these refusals the first has this error
abbrev pub IsFirstError : List FrontRefusal → BuildError → Type 0
IsFirstError refusals e = (refusal : FrontRefusal) × (others : List FrontRefusal) × (refusals ≡ refusal ∷ others) × (e ≡ error_of refusal)

-- the cause of an error of a step of a plan that reads the media
abbrev pub IsPlanStep : ℕ → ℕ → BuildError → Type 0
IsPlanStep before now e = IsReadKind plan_effects before now (kind_of e)

-- the cause of an error of a step that reads the media before a new file is written
abbrev pub IsPrepareStep : ℕ → ℕ → BuildError → Type 0
IsPrepareStep before now e = IsReadKind prepare_effects before now (kind_of e)

-- the error of a build that an error of a shift is
abbrev pub error_of_shift : ShiftError → BuildError
error_of_shift (shift.OffsetTable at) = OffsetTable at
error_of_shift (shift.BadTree at) = BadTree at
error_of_shift (shift.BadTable at) = BadTable at
error_of_shift (shift.Overflow at) = Overflow at
error_of_shift shift.ReadFault = ReadFault
error_of_shift shift.NoMemory = NoMemory

-- ---- numbers

-- how many bytes the new store of a definition has, with what it reserves for its message
abbrev pub store_size : Definition → ℕ
store_size d = bmff_store_size (fresh_content d) d.reserve

-- 64 bits hold that number
abbrev pub HasSize : Definition → Type 0
HasSize d = store_size d < 2 ^ 64 - 1

-- The sizes of what is to be built over a media file of this length, whatever is known of its bytes: neither the new store nor the new file
-- is too large.
pub record IsSized (len : ℕ) (d : Definition) (s : Sizes) : Type 0 where
  pub size : s.size ≡ len
  pub store : s.store_len ≡ store_size d
  pub small : s.store_len ≤ MAX_STORE_LEN
  pub short : len + (c2pa_frame_len + s.store_len) < FILE_LEN_LIMIT

-- ---- what is drafted

-- What is to be built in front of a media file with these root boxes: nothing is refused of a plan, and these are the numbers of the new
-- file.
pub record IsDrafted (media : List ℕ) (roots : List Box) (d : Definition) (f : Front) : Type 0 where
  pub unrefused : plan_refusals media roots d ≡ []
  pub place : f.place ≡ front_place roots
  pub store : f.store_len ≡ store_size d
  pub tables : f.tables ≡ tables_of media roots

-- What is to be built in front of a media file that is opened so: it is a BMFF file without a store, nothing is refused of a plan over its
-- root boxes, and these are the numbers of the new file.
pub record IsDraftedOver (media : List ℕ) (what : Opening Tree) (d : Definition) (f : Front) : Type 0 where
  pub roots : List Box
  pub has_roots : HasRoots media roots
  pub film : bmff_refusals media what ≡ []
  pub can : CanPlanFront media roots d
  pub is : IsDrafted media roots d f

-- What is refused first of a media file that is opened so has this error: what it is, or something of a plan over its root boxes.
abbrev pub IsRefusedOver : List ℕ → Opening Tree → Definition → BuildError → Type 0
IsRefusedOver media what d e =
    IsFirstError (bmff_refusals media what) e
    ⊎ ((roots : List Box) × HasRoots media roots × (bmff_refusals media what ≡ []) × IsFirstError (plan_refusals media roots d) e)

-- ---- the parts

-- how many bytes the new file's box has
abbrev pub box_len : Definition → ℕ
box_len d = bmff_len (fresh_content d) d.reserve

-- The parts of the new manifest, made with a digest that is the one of what the exclusions leave of the new file, where the media's bytes are
-- known and it was drafted so.
pub record AreFrontParts (hash : List ℕ → List ℕ) (known : Option (List ℕ)) (d : Definition) (f : Front) (p : NewParts) : Type 0 where
  pub digest : List ℕ
  pub sized : length digest ≡ digest_len (new_alg d)
  pub parts : AreParts hash (fresh_content d) (new_bmff_binding (new_alg d) digest) p
  pub is_digest : ForSome known (λ file. (what : Opening Tree) → (k : IsDraftedOver file what d f)
      → digest ≡ hash (front_covered (box_len d) file k.roots))

-- ---- what is ready to be written

-- a new file is ready to be written over this media file
pub record IsReady (media : List ℕ) (r : Ready) (b : NewFile) : Type 0 where
  pub file : b.file ≡ with_store r.front r.store media
  pub start : b.start ≡ r.front.place
  pub len : b.len ≡ range_of r.front

-- This store can be put so into a media file of this length, whatever is known of its bytes, through a buffer of so many.
pub record CanWriteFront (len : ℕ) (f : Front) (bytes : List ℕ) (size : ℕ) : Type 0 where
  pub fits : FitsIn len f
  pub store : IsPacketStore bytes
  pub room : 0 < size

-- how long the new file is then, whatever the media's bytes are
abbrev pub front_file_len : Front → List ℕ → ℕ
front_file_len f store = length (box_bytes (c2pa_box store)) + f.size

-- what is ready can be written over such a file
abbrev pub CanWrite : ℕ → Ready → Type 0
CanWrite len r = CanWriteFront len r.front r.store (vec_len r.buffer)

-- over inputs that come to something a new file is ready to be written over this media file, or the error is that of what is refused first
abbrev pub IsReadyFor : List ℕ → (Result NewFile FrontRefusal → Type 0) → Result Ready BuildError → Type 0
IsReadyFor media Is (Ok r) = (b : NewFile) × Is (Ok b) × IsReady media r b
IsReadyFor media Is (Err e) = WithoutFault e (IsRefusedWith Is e)

-- what a build comes to over a media file that is opened so, with a definition that was read and this file of a signed message
abbrev pub IsMadeSigned : (Alg → List ℕ → List ℕ) → List ℕ → Definition → List ℕ → Opening Tree → Result NewFile FrontRefusal → Type 0
IsMadeSigned hash media d message what =
    Then (IsMessageStage d.protected message) (λ parts. Then (IsBmffStage media what) (IsMadeIn hash media d parts))

-- What was prepared of a media file of this length, of a definition file and of a message file: over known bytes what they come to, ready to
-- be written, and that the texts of the definition are texts; and of all files that the new file can be written.
pub record IsPrepared (hash : Alg → List ℕ → List ℕ) (media definition message : Option (List ℕ)) (len : ℕ) (result : Result Ready BuildError) : Type 0 where
  pub ready : ForSome media (λ file. (bytes : List ℕ) → IsDefinitionTold file definition bytes → (signed : List ℕ)
      → IsMessageTold file bytes message signed → IsReadyFor file (IsFrontMade hash file bytes signed) result)
  pub texts : ForSome definition (λ bytes. OnOk result (HasTextsIn bytes))
  pub can_write : IfOk result (CanWrite len)

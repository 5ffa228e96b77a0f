-- What is signed and what is put in of the parts of a new store.
use Rattle.std.proofs.Common.{◌≡◌, ℕ, List, length, Option, Some, refl, sym, ap, ◌∙◌, subst}
use Rattle.c2_spec.specs.C2pa.Sign1.{sig_structure}
use Rattle.c2_spec.specs.Cbor.Deterministic.{deterministic}
use Rattle.c2_spec.specs.Jpeg.Writing.{IsPacketStore}
use Rattle.c2_spec.specs.Jumbf.Tree.{tree_bytes}
use Rattle.c2_definition.specs.declared.types.Definition.{Definition}
use Rattle.c2_definition.specs.declared.types.NewAssertion.{NewAssertion}
use Rattle.c2_new_file_spec.specs.Built.{HasDigestLen}
use Rattle.c2_new_file_spec.specs.Store.{Content, new_alg, new_claim, new_store}
use Rattle.c2_layout.specs.Parts.{AreParts, IsContent}
use Rattle.c2_layout.specs.declared.carried.Carried.{Carried}
use Rattle.c2_layout.specs.declared.parts.NewParts.{NewParts}
use Rattle.c2_without_store.specs.Clears.{cleared}
use Rattle.c2_without_store.specs.declared.clearing.Clearing.{Clearing}
use Rattle.c2_new_file_spec.specs.Places.{IsPlace, Place, bound_text, place_binding, place_start, place_store, put_bytes}
use Rattle.c2_build_refusals.specs.Refusals.{Ground}
use Rattle.c2_build_refusals.specs.declared.types.Draft.{Draft}
use Rattle.c2_build_refusals.specs.declared.types.Drafted.{Drafted}
use Rattle.c2_build_parts.specs.Bound.{AreNewParts, IsSmall, point_binding}
use Rattle.c2_build_writing.specs.Puts.{put_of}
use Rattle.c2_build_in_place.specs.Numbers.{IsPut}
use Rattle.c2_build_in_place.proofs.Stored.{file_is, put_is, same_binding, store_packs}
use Rattle.c2_build_in_place.specs.declared.writing.Ready.{Ready}
use Rattle.c2_build_drafts.specs.Drafts.{IsOver, IsPutReady, draft_signed}

-- a store was made of these parts
abbrev pub IsMade : Definition → Carried → NewParts → List ℕ → List ℕ → Type 0
IsMade d k parts message store =
    (h : List ℕ → List ℕ) (c : Content) (binding : NewAssertion) → IsContent h d k c → AreParts h c binding parts
    → store ≡ tree_bytes (new_store h c binding message)

-- ---- over known bytes

module _ (hash : List ℕ → List ℕ) (media : List ℕ) (d : Definition) (w : Drafted) (g : Ground) (p : Place) (over : IsOver hash media d w g p) (known : Option (List ℕ)) (parts : NewParts) (are : AreNewParts hash known d w parts)
    (is : known ≡ Some (cleared w.ground.clearing media)) where
  -- as many bytes are reserved as the definition of the content says
  room_is : d.reserve ≡ g.content.definition.reserve
  room_is = ap (λ (x : Definition). x.reserve) (sym over.ground.content.definition)

  -- the binding is that of the place, where so many bytes are reserved
  binding_is : (reserve : ℕ) → reserve ≡ d.reserve
      → point_binding (new_alg d) w.point w.draft.start w.draft.length are.digest ≡ place_binding hash g.content reserve g.base p
  binding_is reserve room =
      let digest =
      are.is_digest (cleared w.ground.clearing media) is p
      (subst (λ (b : List ℕ). IsPlace b p) over.ground.base over.place) over.point in
      same_binding hash g.content g.base (new_alg d) w.point w.draft p are.digest reserve
      (ap new_alg (sym over.ground.content.definition)) (room ∙ room_is) over.point over.numbers
      (digest ∙ ap (λ (b : List ℕ). hash (bound_text b p)) (sym over.ground.base))

  -- the parts are those of the content
  parts_are : AreParts hash g.content (point_binding (new_alg d) w.point w.draft.start w.draft.length are.digest) parts
  parts_are = are.parts g.content over.ground.content

  -- what is made over the claim is what is signed
  pub signed_is : (claim tbs : List ℕ) → claim ≡ parts.claim → tbs ≡ deterministic (sig_structure d.protected claim)
      → tbs ≡ draft_signed hash d g p
  signed_is claim tbs same made =
      made
      ∙ ap (λ (x : List ℕ). deterministic (sig_structure d.protected x))
      (same ∙ parts_are.claim ∙ ap (new_claim hash g.content) (binding_is d.reserve refl))

  -- a store of these parts is ready to be put in
  pub put_ready : (message : List ℕ) (r : Ready) → r.draft ≡ w.draft → r.clearing ≡ w.ground.clearing
      → length message ≡ d.reserve → IsMade d w.ground.carried parts message r.store
      → IsPutReady hash media g p message r
  put_ready message r draft clearing filled made =
      let store : r.store ≡ tree_bytes (place_store hash g.content message g.base p) =
      made hash g.content (point_binding (new_alg d) w.point w.draft.start w.draft.length are.digest)
      over.ground.content parts_are
      ∙ ap (λ (b : NewAssertion). tree_bytes (new_store hash g.content b message)) (binding_is (length message) filled) in
      let base : g.base ≡ cleared r.clearing media =
      over.ground.base ∙ ap (λ (x : Clearing). cleared x media) (sym clearing) in
      let start : place_start p ≡ r.draft.start = sym over.numbers.start ∙ ap (λ (f : Draft). f.start) (sym draft) in
      let put : IsPut r.draft.put p = subst (λ (f : Draft). IsPut f.put p) (sym draft) over.numbers.put in
      record {
        bytes = put_of r.draft.put r.store;
        put = ap (put_bytes p) (sym store) ∙ put_is r.draft.put p r.store put;
        file = file_is media g.base r p base start;
        start = start;
        len = sym over.numbers.length ∙ ap (λ (f : Draft). f.length) (sym draft);
        filled = filled ∙ room_is;
      }

-- ---- over all bytes

-- the store of what was drafted can go into packets
pub draft_packs :
    (hash : List ℕ → List ℕ) (known : Option (List ℕ)) (len : ℕ) (d : Definition) (w : Drafted)
    (parts : NewParts) (message store : List ℕ)
    → HasDigestLen (new_alg d) hash
    → AreNewParts hash known d w parts → length message ≡ d.reserve → IsSmall hash len d w
    → IsMade d w.ground.carried parts message store → IsPacketStore store
draft_packs hash known len d w parts message store digests are filled small made =
    let own : d ≡ small.content.definition = sym small.is.definition in
    store_packs hash small.content (new_alg d) w.point w.draft.start w.draft.length are.digest message store
    (ap new_alg own) digests are.sized (filled ∙ ap (λ (x : Definition). x.reserve) own) small.small
    (made hash small.content (point_binding (new_alg d) w.point w.draft.start w.draft.length are.digest) small.is (are.parts small.content small.is))

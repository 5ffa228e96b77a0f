-- What is planned and what is built of a draft.
use Rattle.std.proofs.Common.{◌≡◌, ℕ, ◌+◌, List, [], ◌∷◌, ◌++◌, length, replicate, Option, Some, None, refl, sym, ap, ◌∙◌, subst}
use Rattle.std.specs.Prelude.{Ok, Err, Result, option_map}
use Rattle.std.specs.Option.{option_to_list}
use Rattle.std.proofs.lemmas.List.{length-replicate}
use Rattle.c2_spec.specs.Bmff.Boxes.{Box, HasRoots, box_bytes}
use Rattle.c2_spec.specs.Bmff.Writing.{c2pa_box, c2pa_frame_len}
use Rattle.c2_spec.specs.C2pa.Message.{bare_bytes}
use Rattle.c2_spec.specs.C2pa.Sign1.{SignParts, sig_structure}
use Rattle.c2_spec.specs.Cbor.Deterministic.{deterministic}
use Rattle.c2_spec.specs.Jumbf.Tree.{Tree, tree_bytes}
use Rattle.c2_spec.specs.Located.{Opening}
use Rattle.c2_spec.specs.PutIn.{put_in}
use Rattle.c2_spec.specs.declared.digest.Alg.{Alg}
use Rattle.c2_spec.proofs.BmffOneList.{roots_once}
use Rattle.c2_bmff_chunks.specs.Laws.{AreBytes}
use Rattle.c2_bmff_chunks.specs.Shifted.{shifted}
use Rattle.c2_bmff_chunks.specs.declared.table.ChunkTable.{ChunkTable}
use Rattle.c2_definition.specs.declared.types.Definition.{Definition}
use Rattle.c2_new_signature.specs.Refusals.{reserve_needed}
use Rattle.c2_new_signature.specs.Signed.{IsSigned}
use Rattle.c2_new_signature.proofs.TheLaws.{a_message_fills_its_reserve_or_needs_more}
use Rattle.c2_new_file_spec.specs.Fresh.{fresh_content}
use Rattle.c2_new_file_spec.specs.Store.{new_alg, new_claim, new_store}
use Rattle.c2_layout.specs.declared.parts.NewParts.{NewParts}
use Rattle.c2_new_file_spec.specs.Films.{AreOthers, new_bmff_binding, bmff_len}
use Rattle.c2_bmff_binding_front.specs.Digests.{IsRootsDigest}
use Rattle.c2_bmff_binding_front.specs.Putting.{range_of, with_blank, with_store}
use Rattle.c2_bmff_binding_front.specs.declared.front.Front.{Front}
use Rattle.c2_new_front_spec.specs.Fronts.{front_covered, front_store, moved_media, moved_roots}
use Rattle.c2_new_front_spec.specs.InFront.{front_place, front_with}
use Rattle.c2_new_front_spec.specs.Order.{FrontRefusal, bmff_refusals, front_refusals, plan_refusals, reserve_refusals, reserve_too_small}
use Rattle.c2_new_front_spec.specs.Outcomes.{IsBmffStage, IsMadeIn, IsMediaStage, IsNewFile, IsPlannedIn, NewFile, front_signed, new_file}
use Rattle.c2_new_front_spec.proofs.SomeOutcome.{FreeRoots, free_roots}
use Rattle.c2_new_front_spec.proofs.TheLaws.{a_front_is_refused_or_planned_planned, the_covered_text_is_known_first}
use Rattle.c2_build_refusals.specs.declared.error.BuildError.{BuildError}
use Rattle.c2_build_refusals.proofs.Outside.{outside_map}
use Rattle.c2_build_refusals.specs.Refusals.{IsReserveRefusal}
use Rattle.c2_build_front.proofs.Stages.{refused_next}
use Rattle.c2_build_front.specs.Errors.{IsRefusedWith}
use Rattle.c2_build_front.specs.Steps.{AreFrontParts, IsDrafted, IsDraftedOver, IsReady, IsReadyFor, box_len, store_size}
use Rattle.c2_build_front.specs.declared.ready.Ready.{Ready}
use Rattle.c2_lemmas.specs.Stages.{Then}
use Rattle.c2_lemmas.proofs.Options.{never_some}
use Rattle.c2_lemmas.proofs.Stages.{then_next, unless_first, unless_passes}
use Rattle.c2_lemmas.proofs.Lists.{none_both}

-- ---- what is drafted

-- a draft over a film of which nothing is refused
pub drafted_over :
    (media : List ℕ) (what : Opening Tree) (roots : List Box) (d : Definition) (f : Front) → AreBytes media
    → IsMediaStage media (Ok what) → bmff_refusals media what ≡ [] → HasRoots media roots → IsDrafted media roots d f
    → IsDraftedOver media what d f
drafted_over media what roots d f bytes stage none has is =
    let free : FreeRoots media = free_roots media what stage none in
    let others : AreOthers roots = subst AreOthers (roots_once media free.roots roots free.has_roots has) free.others in
    record {
      roots = roots;
      has_roots = has;
      film = none;
      can = a_front_is_refused_or_planned_planned media roots d free.film bytes has others is.unrefused;
      is = is;
    }

-- the film stage of a draft
bmff_stage : (media : List ℕ) (what : Opening Tree) (d : Definition) (f : Front) → (k : IsDraftedOver media what d f)
    → IsBmffStage media what (Ok k.roots)
bmff_stage media what d f k =
    unless_passes (bmff_refusals media what) (λ r. (roots : List Box) × HasRoots media roots × (r ≡ Ok roots))
    (Ok k.roots) k.film (k.roots, k.has_roots, refl)

-- ---- the file

-- the file that is put together by a draft
pub file_is : (media : List ℕ) (roots : List Box) (d : Definition) (f : Front) (store : List ℕ)
    → IsDrafted media roots d f
    → with_store f store media ≡ put_in (front_place roots) (box_bytes (c2pa_box store)) (moved_media (box_len d) media roots)
file_is media roots d f store is =
    let piece = box_bytes (c2pa_box store) in
    ap (λ (p : ℕ). put_in p piece (shifted p (range_of f) f.tables media)) is.place
    ∙ ap (λ (n : ℕ). put_in (front_place roots) piece (shifted (front_place roots) (c2pa_frame_len + n) f.tables media))
    is.store
    ∙ ap (λ (ts : List ChunkTable). put_in (front_place roots) piece (shifted (front_place roots) (box_len d) ts media))
    is.tables

-- the digest over a store of zero bytes is that of the covered text
pub digest_is :
    (hash : List ℕ → List ℕ) (digest media : List ℕ) (what : Opening Tree) (d : Definition) (f : Front)
    → (k : IsDraftedOver media what d f) → IsRootsDigest hash digest (with_blank f media)
    → digest ≡ hash (front_covered (box_len d) media k.roots)
digest_is hash digest media what d f k is =
    let blank : List ℕ = replicate f.store_len 0 in
    let size : length blank ≡ store_size d = length-replicate {A = ℕ} f.store_len 0 ∙ k.is.store in
    let t = the_covered_text_is_known_first (fresh_content d) d.reserve media k.roots blank k.can.can size in
    let roots : List Box = front_with blank (moved_roots (box_len d) media k.roots) in
    is roots (subst (λ (file : List ℕ). HasRoots file roots) (sym (file_is media k.roots d f blank k.is)) t.has_roots)
    ∙ ap hash t.text

-- the new file over a store of zero bytes has root boxes
pub roots_of_new : (media : List ℕ) (what : Opening Tree) (d : Definition) (f : Front)
    → IsDraftedOver media what d f → (roots : List Box) × HasRoots (with_blank f media) roots
roots_of_new media what d f k =
    let blank : List ℕ = replicate f.store_len 0 in
    let size : length blank ≡ store_size d = length-replicate {A = ℕ} f.store_len 0 ∙ k.is.store in
    let t = the_covered_text_is_known_first (fresh_content d) d.reserve media k.roots blank k.can.can size in
    let roots : List Box = front_with blank (moved_roots (box_len d) media k.roots) in
    (roots, subst (λ (file : List ℕ). HasRoots file roots) (sym (file_is media k.roots d f blank k.is)) t.has_roots)

-- ---- a plan

-- what is signed over the claim of these parts is what a plan comes to
pub planned_of :
    (hash : Alg → List ℕ → List ℕ) (media : List ℕ) (what : Opening Tree) (d : Definition) (f : Front) (p : NewParts)
    (known : Option (List ℕ)) (tbs : List ℕ)
    → (k : IsDraftedOver media what d f) → AreFrontParts (hash (new_alg d)) known d f p → known ≡ Some media
    → tbs ≡ deterministic (sig_structure d.protected p.claim)
    → Then (IsBmffStage media what) (IsPlannedIn hash media d) (Ok tbs)
planned_of hash media what d f p known tbs k parts is tbs_is =
    let digest : parts.digest ≡ hash (new_alg d) (front_covered (box_len d) media k.roots) =
    parts.is_digest media is what k in
    let claim =
    parts.parts.claim
    ∙ ap (λ (x : List ℕ). new_claim (hash (new_alg d)) (fresh_content d) (new_bmff_binding (new_alg d) x)) digest in
    let same : tbs ≡ front_signed hash media k.roots d =
    tbs_is ∙ ap (λ (x : List ℕ). deterministic (sig_structure d.protected x)) claim in
    then_next (IsBmffStage media what) (IsPlannedIn hash media d) k.roots (Ok tbs) (bmff_stage media what d f k)
    (unless_passes (plan_refusals media k.roots d) (λ r. r ≡ Ok (front_signed hash media k.roots d)) (Ok tbs) k.is.unrefused (ap Ok same))

-- ---- a build

-- a new file with a message that fills what is reserved is what a build comes to
pub made_of :
    (hash : Alg → List ℕ → List ℕ) (media : List ℕ) (what : Opening Tree) (d : Definition) (f : Front) (p : SignParts)
    (message : List ℕ)
    → (k : IsDraftedOver media what d f) → IsSigned p d.reserve message
    → Then (IsBmffStage media what) (IsMadeIn hash media d p) (Ok (new_file hash media k.roots d message))
made_of hash media what d f p message k signed =
    let enough : reserve_needed d.reserve (length (bare_bytes p)) ≡ None =
    never_some _ (λ n e. a_message_fills_its_reserve_or_needs_more.never_both p d.reserve message signed (n, e)) in
    let none : front_refusals media k.roots d p ≡ [] =
    none_both (plan_refusals media k.roots d) (reserve_refusals d p) k.is.unrefused
    (ap (λ (o : Option ℕ). option_to_list (option_map reserve_too_small o)) enough) in
    then_next (IsBmffStage media what) (IsMadeIn hash media d p) k.roots (Ok (new_file hash media k.roots d message))
    (bmff_stage media what d f k)
    (unless_passes (front_refusals media k.roots d p) (IsNewFile hash media d p k.roots) (Ok (new_file hash media k.roots d message)) none (message, signed, refl))

-- a message that doesn't fit is refused last
pub reserve_refused :
    (hash : Alg → List ℕ → List ℕ) (media : List ℕ) (what : Opening Tree) (d : Definition) (f : Front) (p : SignParts)
    (e : BuildError)
    → IsDraftedOver media what d f → IsReserveRefusal d p e
    → IsRefusedWith (Then (IsBmffStage media what) (IsMadeIn hash media d p)) e
reserve_refused hash media what d f p e k h =
    let first : reserve_refusals d p ≡ reserve_too_small h.0 ∷ [] =
    ap (λ (o : Option ℕ). option_to_list (option_map reserve_too_small o)) h.1 in
    let all : front_refusals media k.roots d p ≡ reserve_too_small h.0 ∷ [] =
    ap (λ (xs : List FrontRefusal). xs ++ reserve_refusals d p) k.is.unrefused ∙ first in
    refused_next (IsBmffStage media what) (IsMadeIn hash media d p) k.roots e (bmff_stage media what d f k)
    (reserve_too_small h.0, unless_first (front_refusals media k.roots d p) (IsNewFile hash media d p k.roots) (reserve_too_small h.0) [] all, h.2)

-- a store of these parts, put in by the draft, makes the new file
pub ready_of :
    (hash : Alg → List ℕ → List ℕ) (media : List ℕ) (what : Opening Tree) (d : Definition) (r : Ready) (p : NewParts)
    (known : Option (List ℕ)) (message : List ℕ)
    → (k : IsDraftedOver media what d r.front) → (parts : AreFrontParts (hash (new_alg d)) known d r.front p)
    → known ≡ Some media
    → length message ≡ d.reserve
    → r.store ≡ tree_bytes (new_store (hash (new_alg d)) (fresh_content d) (new_bmff_binding (new_alg d) parts.digest) message)
    → IsReady media r (new_file hash media k.roots d message)
ready_of hash media what d r p known message k parts is filled store_is =
    let h : List ℕ → List ℕ = hash (new_alg d) in
    let digest : parts.digest ≡ h (front_covered (box_len d) media k.roots) = parts.is_digest media is what k in
    let len : bmff_len (fresh_content d) (length message) ≡ box_len d = ap (bmff_len (fresh_content d)) filled in
    let store : r.store ≡ tree_bytes (front_store h (fresh_content d) message media k.roots) = store_is
    ∙ ap (λ (x : List ℕ). tree_bytes (new_store h (fresh_content d) (new_bmff_binding (new_alg d) x) message)) digest
    ∙ ap (λ (n : ℕ). tree_bytes (new_store h (fresh_content d) (new_bmff_binding (new_alg d) (h (front_covered n media k.roots))) message)) (sym len) in
    record {
      file = sym (file_is media k.roots d r.front r.store k.is
          ∙ ap
          (λ (x : List ℕ). put_in (front_place k.roots) (box_bytes (c2pa_box x)) (moved_media (box_len d) media k.roots))
          store
          ∙ ap (λ (n : ℕ). put_in (front_place k.roots) (box_bytes (c2pa_box (tree_bytes (front_store h (fresh_content d) message media k.roots)))) (moved_media n media k.roots)) (sym len));
      start = sym k.is.place;
      len = len ∙ ap (λ (n : ℕ). c2pa_frame_len + n) (sym k.is.store);
    }

-- what is ready behind a stage that passed
pub ready_next :
    {A : Type 0} (media : List ℕ) (First : Result A FrontRefusal → Type 0)
    (Next : A → Result NewFile FrontRefusal → Type 0) (a : A) (r : Result Ready BuildError)
    → First (Ok a) → IsReadyFor media (Next a) r → IsReadyFor media (Then First Next) r
ready_next media First Next a (Ok x) first h = (h.0, record { first = Ok a; is_first = first; next = h.1 }, h.2)
ready_next media First Next a (Err e) first h = outside_map e (refused_next First Next a e first) h

-- What is kept of a manifest is what it is read as.
use Rattle.std.proofs.Common.{◌≡◌, ℕ, ◌+◌, ◌<◌, ◌≤◌, Bool, false, List, [], ◌∷◌, ◌++◌, length, take, map, Option, Some, None, IfSome, slice_get, option_map, option_and_then, refl, ap, ap₂, ◌∙◌, subst}
use Rattle.std.specs.List.{AllZip}
use Rattle.c2_spec.specs.C2pa.Claim.{claim_of}
use Rattle.c2_spec.specs.Jumbf.Tree.{Tree}
use Rattle.c2_spec.specs.Jumbf.Boxes.{box_at, any_label, any_contents}
use Rattle.c2_spec.specs.C2pa.Manifest.{Manifest, Superbox, IsStoreOf, superbox_at, claim_bytes, claim_version_of, manifest_at, manifests_of}
use Rattle.c2_spec.specs.declared.store.ManifestBoxes.{ManifestBoxes}
use Rattle.std.proofs.lemmas.Option.{slice_get-get_or}
use Rattle.c2_read_manifests.proofs.ParsingLemmas.{zip_more, zip_all}
use Rattle.c2_spec.specs.C2pa.Sign1.{SignParts}
use Rattle.c2_spec.specs.declared.claim.Claim.{Claim}
use Rattle.c2_rules.specs.Readings.{Reading, ReadBox, IsReadBox, IsReading, AreReadings, IsParsed, IsMessageOf}
use Rattle.c2_rules.specs.declared.parsed.Parsed.{Parsed}

-- the boxes in what a list of boxes is read as are the boxes of that list
same_boxes : (bs : List Superbox) (rs : List ReadBox) → AllZip IsReadBox bs rs → map (λ (b : ReadBox). b.boxed) rs ≡ bs
same_boxes [] [] h = refl
same_boxes [] (r ∷ rs) h = absurd h
same_boxes (b ∷ bs) [] h = absurd h
same_boxes (b ∷ bs) (r ∷ rs) h = ap₂ (λ (x : Superbox) (xs : List Superbox). x ∷ xs) h.0.same (same_boxes bs rs h.1)

-- a manifest of these parts, written short
abbrev made : Option (List ℕ) → List ℕ → Bool → List Superbox → Option Superbox → List Superbox → Manifest
made label contents is_update claims signature assertions =
    record
    { label = label; contents = contents; is_update = is_update; claims = claims; signature = signature; assertions = assertions }

-- what is kept of a manifest's label, contents, boxes, claim and message is a reading of the manifest that has these boxes
pub kept_is : (t : Tree) (m : ManifestBoxes) (label : Option (List ℕ)) (contents : List ℕ) (cs : List Superbox)
    (sign : Option Superbox) (claim : Parsed Claim) (message : Option SignParts) (bs : List ReadBox)
    → label ≡ any_label (box_at t m.whole).box → contents ≡ any_contents (box_at t m.whole).box
    → cs ≡ map (superbox_at t) m.claims → sign ≡ option_map (superbox_at t) m.signature
    → AllZip IsReadBox (map (superbox_at t) m.assertions) bs
    → IsParsed (claim_of (claim_version_of cs)) (claim_bytes cs) claim
    → IsMessageOf (option_and_then (λ (b : Superbox). b.item) sign) message
    → IsReading (manifest_at t m) (record {
      manifest = made label contents m.is_update cs sign (map (λ (b : ReadBox). b.boxed) bs);
      claim = claim;
      message = message;
      boxes = bs;
    })
kept_is t m label contents cs sign claim message bs named held listed signed read parsed asked =
    let boxes : List Superbox = map (λ (b : ReadBox). b.boxed) bs in
    let own_label : Option (List ℕ) = any_label (box_at t m.whole).box in
    let own_contents : List ℕ = any_contents (box_at t m.whole).box in
    record {
      same =
          ap₂ (λ (x : Option (List ℕ)) (y : List ℕ). made x y m.is_update cs sign boxes) named held
          ∙ ap₂ (λ (x : List Superbox) (y : Option Superbox). made own_label own_contents m.is_update x y boxes) listed
          signed
          ∙ ap
          (made own_label own_contents m.is_update (map (superbox_at t) m.claims) (option_map (superbox_at t) m.signature))
          (same_boxes (map (superbox_at t) m.assertions) bs read);
      claim =
          subst (λ (x : List Superbox). IsParsed (claim_of (claim_version_of x)) (claim_bytes x) claim) listed parsed;
      message =
          subst (λ (x : Option Superbox). IsMessageOf (option_and_then (λ (b : Superbox). b.item) x) message) signed
          asked;
      boxes = read;
    }

-- ---- the manifests of a store

-- a manifest's indices that are all empty, to name a place past the end
abbrev no_boxes : ManifestBoxes
no_boxes = record { whole = 0; is_update = false; claims = []; signature = None; assertions = [] }

-- a reading of the manifest that has the boxes at a place is a reading of the manifest at that place, if one is there
pub kept_there : (t : Tree) (o : Option ManifestBoxes) (m : ManifestBoxes) (r : Reading) → Some m ≡ o
    → IsReading (manifest_at t m) r → IfSome o (λ n. IsReading (manifest_at t n) r)
kept_there t o m r at h = subst (λ (p : Option ManifestBoxes). IfSome p (λ n. IsReading (manifest_at t n) r)) at h

-- readings of a store's first `k` manifests and a reading of the next are readings of the first `k + 1`
pub kept_more : (t : Tree) (s : List ManifestBoxes) (k : ℕ) (old new : List Reading) (r : Reading) → k < length s
    → AllZip IsReading (map (manifest_at t) (take k s)) old → new ≡ old ++ r ∷ []
    → IfSome (slice_get s k) (λ m. IsReading (manifest_at t m) r)
    → AllZip IsReading (map (manifest_at t) (take (k + 1) s)) new
kept_more t s k old new r lt so_far is one =
    zip_more IsReading (manifest_at t) s k no_boxes old new r lt so_far is
    (subst (λ (o : Option ManifestBoxes). IfSome o (λ m. IsReading (manifest_at t m) r)) (slice_get-get_or s k no_boxes lt) one)

-- readings of as many manifests as a store has, or more, are readings of all its manifests
pub kept_all : (t : Tree) (s : List ManifestBoxes) (k : ℕ) (old : List Reading) → IsStoreOf t s → length s ≤ k
    → AllZip IsReading (map (manifest_at t) (take k s)) old → AreReadings (manifests_of t) old
kept_all t s k old store le so_far =
    subst (λ (x : List ManifestBoxes). AllZip IsReading (map (manifest_at t) x) old) store.same
    (zip_all IsReading (manifest_at t) s k old le so_far)

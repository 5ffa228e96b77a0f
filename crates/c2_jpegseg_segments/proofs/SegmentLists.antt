-- Lemmas on lists of segments.
use Rattle.std.proofs.Common.{◌≡◌, ℕ, ◌+◌, ◌⊎◌, inl, inr, List, [], ◌∷◌, ◌++◌, length, refl, sym, ap, ◌∙◌, append_assoc, arith, length-append}
use Rattle.std.proofs.lemmas.List.{append-nil}
use Rattle.std.proofs.lemmas.List.Concat.{flat_map-append}
use Rattle.std.specs.List.{flat_map}
use Rattle.c2_spec.specs.Jpeg.Segments.{Segment, IsSegment, HasSegments, place_after, segment_bytes, start_of_image}
use Rattle.c2_lemmas.proofs.Each.{each_push}

-- where the rest begins after two lists of segments
pub place-append : (xs ys : List Segment) → place_after (xs ++ ys) ≡ place_after xs + length (flat_map segment_bytes ys)
place-append xs ys = let e : length (flat_map segment_bytes (xs ++ ys)) ≡ length (flat_map segment_bytes xs) + length (flat_map segment_bytes ys) = ap length (flat_map-append segment_bytes xs ys) ∙ length-append (flat_map segment_bytes xs) (flat_map segment_bytes ys) in omega arith

-- one more segment
pub begins-push : (file : List ℕ) (segments : List Segment) (s : Segment) (rest more : List ℕ)
    → HasSegments file segments rest → IsSegment s → rest ≡ segment_bytes s ++ more
    → HasSegments file (segments ++ s ∷ []) more
begins-push file segments s rest more b legal e = record {
  bytes = b.bytes ∙ ap (λ (x : List ℕ). (start_of_image ++ flat_map segment_bytes segments) ++ x) e
      ∙ append_assoc start_of_image (flat_map segment_bytes segments) (segment_bytes s ++ more)
      ∙ ap (λ (x : List ℕ). start_of_image ++ x)
      (sym (append_assoc (flat_map segment_bytes segments) (segment_bytes s) more)
      ∙ ap (λ (x : List ℕ). x ++ more)
      (ap (λ (x : List ℕ). flat_map segment_bytes segments ++ x) (sym (append-nil (segment_bytes s)))
      ∙ sym (flat_map-append segment_bytes segments (s ∷ []))))
      ∙ sym (append_assoc start_of_image (flat_map segment_bytes (segments ++ s ∷ [])) more);
  each = each_push IsSegment segments s b.each legal;
}

-- Two ways to cut one list: one of the first parts begins with the other.
pub two_cuts : {X : Type 0} (xs ys zs ws : List X) → xs ++ ys ≡ zs ++ ws
    → ((k : List X) × (xs ≡ zs ++ k)) ⊎ ((y : X) × (k : List X) × (zs ≡ xs ++ y ∷ k) × (ys ≡ y ∷ (k ++ ws)))
two_cuts {X} xs ys [] ws e = inl (xs, refl)
two_cuts {X} [] ys (z ∷ zs) ws e = inr (z, zs, refl, e)
two_cuts {X} (x ∷ xs) ys (z ∷ zs) ws e =
    let head : x ≡ z = cc (e) in
    let tail : xs ++ ys ≡ zs ++ ws = cc (e) in
    extend x z head (two_cuts xs ys zs ws tail)
  where
    extend : (x z : X) → x ≡ z
        → ((k : List X) × (xs ≡ zs ++ k)) ⊎ ((y : X) × (k : List X) × (zs ≡ xs ++ y ∷ k) × (ys ≡ y ∷ (k ++ ws)))
        → ((k : List X) × (x ∷ xs ≡ (z ∷ zs) ++ k)) ⊎ ((y : X) × (k : List X) × (z ∷ zs ≡ (x ∷ xs) ++ y ∷ k) × (ys ≡ y ∷ (k ++ ws)))
    extend x z head (inl a) = inl (a.0, ap (λ t. t ∷ xs) head ∙ ap (λ (t : List X). z ∷ t) a.1)
    extend x z head (inr a) = inr (a.0, a.1, ap (λ t. t ∷ zs) (sym head) ∙ ap (λ (t : List X). x ∷ t) a.2, a.3)

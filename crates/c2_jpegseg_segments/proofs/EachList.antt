-- Each file is a list of segments that ends, or a test of a marker or a length fails, and it is one of them.
use Rattle.std.proofs.Common.{◌≡◌, ℕ, zero, suc, ◌+◌, ◌^◌, ◌<◌, ◌≤◌, ◌⊎◌, inl, inr, ⊎_elim, Bool, ◌&&◌, true, false, List, [], ◌∷◌, ◌++◌, length, get_or, take, drop, None, refl, sym, subst, arith, eqb}
use Rattle.std.proofs.lemmas.List.{take-append-drop}
use Rattle.std.proofs.lemmas.List.Elements.{recursion_from_All}
use Rattle.std.proofs.lemmas.Bool.{cases_lt}
use Rattle.std.specs.List.{All}
use Rattle.c2_base.specs.declared.limits.TheConstants.{FILE_LEN_LIMIT}
use Rattle.c2_base.specs.declared.media.MediaError.{MediaError}
use Rattle.c2_spec.specs.Jpeg.Segments.{Segment, HasSegments, place_after, segment_bytes}
use Rattle.c2_spec.specs.Jpeg.Places.{IsOfSegments, SegmentsFault, too_large, not_media, at_marker}
use Rattle.c2_jpegseg_segments.specs.Walks.{Walks}
use Rattle.c2_jpegseg_segments.proofs.EachFile.{Bytes, Front, stops, breaks, goes, front_of, shorter}
use Rattle.c2_jpegseg_segments.proofs.SegmentLists.{begins-push}
use Rattle.c2_jpegseg_segments.proofs.Starts.{too_short, begun_is}
use Rattle.c2_lemmas.proofs.Each.{each_back}

-- the file is such a list, or a test fails
abbrev Ended : List ℕ → Type 0
Ended file =
    ((segments : List Segment) × IsOfSegments file segments) ⊎ ((fault : MediaError) × SegmentsFault file fault)

-- some segments of the file, and the bytes after them
record Reached (file : List ℕ) (segments : List Segment) (rest : List ℕ) : Type 0 where
  fits : length file < FILE_LEN_LIMIT
  bytes : Bytes rest
  begins : HasSegments file segments rest

-- one segment
next : (file : List ℕ) (segments : List Segment) (rest : List ℕ) → Reached file segments rest
    → ((further : List Segment) (more : List ℕ) → length more < length rest → Reached file further more → Ended file)
    → Ended file
next file segments rest w onwards = go (front_of (place_after segments) rest w.bytes)
  where
    go : Front (place_after segments) rest → Ended file
    go (stops ends) = inl (segments, record { fits = w.fits; rest = rest; begins = w.begins; ends = ends })
    go (breaks e fault) = inr (e, at_marker segments rest e w.fits w.begins fault)
    go (goes s more legal shape) = onwards (segments ++ s ∷ []) more (shorter s rest more shape) (record {
      fits = w.fits;
      bytes = each_back (λ b. b < 256) (segment_bytes s) more (subst Bytes shape w.bytes);
      begins = begins-push file segments s rest more w.begins legal shape;
    })

-- and all the others
walk : (n : ℕ) (file : List ℕ) (segments : List Segment) (rest : List ℕ) → length rest < n → Reached file segments rest
    → Ended file
walk zero file segments rest less w = absurd (omega arith)
walk (suc n) file segments rest less w =
    next file segments rest w (λ further more shorter onward. walk n file further more (omega arith) onward)

-- the first two bytes
begun : (file : List ℕ) → Bytes file → length file < FILE_LEN_LIMIT → 2 ≤ length file → Ended file
begun file bytes fits two = go (eqb (get_or file 0 0) 255 && eqb (get_or file 1 0) 216) refl
  where
    go : (t : Bool) → t ≡ (eqb (get_or file 0 0) 255 && eqb (get_or file 1 0) 216) → Ended file
    go true is =
        let w : Walks file 2 None = begun_is file (get_or file 0 0) (get_or file 1 0) true two refl refl is in
        walk (length (drop 2 file) + 1) file w.segments (drop 2 file) (omega arith) (record {
          fits = fits;
          bytes =
              each_back (λ b. b < 256) (take 2 file) (drop 2 file) (subst Bytes (sym (take-append-drop 2 file)) bytes);
          begins = w.begins;
        })
    go false is = inr (_, not_media fits (begun_is file (get_or file 0 0) (get_or file 1 0) false two refl refl is))

-- each file comes to one of the two
pub each_ends : (file : List ℕ) → All (λ b. b < 2 ^ 8) file
    → ((segments : List Segment) × IsOfSegments file segments) ⊎ ((fault : MediaError) × SegmentsFault file fault)
each_ends file h = ⊎_elim
    (λ fits. ⊎_elim (λ short. inr (_, not_media fits (too_short file short))) (λ two. begun file (recursion_from_All (λ b. b < 2 ^ 8) file h) fits two) (cases_lt (length file) 2))
    (λ large. inr (_, too_large large))
    (cases_lt (length file) FILE_LEN_LIMIT)

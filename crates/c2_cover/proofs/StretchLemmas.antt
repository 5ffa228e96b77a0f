-- What a reader reads next, and what is left then.
use Rattle.std.proofs.Common.{◌≡◌, ℕ, suc, ◌+◌, ◌-◌, ◌<◌, ◌≤◌, min, List, [], ◌∷◌, ◌++◌, Option, length, take, drop, refl, sym, ap, ap₂, subst, ◌∙◌, arith, append_assoc}
use Rattle.std.specs.Int.{w64, to_be_bytes}
use Rattle.std.specs.Option.{ForSome}
use Rattle.std.proofs.lemmas.List.{drop_all, take-append-drop, take_at, drop-drop, length-drop, nil_from_length}
use Rattle.c2_base.specs.declared.values.Range.{Range}
use Rattle.c2_spec.specs.Cover.{is_excluded, kept_from}
use Rattle.c2_cover.specs.Covers.{AreMerged, Covered, IsStart, excluded_of, Reading, ReadsNext, rest_of, left_of, kept_count}
use Rattle.c2_cover.specs.Stretches.{IsGiven, IsReady, IsReadTo, due_of, range_place, reading, offset_place}
use Rattle.c2_cover.specs.BoxOffsets.{AreBoxOffsets, told_from}
use Rattle.c2_cover.specs.declared.offsets.BoxOffset.{BoxOffset}
use Rattle.c2_cover.proofs.MergedLemmas.{merged_lower}
use Rattle.c2_cover.proofs.PassingLemmas.{kept_others}
use Rattle.c2_cover.proofs.ReadingLemmas.{piece_count, range_count}
use Rattle.c2_cover.proofs.ToldLemmas.{told_past, told_piece, words_lower, words_past, words_rise}

-- ---- past a range

-- past the range that begins here
pub read_past : (r : Reading) (first : Range) (others : List Range) → r.ranges ≡ first ∷ others → r.at ≡ first.start
    → AreMerged r.size r.at r.ranges → AreBoxOffsets r.size r.ranges r.at r.offsets
    → IsReadTo r (first.start + first.length) others
read_past r first others e a m w =
    let merged : AreMerged r.size r.at (first ∷ others) = subst (λ (rs : List Range). AreMerged r.size r.at rs) e m in
    let offsets : AreBoxOffsets r.size (first ∷ others) first.start r.offsets =
    subst (λ k. AreBoxOffsets r.size (first ∷ others) k r.offsets) a
    (subst (λ (rs : List Range). AreBoxOffsets r.size rs r.at r.offsets) e w) in
    let later : AreBoxOffsets r.size others (first.start + first.length) r.offsets =
    words_past r.size first others r.offsets offsets in
    let i : first.start + first.length ≤ r.size = merged.2 in
    record {
      inside = i;
      merged = merged.3;
      offsets = later;
      text =
          λ file l. ap (λ (rs : List Range). told_from (is_excluded rs) r.offsets r.at file) e
          ∙ told_past first others r.offsets r.at file a
          (words_rise r.size (first.start + first.length) others r.offsets later) (omega (arith, l, i));
      left =
          ap (λ (rs : List Range). kept_count (is_excluded rs) r.at (r.size - r.at)) e
          ∙ range_count first others r.at r.size a i;
    }

-- ---- a box offset begun

-- the box offset that stands here
pub ready_offset : (r : Reading) (at : ℕ) (ranges_left : List Range) (w : BoxOffset) (others : List BoxOffset)
    → IsReadTo r at ranges_left → r.offsets ≡ w ∷ others → w.at ≡ at → r.due ≡ []
    → IsReady r (reading r.size at ranges_left others w.start 0)
ready_offset r at ranges_left w others s e here none =
    let offsets : AreBoxOffsets r.size ranges_left at (w ∷ others) =
    subst (λ (ws : List BoxOffset). AreBoxOffsets r.size ranges_left at ws) e s.offsets in
    record {
      size = refl;
      inside = s.inside;
      merged = s.merged;
      offsets = subst (λ k. AreBoxOffsets r.size ranges_left k others) here offsets.3;
      text = λ file l.
          let zero' : w.at - at ≡ 0 = omega (arith, here) in
          ap (λ (xs : List ℕ). xs ++ told_from (is_excluded r.ranges) r.offsets r.at file) none
          ∙ s.text file l ∙ ap (λ (ws : List BoxOffset). told_from (is_excluded ranges_left) ws at file) e
          ∙ ap
          (λ k. kept_from (is_excluded ranges_left) at (take k (drop at file)) ++ (to_be_bytes w64 w.start ++ told_from (is_excluded ranges_left) others w.at file))
          zero'
          ∙ ap (λ k. to_be_bytes w64 w.start ++ told_from (is_excluded ranges_left) others k file) here;
      left =
          let no_due : length r.due ≡ 0 = ap length none in
          let one_more : length r.offsets ≡ suc (length others) = ap length e in
          omega (arith, no_due, one_more, s.left);
      later = λ z. absurd (omega (arith, z));
    }

-- ---- the bytes of a box offset

-- nothing is due where all bytes of a box offset were given
pub due_none : (start done : ℕ) → 8 ≤ done → due_of start done ≡ []
due_none start done l = drop_all done (to_be_bytes w64 start) l

-- the next bytes of a box offset come next
pub given_next : (known : Option (List ℕ)) (old : Reading) (at start done n : ℕ) (ranges_left : List Range)
    (offsets : List BoxOffset) (before buf : List ℕ) → ForSome known (λ file. length file ≡ old.size)
    → IsReady old (reading old.size at ranges_left offsets start done) → IsGiven (due_of start done) before buf n
    → 0 < length before → ReadsNext known old (reading old.size at ranges_left offsets start (done + n)) buf n
given_next known old at start done n ranges_left offsets before buf fits ready given room =
    let due : List ℕ = due_of start done in
    let rest : drop n due ≡ due_of start (done + n) = drop-drop n done (to_be_bytes w64 start) in
    let parts : due ≡ take n buf ++ due_of start (done + n) =
    sym (take-append-drop n due) ∙ ap₂ (λ (xs ys : List ℕ). xs ++ ys) (sym given.bytes) rest in
    let short : length (due_of start (done + n)) ≡ length due - n = sym (ap length rest) ∙ length-drop n due in
    let some : 0 < n = given.some room in
    record {
      piece = λ file known'.
          ready.text file (omega (arith, fits file known'))
          ∙ ap (λ (xs : List ℕ). xs ++ told_from (is_excluded ranges_left) offsets at file) parts
          ∙ append_assoc (take n buf) (due_of start (done + n)) (told_from (is_excluded ranges_left) offsets at file);
      left = omega (arith, ready.left, short, given.most);
      in_buf = given.room;
      end = λ z. absurd (omega (arith, z, some));
      nothing = λ z. absurd (omega (arith, z, some));
    }

-- ---- a stretch of the file

-- a stretch ends where the next range begins or the next box offset stands, or at the end of the file
pub record UpTo (size at end : ℕ) (ranges_left : List Range) (ws : List BoxOffset) : Type 0 where
  pub ordered : at ≤ end
  pub inside : end ≤ size
  pub merged : AreMerged size end ranges_left
  pub offsets : AreBoxOffsets size ranges_left end ws
  pub last : at ≡ end → at ≡ size

-- so far nothing is excluded and no box offset stands
pub up_to : (size at end : ℕ) (ranges_left : List Range) (offsets : List BoxOffset) → at ≤ size
    → AreMerged size (at + 1) ranges_left → AreBoxOffsets size ranges_left (at + 1) offsets
    → end ≡ min (range_place size ranges_left) (offset_place size offsets) → UpTo size at end ranges_left offsets
up_to size at end [] [] i m w e =
    record
    { ordered = omega (arith, e, i); inside = omega (arith, e); merged = tt; offsets = tt; last = λ z. omega (arith, z, e) }
up_to size at end (r ∷ rs) [] i m w e =
    record
    { ordered = omega (arith, e, i, m.0); inside = omega (arith, e); merged = (omega (arith, e), m.1, m.2, m.3); offsets = tt; last = λ z. omega (arith, z, e, m.0) }
up_to size at end [] (x ∷ xs) i m w e =
    record
    { ordered = omega (arith, e, i, w.0); inside = omega (arith, e); merged = tt; offsets = (omega (arith, e), w.1, w.2, w.3); last = λ z. omega (arith, z, e, w.0) }
up_to size at end (r ∷ rs) (x ∷ xs) i m w e =
    record
    { ordered = omega (arith, e, i, m.0, w.0); inside = omega (arith, e, w.1); merged = (omega (arith, e), m.1, m.2, m.3); offsets = (omega (arith, e), w.1, w.2, w.3); last = λ z. absurd (omega (arith, z, e, m.0, w.0)) }

-- what is due where nothing is
nothing_due : (old new : Reading) → IsReady old new → length new.due ≡ 0 → (file : List ℕ) → old.size ≤ length file
    → rest_of old file ≡ told_from (is_excluded new.ranges) new.offsets new.at file
nothing_due old new ready none file l =
    ready.text file l
    ∙ ap (λ (xs : List ℕ). xs ++ told_from (is_excluded new.ranges) new.offsets new.at file)
    (nil_from_length new.due none)

-- the first bytes of a stretch come next
pub stretch_next :
    (known : Option (List ℕ)) (old : Reading) (at start done end n : ℕ) (ranges_left : List Range)
    (offsets : List BoxOffset) (buf : List ℕ)
    → ForSome known (λ file. length file ≡ old.size) → IsReady old (reading old.size at ranges_left offsets start done)
    → length (due_of start done) ≡ 0
    → UpTo old.size at end ranges_left offsets → n ≤ end - at → n ≤ length buf → (n ≡ 0 → at ≡ end)
    → ForSome known (λ file. take n (drop at file) ≡ take n buf)
    → ReadsNext known old (reading old.size (at + n) ranges_left offsets start done) buf n
stretch_next known old at start done end n ranges_left offsets buf fits ready none u l room last read =
    let due : due_of start done ≡ [] = nil_from_length (due_of start done) none in
    let counted : kept_count (is_excluded ranges_left) at (old.size - at) ≡ n + kept_count (is_excluded ranges_left) (at + n) (old.size - (at + n)) =
    piece_count old.size end at n ranges_left u.merged (omega (arith, l, u.ordered))
    (omega (arith, l, u.ordered, u.inside)) in
    let all : (file : List ℕ) → length file ≡ old.size → rest_of old file ≡ told_from (is_excluded ranges_left) offsets at file =
    λ file e. nothing_due old (reading old.size at ranges_left offsets start done) ready none file (omega (arith, e)) in
    record {
      piece = λ file known'.
          all file (fits file known')
          ∙ told_piece old.size end at n ranges_left offsets file u.merged
          (words_rise old.size (at + n) ranges_left offsets (words_lower old.size end (at + n) ranges_left offsets (omega (arith, l, u.ordered)) u.offsets))
          (omega (arith, l, u.ordered)) (omega (arith, l, u.ordered, u.inside, fits file known'))
          ∙ ap₂ (λ (xs ys : List ℕ). xs ++ (ys ++ told_from (is_excluded ranges_left) offsets (at + n) file)) (read file known') (sym due);
      left = omega (arith, ready.left, counted);
      in_buf = room;
      end = λ z. left_none z;
      nothing = λ z file known'. all file (fits file known') ∙ at_end z file (fits file known');
    }
  where
    at_size : n ≡ 0 → at ≡ old.size
    at_size z = u.last (last z)

    no_words : n ≡ 0 → (ws : List BoxOffset) → offsets ≡ ws → ws ≡ []
    no_words z [] e = refl
    no_words z (w ∷ ws) e =
        absurd (let a : AreBoxOffsets old.size ranges_left end (w ∷ ws) = subst (λ (xs : List BoxOffset). AreBoxOffsets old.size ranges_left end xs) e u.offsets in omega (arith, a.0, a.1, at_size z, last z))

    left_none : n ≡ 0 → left_of old ≡ 0
    left_none z =
        let empty : offsets ≡ [] = no_words z offsets refl in
        let gone : old.size - at ≡ 0 = omega (arith, at_size z) in
        let kept : kept_count (is_excluded ranges_left) at (old.size - at) ≡ 0 =
        ap (kept_count (is_excluded ranges_left) at) gone in
        omega (arith, ready.left, none, ap length empty, kept)

    at_end : n ≡ 0 → (file : List ℕ) → length file ≡ old.size → told_from (is_excluded ranges_left) offsets at file ≡ []
    at_end z file len =
        let empty : offsets ≡ [] = no_words z offsets refl in
        let gone : drop at file ≡ [] =
        nil_from_length (drop at file) (omega (arith, length-drop at file, len, at_size z)) in
        ap (λ (xs : List BoxOffset). told_from (is_excluded ranges_left) xs at file) empty
        ∙ ap (kept_from (is_excluded ranges_left) at) gone

-- where a stretch is ready, what is still to come is as it was
pub ready_stays : (old : Reading) (at start done : ℕ) (ranges_left : List Range) (offsets : List BoxOffset)
    → IsReady old (reading old.size at ranges_left offsets start done)
    → (at ≤ old.size) × AreMerged old.size at ranges_left × AreBoxOffsets old.size ranges_left at offsets
ready_stays old at start done ranges_left offsets r =
    (r.inside, merged_lower old.size (at + 1) at ranges_left (omega arith) r.merged, r.offsets)

-- the prefix of the buffer that was filled
pub prefix_filled : (filled rest from : List ℕ) (n : ℕ) → length filled ≡ n → filled ≡ take (length filled) from
    → take n from ≡ take n (filled ++ rest)
prefix_filled filled rest from n e is = ap (λ k. take k from) (sym e) ∙ sym is ∙ sym (take_at filled rest n e)

-- all ranges and all box offsets are ahead at the start
pub start_of : (c : Covered) (size : ℕ) (ranges : List Range) (offsets : List BoxOffset) → size ≡ c.size
    → ranges ≡ c.ranges → offsets ≡ c.offsets → IsStart c (reading size 0 ranges offsets 0 8)
start_of c size ranges offsets e f g = record {
  size = e;
  text = λ file. ap₂ (λ (rs : List Range) (ws : List BoxOffset). told_from (is_excluded rs) ws 0 file) f g;
  left =
      let all : size - 0 ≡ c.size = omega (arith, e) in
      let kept : kept_count (is_excluded ranges) 0 (size - 0) ≡ c.size - length (excluded_of c) =
      ap (λ (rs : List Range). kept_count (is_excluded rs) 0 (size - 0)) f
      ∙ ap (kept_count (is_excluded c.ranges) 0) all ∙ kept_others (is_excluded c.ranges) c.size in
      omega (arith, kept, ap length g);
}

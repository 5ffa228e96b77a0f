-- Marks of the numbers that packets have.
use Rattle.std.specs.Prelude.{◌==◌, bit_or, slice_index, slice_set}
use Rattle.std.specs.Int.{bit_at, w8}
use Rattle.std.proofs.Common.{◌≡◌, ◌≢◌, ℕ, ◌*◌, ◌/◌, ◌%◌, ◌^◌, ◌<◌, Bool, true, false, ◌&&◌, ◌||◌, eqb, List, [], ◌∷◌, ◌++◌, length, replicate, refl, sym, ap, ◌∙◌, arith}
use Rattle.std.proofs.lemmas.Bool.{eqb-true, eq-eqb, ne_eqb}
use Rattle.std.proofs.lemmas.List.{get_or-set_same, get_or-set_other, get_or-replicate, length-replicate, length-set}
use Rattle.std.proofs.lemmas.Nat.Bits.{bit_at-zero, bit_at_set_other, bit_at_set_same}
use Rattle.std.specs.declared.option.Option.{Option}
use Rattle.std.specs.declared.option.Option.TheVariants.{Some, None}
use Rattle.c2_base.specs.declared.values.Range.{Range}
use Rattle.c2_base.specs.declared.limits.TheConstants.{FILE_LEN_LIMIT}
use Rattle.c2_spec.specs.Jpeg.Segments.{Segment}
use Rattle.c2_spec.specs.Jpeg.Packets.{packet_in}
use Rattle.c2_spec.specs.Jpeg.Writing.{has_number, IsNumberOf}
use Rattle.c2_spec.specs.Jpeg.Places.{CanSkip, HasNumber}
use Rattle.c2_spec.specs.PutIn.{taken_out}
use Rattle.c2_jpegseg_segments.specs.Packets.{Reads}
use Rattle.c2_jpegseg_segments.specs.Passing.{has_mark, kept, with_mark, Marks, noted, IsLeastFree, HasMarks}
use Rattle.c2_jpegseg_segments.specs.declared.numbers.TheConstants.{MARKS_LEN}
use Rattle.c2_jpegseg_segments.specs.declared.packet.Packet.{Packet}
use Rattle.c2_jpegseg_segments.proofs.Kept.{kept_is, taken-push}
use Rattle.c2_lemmas.proofs.Bools.{or_false, or_true}

-- two numbers that a test tells apart differ
differ : (m n : ℕ) → eqb m n ≡ false → m ≡ n → ⊥
differ m n h e = cc (h, eq-eqb m n e)

-- ---- a bit

-- whether the bit of a number in these bytes is set
abbrev bit_in : List ℕ → ℕ → Bool
bit_in marks n = eqb (bit_at (slice_index marks (n / 8)) (n % 8)) 1

-- the byte with one more bit
abbrev byte_with : ℕ → List ℕ → ℕ
byte_with m marks = bit_or (slice_index marks (m / 8)) (1 * 2 ^ (m % 8) % 2 ^ 8)

-- in that byte this bit is set, and the others are as they were
bit-set : (marks : List ℕ) (m n : ℕ) → m / 8 ≡ n / 8
    → eqb (bit_at (byte_with m marks) (n % 8)) 1 ≡ (bit_in marks n || eqb m n)
bit-set marks m n byte = by (eqb (m % 8) (n % 8)) refl
  where
    small : m % 8 < 8
    small = omega arith

    by : (b : Bool) → eqb (m % 8) (n % 8) ≡ b → eqb (bit_at (byte_with m marks) (n % 8)) 1 ≡ (bit_in marks n || eqb m n)
    by true e =
        let bit : m % 8 ≡ n % 8 = eqb-true (m % 8) (n % 8) e in
        let same : m ≡ n = omega (arith, byte, bit) in
        ap (λ i. eqb (bit_at (byte_with m marks) i) 1) (sym bit)
        ∙ ap (λ v. eqb v 1) (bit_at_set_same w8 (slice_index marks (m / 8)) (m % 8) small)
        ∙ sym (ap (λ b. bit_in marks n || b) (eq-eqb m n same) ∙ or_true (bit_in marks n))
    by false e =
        let other : n % 8 ≢ m % 8 = λ k. differ (m % 8) (n % 8) e (sym k) in
        let apart : m ≢ n = λ k. differ (m % 8) (n % 8) e (ap (λ i. i % 8) k) in
        ap (λ v. eqb v 1) (bit_at_set_other w8 (slice_index marks (m / 8)) (m % 8) small (n % 8) other)
        ∙ ap (λ i. eqb (bit_at (slice_index marks i) (n % 8)) 1) byte
        ∙ sym (ap (λ b. bit_in marks n || b) (ne_eqb m n apart) ∙ or_false (bit_in marks n))

-- so it is in the bytes with that one
bits-set : (marks : List ℕ) (m n : ℕ) → length marks ≡ MARKS_LEN → n < 2 ^ 16
    → bit_in (slice_set marks (m / 8) (byte_with m marks)) n ≡ (bit_in marks n || eqb m n)
bits-set marks m n sized small = by (eqb (m / 8) (n / 8)) refl
  where
    by : (b : Bool) → eqb (m / 8) (n / 8) ≡ b
        → bit_in (slice_set marks (m / 8) (byte_with m marks)) n ≡ (bit_in marks n || eqb m n)
    by true e =
        let byte : m / 8 ≡ n / 8 = eqb-true (m / 8) (n / 8) e in
        let inside : m / 8 < length marks = omega (arith, byte, sized, small) in
        ap (λ i. eqb (bit_at (slice_index (slice_set marks (m / 8) (byte_with m marks)) i) (n % 8)) 1) (sym byte)
        ∙ ap (λ v. eqb (bit_at v (n % 8)) 1) (get_or-set_same marks (m / 8) (byte_with m marks) 0 inside)
        ∙ bit-set marks m n byte
    by false e =
        let other : n / 8 ≢ m / 8 = λ k. differ (m / 8) (n / 8) e (sym k) in
        let apart : m ≢ n = λ k. differ (m / 8) (n / 8) e (ap (λ i. i / 8) k) in
        ap (λ v. eqb (bit_at v (n % 8)) 1) (get_or-set_other marks (m / 8) (n / 8) (byte_with m marks) 0 other)
        ∙ sym (ap (λ b. bit_in marks n || b) (ne_eqb m n apart) ∙ or_false (bit_in marks n))

-- ---- marks

-- with one more mark, that number is marked, and the others are as they were
mark-set : (marks : List ℕ) (m n : ℕ) → length marks ≡ MARKS_LEN → n < 2 ^ 16
    → has_mark (with_mark m marks) n ≡ (has_mark marks n || eqb m n)
unfolding has_mark with_mark
mark-set marks m n sized small = bits-set marks m n sized small

-- there are as many bytes
mark-len : (marks : List ℕ) (m : ℕ) → length (with_mark m marks) ≡ length marks
unfolding with_mark
mark-len marks m = length-set marks (m / 8) (byte_with m marks)

-- no bit, no mark
zero-mark : (n : ℕ) → n < 2 ^ 16 → has_mark (replicate MARKS_LEN 0) n ≡ false
unfolding has_mark
zero-mark n small =
    let inside : n / 8 < MARKS_LEN = omega (arith, small) in
    ap (λ v. eqb (bit_at v (n % 8)) 1) (get_or-replicate {A = ℕ} MARKS_LEN (n / 8) 0 0 inside)
    ∙ ap (λ v. eqb v 1) (bit_at-zero (n % 8))

-- no packet, no mark
pub no-marks : (marks : List ℕ) → marks ≡ replicate MARKS_LEN 0 → Marks marks []
no-marks marks is = record {
  sized = ap length is ∙ length-replicate {A = ℕ} MARKS_LEN 0;
  same = λ n small. ap (λ (xs : List ℕ). has_mark xs n) is ∙ zero-mark n small;
}

-- the packet that a segment is marks its number
noted-mark : (s : Segment) (marks : List ℕ) (packet : Option Packet) (n : ℕ) → length marks ≡ MARKS_LEN → n < 2 ^ 16
    → Reads s packet → has_mark (noted packet marks) n ≡ (has_mark marks n || has_number n s)
noted-mark s marks None n sized small none =
    sym (ap (λ b. has_mark marks n || (b && ((packet_in s).en == n))) none ∙ or_false (has_mark marks n))
noted-mark s marks (Some p) n sized small reads = mark-set marks p.en n sized small ∙ ap (λ b. has_mark marks n || b) (sym number)
  where
    en : (packet_in s).en ≡ p.en
    en = ap (λ q. q.en) (sym reads.1)

    number : has_number n s ≡ eqb p.en n
    number = ap (λ b. b && ((packet_in s).en == n)) reads.0 ∙ ap (λ m. eqb m n) en

-- as many bytes as before
pub noted-len : (packet : Option Packet) (marks : List ℕ) → length (noted packet marks) ≡ length marks
noted-len None marks = refl
noted-len (Some p) marks = mark-len marks p.en

-- the marks of segments with one more
pub marks-push : (marks : List ℕ) (ss : List Segment) (s : Segment) (packet : Option Packet) → Reads s packet
    → Marks marks ss → Marks (noted packet marks) (ss ++ s ∷ [])
marks-push marks ss s packet reads m = record {
  sized = noted-len packet marks ∙ m.sized;
  same =
      λ n small. noted-mark s marks packet n m.sized small reads ∙ ap (λ b. b || has_number n s) (m.same n small)
      ∙ sym (taken-push ss s n);
}

-- the least number without a mark is free
number-of : (marks : List ℕ) (ss : List Segment) (r : Option ℕ) → Marks marks ss → IsLeastFree marks r → IsNumberOf ss r
number-of marks ss (Some n) m h = record {
  least = h.0;
  most = h.1;
  free = sym (m.same n h.1) ∙ h.2;
  first = λ k low high. sym (m.same k (omega (arith, high, h.1))) ∙ h.3 k low high;
}
number-of marks ss None m h = λ k low high. sym (m.same k high) ∙ h k low high

-- so it is in the file without the range
pub has-number : (file : List ℕ) (skip : Range) (marks : List ℕ) (r : Option ℕ) → length file < FILE_LEN_LIMIT
    → HasMarks file skip marks → IsLeastFree marks r → CanSkip file skip
    → HasNumber (taken_out skip.start skip.length file) r
has-number file skip marks r small m h can = record {
  segments = kept skip m.passes.segments;
  is_of = kept_is file skip m.passes.segments _ small m.passes.begins m.ends can;
  number_is = number-of marks (kept skip m.passes.segments) r m.passes.state h;
}

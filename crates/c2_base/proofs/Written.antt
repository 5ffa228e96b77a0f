-- What was written to a sink, one part behind another.
use Rattle.c2_base.specs.Sink.{Grows, HasWrittenPrefix, OkWithinSpare, TakesPrefix, spare_less, then_written}
use Rattle.c2_base.specs.Source.{StaysSource}
use Rattle.std.proofs.Common.{List, None, Option, Result, Some, [], ap, append_assoc, arith, length, length-append, min, refl, sym, take, ℕ, ◌++◌, ◌+◌, ◌-◌, ◌∙◌, ◌≡◌}
use Rattle.std.proofs.Math.Seq.{take-append-add}
use Rattle.std.proofs.lemmas.List.{append-nil, length-take, take-append-le, take-take, take_all}

-- one text after another
pub appended_twice : (a : Option (List ℕ)) (s t : List ℕ) → then_written (then_written a s) t ≡ then_written a (s ++ t)
appended_twice None s t = refl
appended_twice (Some w) s t = ap Some (append_assoc w s t)

-- nothing was written
pub grows_none : (a : Option (List ℕ)) → Grows a a
grows_none None = ([], refl)
grows_none (Some w) = ([], ap Some (sym (append-nil w)))

-- a prefix of the first list is one of both
pub prefix_before : (old new : Option (List ℕ)) (xs ys : List ℕ) → HasWrittenPrefix old new xs
    → HasWrittenPrefix old new (xs ++ ys)
prefix_before old new xs ys h =
    let n : ℕ = min h.0 (length xs) in
    let cut : take n xs ≡ take h.0 xs = same_cut h.0 xs in
    (n, h.1 ∙ ap (then_written old) (sym cut) ∙ ap (then_written old) (sym (take-append-le n xs ys (omega arith))))
  where
    same_cut : (m : ℕ) (zs : List ℕ) → take (min m (length zs)) zs ≡ take m zs
    same_cut m zs =
        sym (take-take (min m (length zs)) m zs (omega arith))
        ∙ take_all (min m (length zs)) (take m zs) (omega (arith, length-take m zs))

-- two calls, one after the other
pub source_stays : {S : Type 0} (len : S → ℕ) (known : S → Option (List ℕ)) (faults : S → ℕ) (a b c : S)
    → StaysSource len known faults a b → StaysSource len known faults b c → StaysSource len known faults a c
source_stays len known faults a b c h k =
    record
    { same_len = k.same_len ∙ h.same_len; same_bytes = k.same_bytes ∙ h.same_bytes; later = omega (arith, h.later, k.later) }

-- a spare that falls twice
pub spare_less_two : (s : Option ℕ) (m n : ℕ) → spare_less (spare_less s m) n ≡ spare_less s (m + n)
spare_less_two None m n = refl
spare_less_two (Some s) m n = let e : s - m - n ≡ s - (m + n) = omega arith in ap Some e

-- what was written, and then nothing
pub then_nothing : (w : Option (List ℕ)) → w ≡ then_written w []
then_nothing None = refl
then_nothing (Some w) = ap Some (sym (append-nil w))

-- a prefix of the first list is one of both
pub prefix-front :
    {K : Type 0} (written : K → Option (List ℕ)) (spare : K → Option ℕ) (front back : List ℕ) (old new : K)
    → TakesPrefix written spare front old new → TakesPrefix written spare (front ++ back) old new
prefix-front written spare front back old new h = record {
  count = h.count;
  in_piece = omega (arith, h.in_piece, length-append front back);
  prefix = h.prefix ∙ ap (λ p. then_written (written old) p) (sym (take-append-le h.count front back h.in_piece));
  less = h.less;
}

-- the first list was appended, and then a prefix of the second
pub prefix-back :
    {K : Type 0} (written : K → Option (List ℕ)) (spare : K → Option ℕ) (front back : List ℕ) (old mid new : K)
    → written mid ≡ then_written (written old) front → spare mid ≡ spare_less (spare old) (length front)
    → TakesPrefix written spare back mid new → TakesPrefix written spare (front ++ back) old new
prefix-back written spare front back old mid new all less h = record {
  count = length front + h.count;
  in_piece = omega (arith, h.in_piece, length-append front back);
  prefix =
      h.prefix ∙ ap (λ w. then_written w (take h.count back)) all
      ∙ appended_twice (written old) front (take h.count back)
      ∙ ap (λ p. then_written (written old) p) (sym (take-append-add front back h.count));
  less = h.less ∙ ap (λ s. spare_less s h.count) less ∙ spare_less_two (spare old) (length front) h.count;
}

-- what is within a spare leaves room for the rest
pub within-back : {T E : Type 0} (old : Option ℕ) (m n : ℕ) (r : Result T E) → OkWithinSpare (spare_less old m) n r
    → OkWithinSpare old (m + n) r
within-back None m n r h s is fits = absurd (cc (is))
within-back (Some t) m n r h s is fits =
    let same : t ≡ s = cc (is) in
    h (t - m) refl (omega (arith, same, fits))

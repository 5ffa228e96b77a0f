-- What was written to a sink step by step, and the part of a file that was read of it.
use Rattle.std.proofs.Common.{◌≡◌, ℕ, ◌+◌, ◌-◌, ◌≤◌, Bool, List, [], ◌++◌, length, take, drop, Option, refl, sym, ap, ◌∙◌, subst, arith, append-nil, length-append}
use Rattle.std.proofs.Math.Seq.{take-append-add}
use Rattle.std.proofs.lemmas.List.{take_all}
use Rattle.std.specs.declared.option.Option.TheVariants.{Some, None}
use Rattle.c2_base.specs.Sink.{HasWrittenPrefix, then_written, spare_less}
use Rattle.c2_copying.specs.Writing.{Ending, write_fault, Breaks, IsOverSpare, Puts, StepsFollow, piece_of}
use Rattle.c2_base.proofs.Written.{appended_twice, prefix_before, spare_less_two}
use Rattle.c2_copying.proofs.Spares.{over_later, over_more}
use Rattle.c2_copying.proofs.TheLaws.{parts_join, piece_from, piece_none}

-- ---- lists

-- what was written, and then nothing
then_none : (w : Option (List ℕ)) → then_written w [] ≡ w
then_none None = refl
then_none (Some w) = ap Some (append-nil w)

-- a spare that nothing is taken of
spare_none : (s : Option ℕ) → spare_less s 0 ≡ s
spare_none None = refl
spare_none (Some s) = let e : s - 0 ≡ s = omega arith in ap Some e

-- ---- steps

-- two lists, one after the other
puts_both :
    {K : Type 0} (written : K → Option (List ℕ)) (spare : K → Option ℕ) (finished : K → Bool) (xs ys : List ℕ)
    (old mid new : K)
    → Puts written spare finished xs old mid → Puts written spare finished ys mid new
    → Puts written spare finished (xs ++ ys) old new
puts_both written spare finished xs ys old mid new h k = record {
  all = k.all ∙ ap (λ w. then_written w ys) h.all ∙ appended_twice (written old) xs ys;
  less =
      k.less ∙ ap (λ s. spare_less s (length ys)) h.less ∙ spare_less_two (spare old) (length xs) (length ys)
      ∙ ap (spare_less (spare old)) (sym (length-append xs ys));
  same = k.same ∙ h.same;
}

-- the first list was written, and then a prefix of the second
prefix_back : (old mid new : Option (List ℕ)) (xs ys : List ℕ) → mid ≡ then_written old xs → HasWrittenPrefix mid new ys
    → HasWrittenPrefix old new (xs ++ ys)
prefix_back old mid new xs ys all h =
    (length xs + h.0, h.1 ∙ ap (λ w. then_written w (take h.0 ys)) all ∙ appended_twice old xs (take h.0 ys) ∙ ap (then_written old) (sym (take-append-add xs ys h.0)))

-- where the first of two steps breaks off, both do
breaks_front :
    {K : Type 0} (written : K → Option (List ℕ)) (spare : K → Option ℕ) (finished : K → Bool) (xs ys : List ℕ)
    (old new : K) (e : Ending)
    → Breaks written spare finished xs old new e → Breaks written spare finished (xs ++ ys) old new e
breaks_front written spare finished xs ys old new e h = record {
  prefix = prefix_before (written old) (written new) xs ys h.prefix;
  same = h.same;
  over = over_more e (spare old) (length xs) (length (xs ++ ys)) (omega (arith, length-append xs ys)) h.over;
}

-- where the second does, both do
breaks_back :
    {K : Type 0} (written : K → Option (List ℕ)) (spare : K → Option ℕ) (finished : K → Bool) (xs ys : List ℕ)
    (old mid new : K) (e : Ending)
    → Puts written spare finished xs old mid → Breaks written spare finished ys mid new e
    → Breaks written spare finished (xs ++ ys) old new e
breaks_back written spare finished xs ys old mid new e h k = record {
  prefix = prefix_back (written old) (written mid) (written new) xs ys h.all k.prefix;
  same = k.same ∙ h.same;
  over =
      subst (IsOverSpare e (spare old)) (sym (length-append xs ys))
      (over_later e (spare old) (spare mid) (length xs) (length ys) h.less k.over);
}

-- a sink that took all bytes, states no spare and can't be finished
finish_breaks :
    {K : Type 0} (written : K → Option (List ℕ)) (spare : K → Option ℕ) (finished : K → Bool) (bytes : List ℕ)
    (old mid new : K)
    → Puts written spare finished bytes old mid → written new ≡ written mid → finished new ≡ finished mid
    → ((s : ℕ) → spare mid ≡ Some s → ⊥)
    → Breaks written spare finished bytes old new write_fault
finish_breaks written spare finished bytes old mid new h same unfinished over = record {
  prefix =
      (length bytes, same ∙ h.all ∙ ap (then_written (written old)) (sym (take_all (length bytes) bytes (omega arith))));
  same = unfinished ∙ h.same;
  over = λ s is. absurd (over (s - length bytes) (h.less ∙ ap (λ (o : Option ℕ). spare_less o (length bytes)) is));
}

-- steps one after the other
pub follow : {K : Type 0} (written : K → Option (List ℕ)) (spare : K → Option ℕ) (finished : K → Bool)
    → StepsFollow written spare finished
follow written spare finished = record {
  both = puts_both written spare finished;
  first = breaks_front written spare finished;
  second = breaks_back written spare finished;
  open_end = finish_breaks written spare finished;
}

-- ---- pieces of a file

-- nothing was written yet
pub puts_none :
    {K : Type 0} (written : K → Option (List ℕ)) (spare : K → Option ℕ) (finished : K → Bool) (file : List ℕ) (at : ℕ)
    (k : K)
    → Puts written spare finished (piece_of file at at) k k
puts_none written spare finished file at k = subst (λ (x : List ℕ). Puts written spare finished x k k) (sym (piece_none file at)) (record {
  all = sym (then_none (written k));
  less = sym (spare_none (spare k));
  same = refl;
})

-- the next piece was written
pub next_piece :
    {K : Type 0} (written : K → Option (List ℕ)) (spare : K → Option ℕ) (finished : K → Bool) (file : List ℕ)
    (from at n m : ℕ) (old mid new : K)
    → from ≤ at → m ≡ n → Puts written spare finished (piece_of file from at) old mid
    → Puts written spare finished (take m (drop at file)) mid new
    → Puts written spare finished (piece_of file from (at + n)) old new
next_piece written spare finished file from at n m old mid new le same h k =
    let both = puts_both written spare finished (piece_of file from at) (take m (drop at file)) old mid new h k in
    let bytes : piece_of file from at ++ take m (drop at file) ≡ piece_of file from (at + n) =
    ap (λ (x : List ℕ). piece_of file from at ++ x) (piece_from file at n m same)
    ∙ parts_join file from at (at + n) le (omega arith) in
    subst (λ (x : List ℕ). Puts written spare finished x old new) bytes both

-- the next piece wasn't
pub next_breaks :
    {K : Type 0} (written : K → Option (List ℕ)) (spare : K → Option ℕ) (finished : K → Bool) (file : List ℕ)
    (from at to n m : ℕ) (old mid new : K) (e : Ending)
    → from ≤ at → at + n ≤ to → m ≡ n → Puts written spare finished (piece_of file from at) old mid
    → Breaks written spare finished (take m (drop at file)) mid new e
    → Breaks written spare finished (piece_of file from to) old new e
next_breaks written spare finished file from at to n m old mid new e le inside same h k =
    let rest : List ℕ = piece_of file (at + n) to in
    let all =
    breaks_back written spare finished (piece_of file from at) (take m (drop at file) ++ rest) old mid new e h
    (breaks_front written spare finished (take m (drop at file)) rest mid new e k) in
    let back : take m (drop at file) ++ rest ≡ piece_of file at to =
    ap (λ (x : List ℕ). x ++ rest) (piece_from file at n m same)
    ∙ parts_join file at (at + n) to (omega arith) inside in
    let bytes : piece_of file from at ++ (take m (drop at file) ++ rest) ≡ piece_of file from to =
    ap (λ (x : List ℕ). piece_of file from at ++ x) back ∙ parts_join file from at to le (omega (arith, inside)) in
    subst (λ (x : List ℕ). Breaks written spare finished x old new e) bytes all

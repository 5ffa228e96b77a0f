-- What is written, step by step.
use Rattle.std.proofs.Common.{◌≡◌, ℕ, ◌-◌, ◌<◌, ◌≤◌, Bool, List, ◌++◌, length, take, drop, Option, Result, Ok, Err, IfErr, OnOk, refl, ap, ◌∙◌, subst, arith}
use Rattle.std.proofs.lemmas.List.{take_all, length-drop}
use Rattle.c2_base.specs.Sink.{StaysSink, TakesPrefix, WritesSink, unsaid}
use Rattle.c2_spec.specs.PutIn.{put_in}
use Rattle.c2_copying.specs.Writing.{IsStep, IsCopyWriteCause, Puts, StaysFollow, StepsFollow, ending_of, piece_of}
use Rattle.c2_copying.specs.declared.copying.CopyError.{CopyError}

-- ---- a new file

-- a spare that doesn't hold so much is less
pub spare_over : (s count n : ℕ) → n ≡ count → (count ≤ s → ⊥) → s < n
spare_over s count n same over = omega (arith, same, over)

-- the media's front, the packets and the rest of the media are the new file
pub new_parts : (file packets : List ℕ) (start size : ℕ) → size ≡ length file → start ≤ size
    → piece_of file 0 start ++ (packets ++ piece_of file start size) ≡ put_in start packets file
new_parts file packets start size same inside =
    let none : start - 0 ≡ start = omega arith in
    let front : piece_of file 0 start ≡ take start file = ap (λ (n : ℕ). take n file) none in
    let back : piece_of file start size ≡ drop start file =
    take_all (size - start) (drop start file) (omega (arith, length-drop start file, same)) in
    ap (λ (x : List ℕ). x ++ (packets ++ piece_of file start size)) front
    ∙ ap (λ (x : List ℕ). take start file ++ (packets ++ x)) back

-- ---- what is left of a sink

-- all bytes of a list were taken, or a prefix of them
pub writes_taken :
    {K T : Type 0} (written : K → Option (List ℕ)) (spare : K → Option ℕ) (finished : K → Bool) (faults : K → ℕ)
    (bytes : List ℕ) (old new : K) (r : Result T CopyError)
    → TakesPrefix written spare bytes old new → finished new ≡ finished old → faults old ≤ faults new
    → OnOk r (faults new ≡ faults old) → IfErr r (IsCopyWriteCause (faults old) (faults new))
    → WritesSink written finished faults IsCopyWriteCause old new r
writes_taken written spare finished faults bytes old new r taken same later quiet cause = record {
  stays = record { later = later; grows = (take taken.count bytes, taken.prefix); unfinished = same };
  quiet = quiet;
  cause = cause;
}

-- one call after another that had an answer
pub writes_after :
    {K T : Type 0} (written : K → Option (List ℕ)) (finished : K → Bool) (faults : K → ℕ) (a b c : K)
    (r : Result T CopyError)
    → StaysFollow written finished faults → StaysSink written finished faults a b → faults b ≡ faults a
    → WritesSink written finished faults IsCopyWriteCause b c r
    → WritesSink written finished faults IsCopyWriteCause a c r
writes_after {K} {T} written finished faults a b c r law stays quiet h = record {
  stays = law.both a b c stays h.stays;
  quiet = subst (λ (n : ℕ). OnOk r (faults c ≡ n)) quiet h.quiet;
  cause = subst (λ (n : ℕ). IfErr r (IsCopyWriteCause n (faults c))) quiet h.cause;
}

-- a sink that may be finished
pub writes_unsaid :
    {K T : Type 0} (written : K → Option (List ℕ)) (finished : K → Bool) (faults : K → ℕ) (a b : K)
    (r : Result T CopyError)
    → WritesSink written finished faults IsCopyWriteCause a b r
    → WritesSink written unsaid faults IsCopyWriteCause a b r
writes_unsaid {K} written finished faults a b r h =
    record
    { stays = record { later = h.stays.later; grows = h.stays.grows; unfinished = refl }; quiet = h.quiet; cause = h.cause }

-- what a step leaves of a sink that was to be finished
pub writes_finish :
    {K T : Type 0} (written : K → Option (List ℕ)) (finished : K → Bool) (faults : K → ℕ) (a b c : K)
    (r : Result T CopyError)
    → StaysSink written finished faults a b → faults b ≡ faults a → written c ≡ written b → faults b ≤ faults c
    → OnOk r (faults c ≡ faults b) → IfErr r (IsCopyWriteCause (faults b) (faults c))
    → WritesSink written unsaid faults IsCopyWriteCause a c r
writes_finish {K} {T} written finished faults a b c r stays quiet same later ok cause = record {
  stays =
      record
      { later = omega (arith, stays.later, later); grows = (stays.grows.0, same ∙ stays.grows.1); unfinished = refl };
  quiet = subst (λ (n : ℕ). OnOk r (faults c ≡ n)) quiet ok;
  cause = subst (λ (n : ℕ). IfErr r (IsCopyWriteCause n (faults c))) quiet cause;
}

-- a step behind bytes that were written
pub step_back :
    {K T : Type 0} (written : K → Option (List ℕ)) (spare : K → Option ℕ) (finished : K → Bool) (xs ys : List ℕ)
    (old mid new : K) (r : Result T CopyError)
    → StepsFollow written spare finished → Puts written spare finished xs old mid
    → IsStep written spare finished ys mid new r
    → IsStep written spare finished (xs ++ ys) old new r
step_back written spare finished xs ys old mid new (Ok x) law h k = law.both xs ys old mid new h k
step_back written spare finished xs ys old mid new (Err e) law h k = law.second xs ys old mid new (ending_of e) h k

-- What steps take of a stated spare, one after the other.
use Rattle.std.proofs.Common.{◌≡◌, ℕ, ◌+◌, ◌-◌, ◌<◌, ◌≤◌, Option, Result, Ok, Err, refl, sym, ap, ◌∙◌, arith}
use Rattle.std.specs.declared.option.Option.TheVariants.{Some, None}
use Rattle.c2_base.specs.Sink.{Spends, spare_less}
use Rattle.c2_copying.specs.Writing.{Ending, complete, read_fault, write_fault, untouched, IsOverSpare, TakesSpare, ending_of}
use Rattle.c2_copying.specs.declared.copying.CopyError.{CopyError}
use Rattle.c2_base.proofs.Written.{spare_less_two}

-- a spare that doesn't hold more
pub over_more : (e : Ending) (s : Option ℕ) (m n : ℕ) → m ≤ n → IsOverSpare e s m → IsOverSpare e s n
over_more complete s m n le h = tt
over_more read_fault s m n le h = tt
over_more write_fault s m n le h = λ t is. omega (arith, h t is, le)
over_more untouched s m n le h = tt

-- a spare that fell, and doesn't hold the rest
pub over_later : (e : Ending) (old mid : Option ℕ) (m n : ℕ) → mid ≡ spare_less old m → IsOverSpare e mid n
    → IsOverSpare e old (m + n)
over_later complete old mid m n is h = tt
over_later read_fault old mid m n is h = tt
over_later write_fault old mid m n is h = λ t there. let less : t - m < n = h (t - m) (is ∙ ap (λ (o : Option ℕ). spare_less o m) there) in omega (arith, less)
over_later untouched old mid m n is h = tt

-- a spare that nothing is taken of falls by nothing
pub spends_none : (s : Option ℕ) (n : ℕ) → n ≡ 0 → Spends s s n
spends_none None n z = refl
spends_none (Some s) n z = let e : s ≡ s - n = omega (arith, z) in ap Some e

-- what two steps take of a spare, one after the other
pub spends_two : (old mid new : Option ℕ) (m n k : ℕ) → Spends old mid m → Spends mid new n → k ≡ m + n → Spends old new k
spends_two old mid new m n k first second both =
    second ∙ ap (λ s. spare_less s n) first ∙ spare_less_two old m n ∙ ap (spare_less old) (sym both)

-- a spare that a first step left, and a second doesn't fit into, doesn't hold both
pub over_behind : (e : Ending) (old mid : Option ℕ) (m n k : ℕ) → Spends old mid m → IsOverSpare e mid n → m + n ≤ k
    → IsOverSpare e old k
over_behind e old mid m n k first over le = over_more e old (m + n) k le (over_later e old mid m n first over)

-- a step that follows one that was taken whole takes what both do
pub takes_after :
    {T : Type 0} (old mid new : Option ℕ) (m n k : ℕ) (r : Result T CopyError)
    → Spends old mid m → TakesSpare mid new n r → k ≡ m + n → TakesSpare old new k r
takes_after old mid new m n k (Ok x) first second both = spends_two old mid new m n k first second both
takes_after old mid new m n k (Err e) first second both =
    over_behind (ending_of e) old mid m n k first second (omega (arith, both))

-- What a call does to a running hash.
use Rattle.std.specs.Prelude.{ℕ, List, ◌++◌}
use Rattle.c2_spec.specs.declared.digest.Alg.{Alg}

-- whatever algorithm and list the state stood for, it stands for that list and then these bytes
abbrev pub Extends : {S : Type 0} → (S → Alg → List ℕ → Type 0) → S → S → List ℕ → Type 0
Extends holds old new bytes = (alg : Alg) (list : List ℕ) → holds old alg list → holds new alg (list ++ bytes)

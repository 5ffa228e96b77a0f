-- For private clauses: what stands before a store in its box.
use Rattle.std.specs.Prelude.{ℕ, List, [], ◌∷◌, ◌++◌, replicate, codes}

-- what stands between the user type of a C2PA box and its store
abbrev pub before_store : List ℕ
before_store = replicate 4 0 ++ ((codes "manifest" ++ 0 ∷ []) ++ replicate 8 0)

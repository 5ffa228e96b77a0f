-- The digest of a covered text.
use Rattle.std.specs.Prelude.{◌≡◌, ℕ, List, Option, ◌++◌}
use Rattle.std.specs.Option.{ForSome}
use Rattle.c2_spec.specs.declared.digest.Alg.{Alg}
use Rattle.c2_cover.specs.Covers.{Covered, text_of}

-- where the bytes of the source are known, the digest is that of the covered text
abbrev pub IsDigestOf : {D : Type 0} → (List ℕ → D) → Covered → Option (List ℕ) → D → Type 0
IsDigestOf digest_of c known digest = ForSome known (λ file. digest ≡ digest_of (text_of c file))

-- For private clauses: the state stands for a prefix of the text, and what is left is its rest.
pub record IsHashed {S : Type 0} (holds : S → Alg → List ℕ → Type 0) (alg : Alg)
    (text rest : List ℕ) (state : S) : Type 0 where
  pub prefix : List ℕ
  pub held : holds state alg prefix
  pub joined : text ≡ prefix ++ rest

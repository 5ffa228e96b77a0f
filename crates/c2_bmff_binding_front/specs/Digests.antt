-- The digest of what the exclusions of a new BMFF hash leave of a file.
use Rattle.std.specs.Prelude.{◌≡◌, ℕ, IfErr, IfOk, List, length}
use Rattle.std.specs.Option.{ForSome}
use Rattle.std.specs.declared.option.Option.{Option}
use Rattle.std.specs.declared.result.Result.{Result}
use Rattle.c2_base.specs.declared.media.MediaError.{MediaError}
use Rattle.c2_bmff_boxes.specs.Causes.{OrBmffFault}
use Rattle.c2_spec.specs.Bmff.Boxes.{Box, HasRoots}
use Rattle.c2_spec.specs.Bmff.Writing.{built_text}
use Rattle.c2_spec.specs.Digest.{digest_len}
use Rattle.c2_spec.specs.declared.digest.Alg.{Alg}

-- this is the digest of what they leave of the file, where it has root boxes
abbrev pub IsRootsDigest : (List ℕ → List ℕ) → List ℕ → List ℕ → Type 0
IsRootsDigest hash digest file = (roots : List Box) → HasRoots file roots → digest ≡ hash (built_text roots)

-- the error is a fault or want of memory, where the file has root boxes
abbrev pub IsUnrefused : MediaError → List ℕ → Type 0
IsUnrefused e file = (roots : List Box) → HasRoots file roots → OrBmffFault e ⊥

-- The digest by this algorithm of what they leave of a file: of one that tells its bytes it is that, where the file has root boxes, and an error
-- is a fault or want of memory; of all files it has the algorithm's length.
pub record IsFileDigest (hash : Alg → List ℕ → List ℕ) (alg : Alg) (file : Option (List ℕ)) (result : Result (List ℕ) MediaError) : Type 0 where
  pub digest : IfOk result (λ d. ForSome file (IsRootsDigest (hash alg) d))
  pub len : IfOk result (λ d. length d ≡ digest_len alg)
  pub refused : IfErr result (λ e. ForSome file (IsUnrefused e))

-- Evidence that two files with one active claim differ: two different lists under one digest, or two
-- different claims under one signature (this project's own choice; digests are those of hashed URIs and
-- hard bindings, signatures those of claims: C2PA Technical Specification 2.x, "Hashed URIs", "Hard
-- bindings" and "Signing a claim").
use Rattle.std.specs.Prelude.{◌≡◌, ◌≢◌, ℕ, Bool, not, bytes_eq, List, Some}
use Rattle.c2_base.specs.declared.values.Question.{Question}
use Rattle.c2_spec.specs.C2pa.Manifest.{Superbox}
use Rattle.c2_spec.specs.C2pa.Sign1.{SignParts, SpellsMessage, question_of}
use Rattle.c2_spec.specs.Digest.{alg_named}
use Rattle.c2_spec.specs.declared.digest.Alg.{Alg}
use Rattle.c2_spec.specs.declared.panel.Verdict.{Verdict}
use Rattle.c2_spec.specs.declared.panel.Verdict.TheVariants.{Approved}

-- What binds two lists to one claim: their digest, by the algorithm with this name ("Hashed URIs"), or
-- the signature in this box ("Signing a claim").
pub data BoundBy : Type 0 where
  by_digest : List ℕ → BoundBy
  by_signature : Superbox → BoundBy

-- Two lists that correspond to each other, the left of the first file and the right of the second, with
-- what binds them and where the left one stands: a URI, or the word for the covered texts.
pub record ListPair : Type 0 where
  pub bound_by : BoundBy
  pub location : List ℕ
  pub left : List ℕ
  pub right : List ℕ

-- the two lists are different
abbrev pub do_differ : ListPair → Bool
do_differ p = not (bytes_eq p.left p.right)

-- A collision: the algorithm with this name is known, and gives one digest of two different lists.
pub record HaveOneDigest (hash : Alg → List ℕ → List ℕ) (name left right : List ℕ) : Type 0 where
  pub alg : Alg
  pub known : alg_named name ≡ Some alg
  pub differ : left ≢ right
  pub same_digest : hash alg left ≡ hash alg right

-- The item of this box is a signed message, and the panel approves it over two different lists as claim
-- bytes.
pub record HaveOneSignature (said : Question → Verdict) (box : Superbox)
    (left right : List ℕ) : Type 0 where
  pub item : List ℕ
  pub has_item : box.item ≡ Some item
  pub parts : SignParts
  pub is_message : SpellsMessage item parts
  pub differ : left ≢ right
  pub left_approved : said (question_of parts left) ≡ Approved
  pub right_approved : said (question_of parts right) ≡ Approved

-- two lists are real evidence against what binds them
abbrev pub IsRealBy : (Alg → List ℕ → List ℕ) → (Question → Verdict) → BoundBy → List ℕ → List ℕ
    → Type 0
IsRealBy hash said (by_digest name) left right = HaveOneDigest hash name left right
IsRealBy hash said (by_signature box) left right = HaveOneSignature said box left right

-- the pair is real evidence, under this hash and what the panel says of questions
abbrev pub IsReal : (Alg → List ℕ → List ℕ) → (Question → Verdict) → ListPair → Type 0
IsReal hash said p = IsRealBy hash said p.bound_by p.left p.right

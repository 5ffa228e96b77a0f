-- How long a new store is at a place that was found, and what its binding is.
use Rattle.std.proofs.lemmas.List.{length-replicate}
use Rattle.std.proofs.Common.{◌≡◌, inl, inr, ℕ, replicate, List, length, refl, ap, ◌∙◌, subst}
use Rattle.c2_spec.specs.Jumbf.Tree.{tree_bytes}
use Rattle.c2_spec.specs.Digest.{digest_len}
use Rattle.c2_spec.specs.declared.digest.Alg.{Alg}
use Rattle.c2_definition.specs.declared.types.Definition.{Definition}
use Rattle.c2_new_file_spec.specs.Built.{HasDigestLen, bound_len, no_digest, store_size}
use Rattle.c2_new_file_spec.specs.Store.{Content, new_store, new_alg}
use Rattle.c2_new_file_spec.specs.Unbound.{IsKnownBinding}
use Rattle.c2_new_file_spec.specs.Films.{bmff_store_size}
use Rattle.c2_new_file_spec.proofs.BmffLaws.{a_new_bmff_store_has_one_length_store}
use Rattle.c2_new_file_spec.proofs.StoreLaws.{a_new_store_has_one_length}
use Rattle.c2_build_parts.specs.Bound.{point_binding, point_store_len}
use Rattle.c2_build_refusals.specs.declared.types.InsertPoint.{InsertPoint}
use Rattle.c2_spec.proofs.Digests.{zero_len}

-- how long a new store is in a point, with so many bytes for its message
abbrev pub point_size : InsertPoint → Content → ℕ → ℕ
point_size (InsertPoint.Segments start number) c reserve = store_size c reserve
point_size (InsertPoint.Boxes rows) c reserve = bmff_store_size c reserve

-- a new store is as long as its point says, with as many bytes for its message as are reserved
pub point_size_is : (s : InsertPoint) (c : Content) → point_size s c c.definition.reserve ≡ point_store_len s c
point_size_is (InsertPoint.Segments start number) c = refl
point_size_is (InsertPoint.Boxes rows) c = refl

-- the length of a new store is its point's, whatever its range and its digests
pub point_fixed :
    (hash : List ℕ → List ℕ) (c : Content) (s : InsertPoint) (start len : ℕ) (digest message : List ℕ)
    → HasDigestLen (new_alg c.definition) hash → length digest ≡ digest_len (new_alg c.definition)
    → length (tree_bytes (new_store hash c (point_binding (new_alg c.definition) s start len digest) message)) ≡ point_size s c (length message)
point_fixed hash c (InsertPoint.Segments at number) start len digest message digests sized =
    a_new_store_has_one_length hash c start len digest message digests sized
point_fixed hash c (InsertPoint.Boxes rows) start len digest message digests sized =
    a_new_bmff_store_has_one_length_store hash c digest message digests sized

-- a bound store has its point's length, with no digest beside the binding's
pub point_bound : (c : Content) (d : Definition) → c.definition ≡ d → (s : InsertPoint) (start len : ℕ)
    (digest : List ℕ) (reserve : ℕ) → length digest ≡ digest_len (new_alg d)
    → bound_len c (point_binding (new_alg d) s start len digest) reserve ≡ point_size s c reserve
point_bound c d is s start len digest reserve sized =
    subst
    (λ (x : Definition). length digest ≡ digest_len (new_alg x) → bound_len c (point_binding (new_alg x) s start len digest) reserve ≡ point_size s c reserve)
    is
    (λ (n : length digest ≡ digest_len (new_alg c.definition)).
    point_fixed (no_digest (new_alg c.definition)) c s start len digest (replicate reserve 0) (λ text. zero_len (new_alg c.definition)) n ∙ ap (point_size s c) (length-replicate {A = ℕ} reserve 0)) sized

-- the binding of a new store is of a kind that is known
pub point_known : (alg : Alg) (s : InsertPoint) (start len : ℕ) (digest : List ℕ)
    → IsKnownBinding (point_binding alg s start len digest)
point_known alg (InsertPoint.Segments at number) start len digest = record { label = inl refl; item = refl }
point_known alg (InsertPoint.Boxes rows) start len digest = record { label = inr refl; item = refl }

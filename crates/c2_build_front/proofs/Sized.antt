-- The new store of a definition alone, and its length.
use Rattle.std.specs.Prelude.{Ok}
use Rattle.std.proofs.Common.{◌≡◌, inr, lit≤, arith, ℕ, ◌+◌, List, [], length, replicate, refl, ap, ◌∙◌}
use Rattle.std.proofs.lemmas.List.{length-replicate}
use Rattle.c2_spec.specs.Digest.{digest_len}
use Rattle.c2_spec.specs.Jumbf.Tree.{tree_bytes}
use Rattle.c2_spec.specs.declared.digest.Alg.{Alg}
use Rattle.c2_spec.proofs.Digests.{zero_len}
use Rattle.c2_definition.specs.DefinitionFile.{IsDefinition}
use Rattle.c2_definition.specs.declared.types.Definition.{Definition}
use Rattle.c2_new_file_spec.specs.Built.{HasDigestLen, bound_len, no_digest}
use Rattle.c2_new_file_spec.specs.Fresh.{fresh_content}
use Rattle.c2_new_file_spec.specs.Store.{new_alg, new_store}
use Rattle.c2_new_file_spec.specs.Unbound.{IsKnownBinding}
use Rattle.c2_new_file_spec.proofs.BmffLaws.{a_new_bmff_store_has_one_length_store}
use Rattle.c2_new_file_spec.proofs.Ingredients.{no_ingredients}
use Rattle.c2_new_file_spec.specs.Films.{new_bmff_binding, bmff_store_size}
use Rattle.c2_layout.specs.Parts.{IsContent}
use Rattle.c2_layout.specs.declared.carried.Carried.{Carried}
use Rattle.c2_new_lengths_spec.proofs.TheLaws.{the_length_of_a_new_store_fits}
use Rattle.c2_lemmas.proofs.Stages.{stage_value}
use Rattle.c2_build_refusals.specs.Stages.{IsDefinitionStage}
use Rattle.c2_build_refusals.specs.declared.error.BuildError.TheVariants.{BadDefinition}
use Rattle.c2_build_front.specs.Steps.{HasSize, store_size}

-- the content of a definition alone
pub fresh_is : (hash : List ℕ → List ℕ) (d : Definition) (k : Carried) → k.boxes ≡ [] → k.ingredients.items ≡ []
    → HasDigestLen (new_alg d) hash → IsContent hash d k (fresh_content d)
fresh_is hash d k boxes ingredients digests =
    record
    { definition = refl; boxes = boxes; assertions = ingredients; ingredients = no_ingredients; digests = digests }

-- the binding of a new BMFF store is of a kind that is known
pub known_binding : (alg : Alg) (digest : List ℕ) → IsKnownBinding (new_bmff_binding alg digest)
known_binding alg digest = record { label = inr refl; item = refl }

-- the length of a new store is the same with each digest
pub bound_is : (d : Definition) (digest : List ℕ) → length digest ≡ digest_len (new_alg d)
    → bound_len (fresh_content d) (new_bmff_binding (new_alg d) digest) d.reserve ≡ store_size d
bound_is d digest sized =
    a_new_bmff_store_has_one_length_store (no_digest (new_alg d)) (fresh_content d) digest (replicate d.reserve 0)
    (λ text. zero_len (new_alg d)) sized
    ∙ ap (bmff_store_size (fresh_content d)) (length-replicate {A = ℕ} d.reserve 0)

-- the length of a new store is the same with each message that fills what is reserved
pub filled_is : (hash : List ℕ → List ℕ) (d : Definition) (digest message : List ℕ)
    → HasDigestLen (new_alg d) hash → length digest ≡ digest_len (new_alg d) → length message ≡ d.reserve
    → length (tree_bytes (new_store hash (fresh_content d) (new_bmff_binding (new_alg d) digest) message)) ≡ store_size d
filled_is hash d digest message digests sized filled =
    a_new_bmff_store_has_one_length_store hash (fresh_content d) digest message digests sized
    ∙ ap (bmff_store_size (fresh_content d)) filled

-- a length to which nothing is added
pub sized_is : (boxes parts size : ℕ) → boxes ≡ 0 → boxes + parts ≡ size → parts ≡ size
sized_is boxes parts size none all = omega (arith, none, all)

-- ---- the definition of a file

-- 64 bits hold the length of the new store of a definition that a file is
pub has_size : (file : List ℕ) (d : Definition) → IsDefinitionStage file (Ok d) → HasSize d
has_size file d stage =
    (the_length_of_a_new_store_fits file (fresh_content d) (stage_value BadDefinition (IsDefinition file) d stage)
    (record { boxes = lit≤ tt; ingredients = no_ingredients; labels = tt })).film

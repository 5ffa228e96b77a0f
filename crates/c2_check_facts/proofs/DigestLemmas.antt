-- A digest that is kept is that by its algorithm.
use Rattle.std.proofs.Common.{◌≡◌, ℕ, List, Option, Some, None, IfSome, option_map, sym, ◌∙◌, subst}
use Rattle.std.proofs.lemmas.Option.{same_Some}
use Rattle.c2_spec.specs.C2pa.Manifest.{Superbox}
use Rattle.c2_spec.specs.declared.digest.Alg.{Alg}
use Rattle.c2_spec.specs.declared.digest.Alg.TheVariants.{Sha256, Sha384, Sha512}
use Rattle.c2_rules.specs.Readings.{Reading}
use Rattle.c2_check_facts.specs.Facts.{Digests, AreDigestsOf, AreSignatureDigestsOf, by_alg}

-- what is there is the digest that it has to be
there : (o : Option (List ℕ)) (d digest : List ℕ) → IfSome o (λ x. x ≡ digest) → o ≡ Some d → digest ≡ d
there None d digest h at = absurd cc
there (Some x) d digest h at = sym h ∙ same_Some x d at

-- a digest that is kept by an algorithm is that of the list by it
pub kept_right : (hash : Alg → List ℕ → List ℕ) (list : List ℕ) (kept : Digests) (alg : Alg) (d : List ℕ)
    → AreDigestsOf hash list kept → by_alg kept alg ≡ Some d → hash alg list ≡ d
kept_right hash list kept Sha256 d h at = there kept.sha256 d (hash Sha256 list) h.sha256 at
kept_right hash list kept Sha384 d h at = there kept.sha384 d (hash Sha384 list) h.sha384 at
kept_right hash list kept Sha512 d h at = there kept.sha512 d (hash Sha512 list) h.sha512 at

-- digests of the contents of a manifest's signature box are its signature's
pub box_digests : (hash : Alg → List ℕ → List ℕ) (r : Reading) (box : Superbox) (kept : Digests)
    → r.manifest.signature ≡ Some box → AreDigestsOf hash box.contents kept → AreSignatureDigestsOf hash r kept
box_digests hash r box kept at h =
    record
    { contents = subst (λ (o : Option Superbox). IfSome (option_map (λ (b : Superbox). b.contents) o) (λ contents. AreDigestsOf hash contents kept)) (sym at) h }

-- where a manifest has no signature box, any digests are its signature's
pub no_box : (hash : Alg → List ℕ → List ℕ) (r : Reading) (kept : Digests) → r.manifest.signature ≡ None
    → AreSignatureDigestsOf hash r kept
no_box hash r kept at =
    record
    { contents = subst (λ (o : Option Superbox). IfSome (option_map (λ (b : Superbox). b.contents) o) (λ contents. AreDigestsOf hash contents kept)) (sym at) tt }

-- What is found out of the manifests that ingredients name.
use Rattle.std.specs.Prelude.{◌≡◌, ℕ, Bool, List, Option, Some, None, IfSome, length, slice_get}
use Rattle.c2_spec.specs.declared.digest.Alg.{Alg}
use Rattle.c2_spec.specs.declared.digest.Alg.TheVariants.{Sha256, Sha384, Sha512}
use Rattle.c2_rules.specs.Chains.{is_touched}
use Rattle.c2_rules.specs.Readings.{Reading}
use Rattle.c2_rules.specs.Seen.{signature_contents}

-- the digests of one list that are kept, by their algorithms
pub record Digests : Type 0 where
  pub sha256 : Option (List ℕ)
  pub sha384 : Option (List ℕ)
  pub sha512 : Option (List ℕ)

-- the digest by an algorithm, where it is kept
abbrev pub by_alg : Digests → Alg → Option (List ℕ)
by_alg kept Sha256 = kept.sha256
by_alg kept Sha384 = kept.sha384
by_alg kept Sha512 = kept.sha512

-- no digest is kept
abbrev pub no_digests : Digests
no_digests = record { sha256 = None; sha384 = None; sha512 = None }

-- each digest that is kept is the one of this list
pub record AreDigestsOf (hash : Alg → List ℕ → List ℕ) (list : List ℕ) (kept : Digests) : Type 0 where
  pub sha256 : IfSome kept.sha256 (λ digest. digest ≡ hash Sha256 list)
  pub sha384 : IfSome kept.sha384 (λ digest. digest ≡ hash Sha384 list)
  pub sha512 : IfSome kept.sha512 (λ digest. digest ≡ hash Sha512 list)

-- whether a manifest is touched, and digests of its contents and of the contents of its signature box
pub record ChildFact : Type 0 where
  pub touched : Bool
  pub whole : Digests
  pub signed : Digests

-- each digest that is kept is that of the contents of this manifest's signature box, where it has one
pub record AreSignatureDigestsOf (hash : Alg → List ℕ → List ℕ) (r : Reading) (kept : Digests) : Type 0 where
  pub contents : IfSome (signature_contents r) (λ contents. AreDigestsOf hash contents kept)

-- the digests are those of this manifest
pub record HasDigestsOf (hash : Alg → List ℕ → List ℕ) (r : Reading) (fact : ChildFact) : Type 0 where
  pub whole : AreDigestsOf hash r.manifest.contents fact.whole
  pub signed : AreSignatureDigestsOf hash r fact.signed

-- this is true of a manifest that is touched or isn't
pub record IsFactOf (hash : Alg → List ℕ → List ℕ) (b : Bool) (r : Reading) (fact : ChildFact) : Type 0 where
  pub touched : fact.touched ≡ b
  pub digests : HasDigestsOf hash r fact

-- this is true of the manifest at place `m`
abbrev pub IsFactAt : (Alg → List ℕ → List ℕ) → List Reading → ℕ → ChildFact → Type 0
IsFactAt hash rs m fact = IfSome (slice_get rs m) (λ r. IsFactOf hash (is_touched rs m) r fact)

-- there is one place for each manifest, and what stands at a place is true of the manifest there
pub record AreFacts (hash : Alg → List ℕ → List ℕ) (rs : List Reading) (facts : List (Option ChildFact)) : Type 0 where
  pub count : length facts ≡ length rs
  pub right : (m : ℕ) (fact : ChildFact) → slice_get facts m ≡ Some (Some fact) → IsFactAt hash rs m fact

-- What was found out about the place of a child is true of the child.
use Rattle.std.proofs.Common.{◌≡◌, ℕ, ◌<◌, List, get_or, length, Option, Some, IfSome, option_map, slice_get, sym, ap, ◌∙◌, subst, arith}
use Rattle.std.proofs.lemmas.Option.{slice_get-get_or}
use Rattle.c2_spec.specs.C2pa.Manifest.{Superbox}
use Rattle.c2_spec.specs.declared.digest.Alg.{Alg}
use Rattle.c2_rules.specs.Chains.{is_touched}
use Rattle.c2_rules.specs.Readings.{Reading}
use Rattle.c2_check_facts.specs.Facts.{ChildFact, AreDigestsOf, HasDigestsOf, IsFactOf, IsFactAt}

-- what is true of the manifest at the place of a child is true of the child that was fetched from there
pub fact_there : (hash : Alg → List ℕ → List ℕ) (rs all : List Reading) (n m : ℕ) (fact : ChildFact) (child : Reading)
    → m < n → n < length rs → all ≡ rs → child ≡ get_or all m child → IsFactAt hash rs m fact
    → IsFactOf hash (is_touched rs m) child fact
fact_there hash rs all n m fact child lt bound same at h =
    let there : slice_get rs m ≡ Some child =
    slice_get-get_or rs m child (omega arith) ∙ ap (λ (xs : List Reading). Some (get_or xs m child)) (sym same)
    ∙ ap Some (sym at) in
    subst (λ (o : Option Reading). IfSome o (λ x. IsFactOf hash (is_touched rs m) x fact)) there h

-- the digests that are kept of a child's signature box are those of the contents of this box, which is that one
pub signed_here : (hash : Alg → List ℕ → List ℕ) (child : Reading) (fact : ChildFact) (box : Superbox)
    → HasDigestsOf hash child fact → child.manifest.signature ≡ Some box → AreDigestsOf hash box.contents fact.signed
signed_here hash child fact box h at =
    subst
    (λ (o : Option Superbox). IfSome (option_map (λ (b : Superbox). b.contents) o) (λ contents. AreDigestsOf hash contents fact.signed))
    at h.signed.contents

-- How a manifest that an ingredient names stands.
use Rattle.std.proofs.Common.{◌≡◌, ℕ, ◌<◌, ltb, Bool, true, false, cond, List, [], ◌∷◌, length, get_or, Option, Some, None, Result, IfOk, IsSome, is_some, slice_get, Decides, true≢false, refl, sym, ap, ◌∙◌, subst, arith}
use Rattle.std.proofs.lemmas.Bool.Decides.{Decides-ltb}
use Rattle.std.proofs.lemmas.Option.{slice_get-get_or}
use Rattle.c2_spec.specs.declared.cbor.Ref.{Ref}
use Rattle.c2_spec.specs.declared.digest.Alg.{Alg}
use Rattle.c2_rules.specs.Chains.{place_of, is_touched}
use Rattle.c2_rules.specs.Readings.{Reading}
use Rattle.c2_rules.specs.Rules.{standing_tests, order_tests}
use Rattle.c2_rules.specs.Seen.{Standing, child_standing, earlier_standing, later, place_standing, standing_of}
use Rattle.c2_rules.specs.Tests.{Test, first_failing}
use Rattle.c2_rules.specs.declared.answer.Failing.{Failing}

-- where a child stands
abbrev earlier : List Reading → ℕ → Standing
earlier rs m = earlier_standing (is_touched rs m) (slice_get rs m)

-- a manifest at a place before this one stands earlier
stands_before : (rs : List Reading) (i m : ℕ) (b : Bool) → Decides b (m < i) → m < i
    → cond b (earlier rs m) later ≡ earlier rs m
stands_before rs i m true d lt = refl
stands_before rs i m false d lt = absurd (true≢false (sym (d.1 lt)))

-- a manifest whose label has a place before this one stands as a child that is touched or isn't
standing_is : (rs : List Reading) (i m : ℕ) (target : List ℕ) (child : Reading) (touched : Bool)
    → place_of rs target ≡ Some m → m < i → slice_get rs m ≡ Some child → touched ≡ is_touched rs m
    → standing_of rs i target ≡ child_standing touched child
standing_is rs i m target child touched place lt at is =
    ap (place_standing rs i) place ∙ stands_before rs i m (ltb m i) (Decides-ltb m i) lt
    ∙ ap (earlier_standing (is_touched rs m)) at ∙ ap (λ (b : Bool). child_standing b child) (sym is)

-- what fails of an ingredient by the child it names fails of it by where the manifest with that label stands
pub child_stands : {E : Type 0} (hash : Alg → List ℕ → List ℕ) (r : Reading) (uri : List ℕ) (manifest : Ref) (sign : Option Ref) (rs all : List Reading) (i m : ℕ) (target : List ℕ) (child : Reading) (touched : Bool) (o : Result (Option Failing) E)
    → i < length rs → place_of rs target ≡ Some m → m < i → all ≡ rs → child ≡ get_or all m child
    → touched ≡ is_touched rs m
    → IfOk o (λ found. found ≡ first_failing (standing_tests hash r uri manifest sign (child_standing touched child)))
    → IfOk o (λ found. found ≡ first_failing (standing_tests hash r uri manifest sign (standing_of rs i target)))
child_stands {E} hash r uri manifest sign rs all i m target child touched o bound place lt same at is h =
    let here : slice_get rs m ≡ Some child =
    slice_get-get_or rs m child (omega arith) ∙ ap (λ (xs : List Reading). Some (get_or xs m child)) (sym same)
    ∙ ap Some (sym at) in
    let tests : standing_tests hash r uri manifest sign (child_standing touched child) ≡ standing_tests hash r uri manifest sign (standing_of rs i target) =
    ap (standing_tests hash r uri manifest sign) (sym (standing_is rs i m target child touched place lt here is)) in
    subst (λ (ts : List Test). IfOk o (λ found. found ≡ first_failing ts)) tests h

-- no condition on the order of a child fails, which stands earlier
earlier_holds : (o : Option Reading) (b : Bool) (uri : List ℕ) → IsSome o
    → first_failing (order_tests uri (earlier_standing b o)) ≡ None
earlier_holds None b uri some = absurd cc
earlier_holds (Some r) true uri some = refl
earlier_holds (Some r) false uri some = refl

-- an ingredient that names a manifest at a place before its own fails by no rule on the order of manifests
pub stands_earlier : (rs : List Reading) (i m : ℕ) (target uri : List ℕ) → i < length rs → Some m ≡ place_of rs target
    → m < i → None ≡ first_failing (order_tests uri (standing_of rs i target))
stands_earlier [] i m target uri bound place lt = absurd (omega arith)
stands_earlier (r ∷ rs) i m target uri bound place lt =
    let there : slice_get (r ∷ rs) m ≡ Some (get_or (r ∷ rs) m r) = slice_get-get_or (r ∷ rs) m r (omega arith) in
    sym (ap (λ (o : Option ℕ). first_failing (order_tests uri (place_standing (r ∷ rs) i o))) (sym place)
    ∙ ap (λ (x : Standing). first_failing (order_tests uri x))
    (stands_before (r ∷ rs) i m (ltb m i) (Decides-ltb m i) lt)
    ∙ earlier_holds (slice_get (r ∷ rs) m) (is_touched (r ∷ rs) m) uri (ap is_some there))

-- The redaction of a chain that is answered as refused is the first that is refused.
use Rattle.std.proofs.Common.{◌≡◌, ℕ, Bool, zero, suc, ◌<◌, List, [], ◌∷◌, ◌++◌, take, Option, Some, None, slice_get, refl, sym, ap, subst, ◌∙◌, arith}
use Rattle.std.proofs.lemmas.List.{append-nil, append_assoc}
use Rattle.std.proofs.lemmas.Option.{same_Some}
use Rattle.std.specs.Prelude.{option_map}
use Rattle.std.specs.Option.{option_or}
use Rattle.c2_rules.specs.Readings.{Reading}
use Rattle.c2_rules.specs.Tests.{first_failing}
use Rattle.c2_rules.specs.declared.answer.Failing.{Failing}
use Rattle.c2_new_file_spec.specs.Refusing.{refused_by}
use Rattle.c2_new_file_spec.specs.declared.refused.RefusedRedaction.{RefusedRedaction}
use Rattle.c2_collect_spec.specs.Refusals.{FirstRedactionIsLeastBy, IsFirstRefusedBy, entry_tests_by, refusal_after_by}

-- what is answered of a redaction behind these
abbrev failing_of : (ℕ → Bool) → List ℕ → List Reading → List (List ℕ) → List ℕ → Option Failing
failing_of reached own rs before text = first_failing (entry_tests_by reached own rs before text)

-- a redaction that stands first has what stands before the list before it
first_of : (reached : ℕ → Bool) (own : List ℕ) (rs : List Reading) (before : List (List ℕ)) (text : List ℕ) (o : Option Failing)
    → failing_of reached own rs before text ≡ o → failing_of reached own rs (before ++ []) text ≡ o
first_of reached own rs before text o e =
    ap (λ other_rs. failing_of reached own rs other_rs text) (append-nil before) ∙ e

-- a redaction that stands behind another has what stands before the list, with that other, before it
behind_of : (reached : ℕ → Bool) (own : List ℕ) (rs : List Reading) (before : List (List ℕ)) (one : List ℕ)
    (taken : List (List ℕ)) (text : List ℕ) (o : Option Failing)
    → failing_of reached own rs ((before ++ one ∷ []) ++ taken) text ≡ o
    → failing_of reached own rs (before ++ one ∷ taken) text ≡ o
behind_of reached own rs before one taken text o e =
    ap (λ other_rs. failing_of reached own rs other_rs text) (sym (append_assoc before (one ∷ []) taken)) ∙ e

module _ (reached : ℕ → Bool) (own : List ℕ) (rs : List Reading) (before : List (List ℕ)) (one : List ℕ)
    (others : List (List ℕ)) where
  -- none of those before a place is refused, also with one more in front that isn't
  passed_before : (k : ℕ) → failing_of reached own rs before one ≡ None
      → ((i : ℕ) (text : List ℕ) → i < k → slice_get others i ≡ Some text → failing_of reached own rs ((before ++ one ∷ []) ++ take i others) text ≡ None)
      → (i : ℕ) (text : List ℕ) → i < suc k → slice_get (one ∷ others) i ≡ Some text
      → failing_of reached own rs (before ++ take i (one ∷ others)) text ≡ None
  passed_before k passes rest zero text lt at =
      subst (λ t. failing_of reached own rs (before ++ []) t ≡ None) (same_Some one text at)
      (first_of reached own rs before one None passes)
  passed_before k passes rest (suc i) text lt at =
      behind_of reached own rs before one (take i others) text None (rest i text (omega arith) at)

  -- none is refused, also with one more in front that isn't
  all_pass : failing_of reached own rs before one ≡ None
      → IsFirstRefusedBy reached own rs (before ++ one ∷ []) others None
      → IsFirstRefusedBy reached own rs before (one ∷ others) None
  all_pass passes rest zero text at =
      subst (λ t. failing_of reached own rs (before ++ []) t ≡ None) (same_Some one text at)
      (first_of reached own rs before one None passes)
  all_pass passes rest (suc i) text at = behind_of reached own rs before one (take i others) text None (rest i text at)

  -- one in front that isn't refused leaves the answer
  behind : (o : Option RefusedRedaction) → failing_of reached own rs before one ≡ None
      → IsFirstRefusedBy reached own rs (before ++ one ∷ []) others o
      → IsFirstRefusedBy reached own rs before (one ∷ others) o
  behind None passes rest = all_pass passes rest
  behind (Some r) passes rest =
      let at = rest.1 in (
        suc rest.0,
        record {
          there = at.there;
          failing = at.failing;
          first = behind_of reached own rs before one (take rest.0 others) r.text (Some at.failing) at.first;
          code = at.code;
          earlier = passed_before rest.0 passes at.earlier;
        },
      )

  -- a list answers by its first, or by the others
  by_front : (o : Option Failing) → failing_of reached own rs before one ≡ o
      → IsFirstRefusedBy reached own rs (before ++ one ∷ []) others
      (refusal_after_by reached own rs (before ++ one ∷ []) others)
      → IsFirstRefusedBy reached own rs before (one ∷ others)
      (option_or (option_map (refused_by one) o) (refusal_after_by reached own rs (before ++ one ∷ []) others))
  by_front None passes rest = behind (refusal_after_by reached own rs (before ++ one ∷ []) others) passes rest
  by_front (Some failing) fails rest = (
    0,
    record {
      there = refl;
      failing = failing;
      first = first_of reached own rs before one (Some failing) fails;
      code = refl;
      earlier = λ i text lt at. absurd (omega arith);
    },
  )

-- what is answered is the first that is refused
pub first_redaction_is_least : FirstRedactionIsLeastBy
first_redaction_is_least reached own rs before [] = λ i text at. absurd (cc (at))
first_redaction_is_least reached own rs before (one ∷ others) =
    by_front reached own rs before one others (first_failing (entry_tests_by reached own rs before one)) refl
    (first_redaction_is_least reached own rs (before ++ one ∷ []) others)

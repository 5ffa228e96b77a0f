-- A label that is given, and the label that it is.
use Rattle.std.proofs.Common.{◌≡◌, ℕ, true, List, Option, Some, None, refl, ap, ◌∙◌}
use Rattle.std.proofs.lemmas.Slice.Eq.{bytes_eq-Decides}
use Rattle.c2_spec.specs.C2pa.Manifest.{is_given}

-- what is given is this label
pub given_is : (o : Option (List ℕ)) (label : List ℕ) → is_given o label ≡ true → o ≡ Some label
given_is None label e = absurd (cc (e))
given_is (Some x) label e = ap Some ((bytes_eq-Decides x label).0 e)

-- and this label is given
pub is_given_back : (o : Option (List ℕ)) (label : List ℕ) → o ≡ Some label → is_given o label ≡ true
is_given_back o label e = ap (λ x. is_given x label) e ∙ (bytes_eq-Decides label label).1 refl

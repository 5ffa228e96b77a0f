-- The labels of bindings: they can stand in boxes and in URIs, and are of the kind of a binding.
use Rattle.std.proofs.Common.{◌≡◌, inl, inr, ℕ, true, List, refl, sym, subst, arith, codes, lit<}
use Rattle.c2_spec.specs.C2pa.Assertion.{kind_of}
use Rattle.c2_spec.specs.Jumbf.Tree.{IsLabel}
use Rattle.c2_rules.specs.Rules.{is_binding}
use Rattle.c2_definition.specs.declared.types.NewAssertion.{NewAssertion}
use Rattle.c2_new_file_spec.specs.Unbound.{IsKnownBinding, IsKnownLabel}
use Rattle.c2_new_file_spec.specs.Written.{IsNewBinding, IsText}
use Rattle.c2_new_file_spec.proofs.BoxLemmas.{plain_label}
use Rattle.c2_new_file_spec.proofs.Labels.{IsLabelText}
use Rattle.c2_new_file_spec.proofs.Texts.{plain_text}

-- what the label of a binding of a known kind is
pub record IsBindingLabel (l : List ℕ) : Type 0 where
  pub label : IsLabel l
  pub kind : is_binding (kind_of l) ≡ true
  pub named : IsLabelText l
  pub text : IsText l

-- what holds of both labels
pub by_label : (P : List ℕ → Type 0) → P (codes "c2pa.hash.data") → P (codes "c2pa.hash.bmff.v2") → (l : List ℕ)
    → IsKnownLabel l → P l
by_label P d m l (inl e) = subst P (sym e) d
by_label P d m l (inr e) = subst P (sym e) m

-- a label of letters
named_data : IsLabelText (codes "c2pa.hash.data")
named_data = record { some = lit< tt; named = grind arith }

-- the label of a BMFF hash is one of letters
named_bmff : IsLabelText (codes "c2pa.hash.bmff.v2")
named_bmff = record { some = lit< tt; named = grind arith }

-- each label of a binding is one of letters
pub known_label : (l : List ℕ) → IsKnownLabel l → IsBindingLabel l
known_label =
    by_label IsBindingLabel (record {
      label = plain_label (codes "c2pa.hash.data") refl;
      kind = refl;
      named = named_data;
      text = record { utf8 = plain_text (codes "c2pa.hash.data") refl; short = lit< tt };
    }) (record {
      label = plain_label (codes "c2pa.hash.bmff.v2") refl;
      kind = refl;
      named = named_bmff;
      text = record { utf8 = plain_text (codes "c2pa.hash.bmff.v2") refl; short = lit< tt };
    })

-- a manifest can have it
pub known_new : (b : NewAssertion) → IsKnownBinding b → IsNewBinding b
known_new b known = let k = known_label b.label known.label in record { label = k.label; kind = k.kind }

-- Root boxes in two parts, and a box between them. These lemmas stand in `c2_bmff_insert_spec` too, which keeps them to itself.
use Rattle.std.proofs.Common.{List, [], ◌∷◌, ◌++◌}
use Rattle.c2_spec.specs.Bmff.Boxes.{AreBoxForms, Box}

-- boxes after others are in their forms
pub forms_back : (xs : List Box) (y : Box) (ys : List Box) → AreBoxForms (xs ++ y ∷ ys) → AreBoxForms (y ∷ ys)
forms_back [] y ys f = f
forms_back (x ∷ []) y ys f = f.1
forms_back (x ∷ z ∷ zs) y ys f = forms_back (z ∷ zs) y ys f.1

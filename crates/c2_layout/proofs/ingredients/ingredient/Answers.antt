use Rattle.c2_layout.proofs.References.{made_ingredient}
use Rattle.c2_layout.proofs.ingredients.ingredient.Goals as goal

-- it is made by the references to the manifest
pub returns : goal.returns
returns c =
    made_ingredient c.args.label.now c.in_ok-label.label c.in_ok-bytes.bytes c.args.relationship c.args.refs.now
    c.in_ok-label.ensures c.in_ok-bytes.ensures

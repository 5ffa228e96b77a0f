-- The description of a superbox; for private clauses.
use Rattle.std.specs.Prelude.{◌≡◌, ℕ, List, Option, Some, None}
use Rattle.c2_spec.specs.Jumbf.Tree.{Description, IsDescription, description_payload, leaf, super}
use Rattle.c2_spec.specs.Jumbf.Boxes.{AnyBox, node, described}

-- the description of a superbox
abbrev pub any_description : AnyBox → Option Description
any_description (node (leaf b)) = None
any_description (node (super wide d boxes)) = Some d
any_description (described d) = None

-- the payload of the box's description
pub record IsPayload (b : AnyBox) (payload : List ℕ) : Type 0 where
  pub description : Description
  pub own : any_description b ≡ Some description
  pub legal : IsDescription description
  pub bytes : payload ≡ description_payload description

use Rattle.std.proofs.Common.{ap, ◌∙◌, List, ℕ, ◌∷◌, [], get_or}
use Rattle.c2_spec.specs.Jumbf.Boxes.{box_at}
use Rattle.c2_spec.proofs.JumbfBoxes.{any_kind_bytes}
use Rattle.c2_jumbf.proofs.boxes.kind.Goals as goal

pub returns : goal.returns
returns c =
    ap (λ (x : List ℕ). get_or x 4 0 ∷ get_or x 5 0 ∷ get_or x 6 0 ∷ get_or x 7 0 ∷ []) c.bytes_of-bytes.ensures.bytes
    ∙ any_kind_bytes (box_at c.args.tree.now c.args.i).box

use Rattle.std.proofs.Common.{◌++◌, ◌∙◌, ℕ, List, ap, append_assoc, refl, sym}
use Rattle.c2_spec.specs.Jumbf.Boxes.{box_at}
use Rattle.c2_spec.specs.Jumbf.Tree.{trees_bytes}
use Rattle.c2_new_file_spec.specs.Redacting.{thin_boxes}
use Rattle.c2_parent.specs.Boxes.{any_boxes, front_bytes, name_in}
use Rattle.c2_parent.specs.Named.{is_among}
use Rattle.c2_parent.proofs.Contents.{changed_split}
use Rattle.c2_parent.proofs.manifests.append_contents.Goals as goal
use Rattle.c2_lemmas.proofs.Results.{on_ok_then}

pub returns : goal.returns
returns c =
    let b = (box_at c.args.tree.now c.args.i).box in
    let out = is_among c.args.named.now (name_in b) in
    on_ok_then c.append_thinned.result (λ h. h ∙ ap (λ (m : List ℕ). c.append_front.new.out.items ++ trees_bytes (thin_boxes (is_among c.args.named.now m) (any_boxes b))) c.name_of.ensures
    ∙ ap (λ (x : List ℕ). x ++ trees_bytes (thin_boxes out (any_boxes b))) c.in_ok-append_front.ensures
    ∙ append_assoc c.args.out.now.items (front_bytes b) (trees_bytes (thin_boxes out (any_boxes b)))
    ∙ ap (λ (x : List ℕ). c.args.out.now.items ++ x) (sym (changed_split (thin_boxes out) b refl))) c.append_thinned.ensures

use Rattle.std.proofs.Common.{List, ℕ, ap, ◌∙◌}
use Rattle.c2_spec.specs.C2pa.Uri.{signature, whole}
use Rattle.c2_layout.specs.Parts.{told}
use Rattle.c2_new_file_spec.specs.Store.{target_ref}
use Rattle.c2_layout.proofs.References.{two_told}
use Rattle.c2_layout.proofs.ingredients.ingredient_fields.Goals as goal

-- it has two references to the manifest
pub returns : goal.returns
returns c =
    let refs = c.args.refs.now in
    two_told c.args.relationship refs c.in_ok-manifest.manifest c.in_ok-signature.signature
    (c.in_ok-manifest.ensures ∙ ap (λ (l : List ℕ). target_ref told l whole c.as_slice.result.now) c.as_str-label.ensures.value
    ∙ ap (λ (d : List ℕ). target_ref told refs.label whole d) c.as_slice.ensures)
    (c.in_ok-signature.ensures ∙ ap (λ (l : List ℕ). target_ref told l signature c.as_slice-2.result.now) c.as_str-label.ensures.value
    ∙ ap (λ (d : List ℕ). target_ref told refs.label signature d) c.as_slice-2.ensures)

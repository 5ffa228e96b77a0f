use Rattle.std.proofs.Common.{List, ap, ◌∙◌}
use Rattle.c2_spec.specs.Cbor.Deterministic.{deterministic}
use Rattle.c2_spec.specs.declared.cbor.Ref.{Ref}
use Rattle.c2_claim.specs.Written.{claim_item}
use Rattle.c2_new_file_spec.specs.Store.{claim_with, entry_of, new_alg}
use Rattle.c2_layout.proofs.AllBoxed.{three_boxes, three_made}
use Rattle.c2_layout.proofs.parts.parts_over.Goals as goal

pub returns-clause-boxes : goal.returns-clause-boxes
returns-clause-boxes g c =
    c.from_vec.ensures
    ∙ three_boxes c.args.definition.now.assertions c.args.ingredients.now c.args.binding.now _ _ _ _ _ _
    c.new-boxes.ensures.items c.as_slice-defined.ensures c.from_ref-last.ensures.value
    c.in_ok-push_all.ensures.boxes c.in_ok-push_all-2.ensures.boxes c.in_ok-push_all-3.ensures.boxes

pub returns-clause-claim : goal.returns-clause-claim
returns-clause-claim g c =
    let d = c.args.definition.now in
    c.in_ok-claim.ensures
    ∙ ap (λ (rs : List Ref). deterministic (claim_item (claim_with d rs))) (three_made (entry_of (g.H.Hashing.digest_of (new_alg d))) d.assertions c.args.ingredients.now c.args.binding.now _ _ _ _ _ _
    c.new-entries.ensures.items c.as_slice-defined.ensures c.from_ref-last.ensures.value c.in_ok-push_all.ensures.entries c.in_ok-push_all-2.ensures.entries c.in_ok-push_all-3.ensures.entries)

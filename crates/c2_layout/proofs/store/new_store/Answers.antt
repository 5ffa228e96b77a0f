use Rattle.std.proofs.Common.{ℕ, List, sym, ap, subst, ◌∙◌, length, arith}
use Rattle.std.proofs.lemmas.Result.{IfOk-weaker}
use Rattle.c2_spec.specs.Jumbf.Tree.{tree_bytes}
use Rattle.c2_spec.specs.Jumbf.Writing.{IsWrittenLabel}
use Rattle.c2_definition.specs.declared.types.Definition.{Definition}
use Rattle.c2_new_file_spec.specs.Store.{manifest_box, new_assertions, new_manifest}
use Rattle.c2_new_file_spec.proofs.Labels.{manifest_label, written_label}
use Rattle.c2_layout.proofs.store.new_store.Goals as goal

pub manifest_of-requires-clause-label : goal.manifest_of-requires-clause-label
manifest_of-requires-clause-label c =
    subst IsWrittenLabel (sym c.as_str.ensures.value)
    (written_label c.args.definition.now.label (manifest_label c.args.definition.now.label c.requires.formed.label))

pub store_of-requires : goal.store_of-requires
store_of-requires c =
    omega
    (arith, c.requires.small, c.in_ok-manifest.ensures.size, ap length c.as_str.ensures.value, ap length c.as_slice.ensures.value, ap length c.as_slice-2.ensures.value)

pub returns : goal.returns
returns c =
    IfOk-weaker c.store_of.result _ _ (λ b built hash content binding is are. built content.carried (new_manifest hash content binding c.args.message.now) (c.as_slice.ensures.value ∙ is.boxes)
    (c.as_slice-2.ensures.value ∙ c.in_ok-manifest.ensures.bytes (new_assertions hash content binding) are.boxes
    ∙ ap
    (λ (l : List ℕ). tree_bytes (manifest_box l (new_assertions hash content binding) c.args.parts.now.claim c.args.message.now))
    (c.as_str.ensures.value ∙ ap (λ (x : Definition). x.label) (sym is.definition))
    ∙ ap (λ (k : List ℕ). tree_bytes (manifest_box content.definition.label (new_assertions hash content binding) k c.args.message.now)) are.claim)) c.store_of.ensures

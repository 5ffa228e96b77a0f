use Rattle.std.proofs.Common.{◌∙◌, [], ◌∷◌, Bor, Option, ap, sym}
use Rattle.std.specs.List.{find}
use Rattle.std.specs.Option.{option_map}
use Rattle.c2_spec.specs.declared.cbor.Ref.{Ref}
use Rattle.c2_read_manifests.specs.declared.kept.ReadManifest.{ReadManifest}
use Rattle.c2_compare_spec.specs.Differences.{claim_pair, signature_pair, target_pairs}
use Rattle.c2_compare_spec.specs.Evidence.{do_differ}
use Rattle.c2_compare_evidence.specs.Differing.{view}
use Rattle.c2_compare_evidence.specs.Shown.{shown}
use Rattle.c2_compare_difference.proofs.Found.{found_first, found_second}
use Rattle.c2_compare_difference.proofs.pairs.target_difference.Goals as goal

-- the signature boxes differ
pub returns-in-Some-signature_difference : goal.returns-in-Some-signature_difference
returns-in-Some-signature_difference c =
    let own = c.args.own.now in
    let name = c.args.target.now.name.now in
    let left = option_map (λ (k : Bor ReadManifest). k.now) c.args.target.now.left in
    let right = option_map (λ (k : Bor ReadManifest). k.now) c.args.target.now.right in
    found_first (signature_pair own c.in-Some.reference name left right) (claim_pair name left right ∷ [])
    (view c.in-Some-signature_difference.found)
    (ap (option_map view) (sym c.in-Some-signature_difference.is) ∙ c.signature_difference.ensures)
    ∙ ap (λ (s : Option Ref). option_map shown (find do_differ (target_pairs own c.args.g.now s name left right)))
    (sym c.in-Some.is)

-- or their claims do, or nothing
pub returns-in_default : goal.returns-in_default
returns-in_default c =
    let own = c.args.own.now in
    let name = c.args.target.now.name.now in
    let left = option_map (λ (k : Bor ReadManifest). k.now) c.args.target.now.left in
    let right = option_map (λ (k : Bor ReadManifest). k.now) c.args.target.now.right in
    found_second (signature_pair own c.in-Some.reference name left right) (claim_pair name left right ∷ [])
    (option_map view c.claim_difference.result)
    (ap (option_map view) (sym c.in_default.is) ∙ c.signature_difference.ensures) c.claim_difference.ensures
    ∙ ap (λ (s : Option Ref). option_map shown (find do_differ (target_pairs own c.args.g.now s name left right)))
    (sym c.in-Some.is)

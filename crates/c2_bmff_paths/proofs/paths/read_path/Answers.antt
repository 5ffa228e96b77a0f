use Rattle.std.proofs.Common.{◌≡◌, ◌∙◌, ◌∷◌, [], ℕ, List, Some, option_map, sym, ap}
use Rattle.std.specs.Prelude.{option_and_then}
use Rattle.std.specs.List.{slice_split}
use Rattle.c2_spec.specs.Bmff.Paths.{PathStep, each_step, path_of}
use Rattle.c2_spec.specs.C2pa.Uri.{after_piece, is_slash}
use Rattle.c2_bmff_paths.proofs.PathWritten.{text_is}
use Rattle.c2_bmff_paths.proofs.paths.read_path.Goals as goal

-- the text that a path is read from is how it is written
pub invariant_of-result : goal.invariant_of-result
invariant_of-result c =
    let text : List ℕ = c.args.text.now in
    let steps : List PathStep = c.in-Some-2.segments.items in
    let after : after_piece (0x2F ∷ []) text ≡ Some c.in-Some.parts.now =
    sym c.strip.ensures ∙ ap (option_map (λ t. t.now)) c.in-Some.is in
    let read : path_of text ≡ Some steps =
    ap (option_and_then (λ (parts : List ℕ). each_step (slice_split is_slash parts))) after
    ∙ sym c.in_ok-segments.ensures ∙ ap (option_map (λ v. v.items)) c.in-Some-2.is in
    (c.in_ok-text.ensures ∙ sym (text_is text steps read), ap path_of c.in_ok-text.ensures ∙ read)

use Rattle.std.specs.Prelude.{◌==◌}
use Rattle.std.proofs.Common.{◌≡◌, ◌&&◌, false, sym, ap, ◌∙◌}
use Rattle.std.proofs.lemmas.Bool.{and_from, eq-eqb, ne_eqb}
use Rattle.c2_spec.specs.declared.markers.TheConstants.{APP0}
use Rattle.c2_jpegseg_segments.proofs.Fronts.{front_goes_on, front_ends}
use Rattle.c2_jpegseg_segments.proofs.front.grown.Goals.{else-front-via-then-front+else-marker-eq-APP0, else-front-via-else-front}
use Rattle.c2_jpegseg_segments.proofs.front.grown.Goals as goal

pub returns-then-marker-eq-APP0-clause-front : goal.returns-then-marker-eq-APP0-clause-front
returns-then-marker-eq-APP0-clause-front c ss s marker size front =
    front_goes_on c.args.front c.args.len ss s
    (and_from c.args.front.only (s.marker == APP0) c.if-front.true (eq-eqb s.marker APP0 (marker ∙ c.if-marker-eq-APP0.true)))
    size front

pub returns-clause-front : goal.returns-clause-front
returns-clause-front c ss s marker size front =
    let test : (c.args.front.only && (s.marker == APP0)) ≡ false = elim c.else-front.branch [
      | else-front-via-then-front+else-marker-eq-APP0 w ↦ ap (λ b. b && (s.marker == APP0)) w.if-front.true ∙ ne_eqb s.marker APP0 (λ e. w.if-marker-eq-APP0.false (sym marker ∙ e))
      | else-front-via-else-front w ↦ ap (λ b. b && (s.marker == APP0)) w.if-front.false
    ] in
    front_ends c.args.front ss s test front

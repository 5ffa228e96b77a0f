use Rattle.std.proofs.Common.{◌≡◌, ◌-◌, ◌∙◌, length, take, drop, cond, true, false, sym, ap, arith}
use Rattle.std.proofs.lemmas.List.{length-drop, take_all}
use Rattle.c2_spec.specs.Bmff.Paths.{PathStep, enters_other, is_entered}
use Rattle.c2_bmff_paths.proofs.PathLemmas.{enters_next, enters_end}
use Rattle.c2_bmff_paths.proofs.paths.passes_other.Goals as goal

-- where a step before the last has a type that no path enters, the path enters another box
pub returns-then-not-enters : goal.returns-then-not-enters
returns-then-not-enters c =
    let entered : is_entered c.index-rest-0.result.kind ≡ false =
    ap (λ (s : PathStep). is_entered s.kind) (sym c.step.view_is) ∙ sym c.enters.ensures ∙ c.if-not-enters.true in
    sym
    (sym c.loop-rest.invariant ∙ enters_next c.loop-rest.rest.now c.index-rest-0.result c.loop-rest-test.true c.index-rest-0.is ∙ ap (λ t. cond t (enters_other (drop 1 c.loop-rest.rest.now)) true) entered)

-- after a step whose box a path enters, the path enters another box just when its rest does
pub loop-rest-preserved : goal.loop-rest-preserved
loop-rest-preserved c =
    let entered : is_entered c.index-rest-0.result.kind ≡ true =
    ap (λ (s : PathStep). is_entered s.kind) (sym c.step.view_is) ∙ sym c.enters.ensures ∙ c.if-not-enters.false in
    let rest : take (length c.loop-rest.rest.now - 1) (drop 1 c.loop-rest.rest.now) ≡ drop 1 c.loop-rest.rest.now =
    take_all (length c.loop-rest.rest.now - 1) (drop 1 c.loop-rest.rest.now)
    (omega (arith, length-drop 1 c.loop-rest.rest.now)) in
    ap enters_other rest
    ∙ sym
    (enters_next c.loop-rest.rest.now c.index-rest-0.result c.loop-rest-test.true c.index-rest-0.is ∙ ap (λ t. cond t (enters_other (drop 1 c.loop-rest.rest.now)) true) entered)
    ∙ c.loop-rest.invariant

-- one step, or none, enters no other box, so neither does the path that it is left of
pub returns : goal.returns
returns c = sym (sym c.loop-rest.invariant ∙ enters_end c.loop-rest.rest.now c.loop-rest-test.false)

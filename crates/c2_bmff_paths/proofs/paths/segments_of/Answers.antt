use Rattle.std.proofs.Common.{◌∙◌, length, sym, ap, arith, lit<}
use Rattle.std.specs.List.{slice_split}
use Rattle.std.proofs.lemmas.Iterator.Consumers.{YieldsList-turn, YieldsList-end}
use Rattle.std.proofs.lemmas.Iterator.Splits.{YieldsList-from_str_split}
use Rattle.std.proofs.lemmas.List.{length_push}
use Rattle.c2_spec.specs.C2pa.Uri.{is_slash}
use Rattle.c2_spec.specs.Bmff.Paths.{step_of}
use Rattle.c2_bmff_paths.proofs.PathLemmas.{step_next, step_none, steps_all}
use Rattle.c2_bmff_paths.proofs.paths.segments_of.Goals as goal

-- where one text isn't a step, the texts aren't the steps of a path
pub returns-in_default : goal.returns-in_default
returns-in_default c =
    let turn =
    YieldsList-turn
    (YieldsList-from_str_split {s = c.into_iter-part-iterator.result} 47 c.args.parts.now (lit< tt) (cc) (cc) (cc))
    c.loop-part.yielded _ c.loop-part.yielded_by _ _ c.in-Some.part c.in-Some.is c.next.ensures.steps in
    step_none (slice_split is_slash c.args.parts.now) (length c.loop-part.yielded) c.in-Some.part.now c.loop-part.segments.items turn c.loop-part.invariant
    (sym c.in_default.is ∙ c.segment_of.ensures ∙ ap step_of c.as_bytes.ensures.value)

-- with the step of the next text, the steps read so far are those of the texts so far
pub loop-part-preserved : goal.loop-part-preserved
loop-part-preserved c =
    let turn =
    YieldsList-turn
    (YieldsList-from_str_split {s = c.into_iter-part-iterator.result} 47 c.args.parts.now (lit< tt) (cc) (cc) (cc))
    c.loop-part.yielded _ c.loop-part.yielded_by _ _ c.in-Some.part c.in-Some.is c.next.ensures.steps in
    rw c.in_ok-push.ensures.items (rw (length_push c.loop-part.yielded c.in-Some.part)
    (step_next (slice_split is_slash c.args.parts.now) (length c.loop-part.yielded) c.in-Some.part.now c.in-Some-segment_of.segment c.loop-part.segments.items turn c.loop-part.invariant
    (sym c.in-Some-segment_of.is ∙ c.segment_of.ensures ∙ ap step_of c.as_bytes.ensures.value)))

-- where all texts are steps, the steps read are those of the path
pub returns : goal.returns
returns c =
    let end =
    YieldsList-end
    (YieldsList-from_str_split {s = c.into_iter-part-iterator.result} 47 c.args.parts.now (lit< tt) (cc) (cc) (cc))
    c.loop-part.yielded _ c.loop-part.yielded_by _ _ c.in-None.is c.next.ensures.steps in
    steps_all (slice_split is_slash c.args.parts.now) (length c.loop-part.yielded) c.loop-part.segments.items
    (omega (arith, end.1)) c.loop-part.invariant

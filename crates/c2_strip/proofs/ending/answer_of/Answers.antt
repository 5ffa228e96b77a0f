use Rattle.std.proofs.Common.{◌≡◌, true, false, sym, ap, ◌∙◌}
use Rattle.c2_base.specs.declared.values.Range.{Range}
use Rattle.c2_strip.specs.Endings.{is_last}
use Rattle.c2_strip.proofs.Strips.{boxes_done, boxes_middle, said_container}
use Rattle.c2_container.proofs.TheLaws.{said_here}
use Rattle.c2_container.specs.declared.types.Container.TheVariants.{Bmff}
use Rattle.c2_strip.proofs.ending.answer_of.Goals as goal

-- the box is last, or a last `mfra` alone follows it
pub returns-then-ends-clause-strips : goal.returns-then-ends-clause-strips
returns-then-ends-clause-strips c = λ file said.
    let f = c.in-Some.found in
    let range : Range = record { start = f.start; length = f.length } in
    let contained = said_container file c.args.contained.now (Bmff c.in-Bmff.roots) said c.in-Bmff.is in
    let last : is_last range c.in-Bmff.roots ≡ true =
    sym (c.is_last-ends.ensures ∙ ap (is_last range) c.as_slice.ensures.boxes) ∙ c.if-ends.true in
    boxes_done file c.in-Bmff.roots range f.store contained.1 (said_here file c.args.contained.now f said c.in-Some.is) last

-- others follow it
pub returns-else-ends-clause-strips : goal.returns-else-ends-clause-strips
returns-else-ends-clause-strips c = λ file said.
    let f = c.in-Some.found in
    let range : Range = record { start = f.start; length = f.length } in
    let contained = said_container file c.args.contained.now (Bmff c.in-Bmff.roots) said c.in-Bmff.is in
    let last : is_last range c.in-Bmff.roots ≡ false =
    sym (c.is_last-ends.ensures ∙ ap (is_last range) c.as_slice.ensures.boxes) ∙ c.if-ends.false in
    boxes_middle file c.in-Bmff.roots range f.store contained.0 contained.1 (said_here file c.args.contained.now f said c.in-Some.is) last

use Rattle.std.proofs.Common.{List, ◌∷◌, sym, subst, arith}
use Rattle.c2_base.specs.declared.values.Range.{Range}
use Rattle.c2_cover.specs.Covers.{AreMerged}
use Rattle.c2_cover.specs.Stretches.{reading}
use Rattle.c2_cover.proofs.StretchLemmas.{read_past}
use Rattle.c2_cover.proofs.reader.CoveredReader.read_to.Goals as goal

-- the range that begins here ends in the file, so its end has room in 64 bits
pub overflow_add-result : goal.overflow_add-result
overflow_add-result c =
    let first : AreMerged c.self.inside.size c.self.inside.place.at (c.in-Some.first.now ∷ c.in-Some.others.now) =
    subst (λ (rs : List Range). AreMerged c.self.inside.size c.self.inside.place.at rs) c.in-Some.ensures.cases.0
    c.self.invariant.1 in
    omega (arith, first.2)

-- where a range begins at the reader's position, its end comes next
pub returns-then-first-self : goal.returns-then-first-self
returns-then-first-self c =
    let place = c.self.inside.place in
    rw (← c.self.view_is)
    (read_past (reading c.self.inside.size place.at place.ranges_left.now place.offsets.now place.start place.done)
    c.in-Some.first.now c.in-Some.others.now c.in-Some.ensures.cases.0 (sym c.if-first-self.true) c.self.invariant.1
    c.self.invariant.2)

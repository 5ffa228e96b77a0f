use Rattle.std.proofs.Common.{ap, sym, ◌∙◌}
use Rattle.c2_cover.specs.Covers.{Reading}
use Rattle.c2_cover.proofs.StretchLemmas.{due_none, ready_offset}
use Rattle.c2_cover.proofs.reader.CoveredReader.ready.Goals as goal

-- the box offset that stands there is begun
pub returns-then-first-at : goal.returns-then-first-at
returns-then-first-at c =
    ready_offset c.args.self.now c.read_to-at.result.at c.read_to-at.result.ranges_left.now c.in-Some.first.now c.in-Some.others.now c.read_to-at.ensures
    (sym (ap (λ (v : Reading). v.offsets) c.self.view_is) ∙ c.in-Some.ensures.cases.0) c.if-first-at.true
    (sym (ap (λ (v : Reading). v.due) c.self.view_is) ∙ due_none c.self.inside.place.start c.self.inside.place.done c.if-done-ge-WORD_LEN.true)

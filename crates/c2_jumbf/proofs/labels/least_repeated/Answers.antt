use Rattle.std.proofs.Common.{◌+◌, [], get_or, refl, sym, subst, ◌∙◌, arith}
use Rattle.c2_jumbf.specs.Labels.{marks, LeastRepeated}
use Rattle.c2_jumbf.proofs.Marks.{Lent, seen_as}
use Rattle.c2_jumbf.proofs.labels.least_repeated.Goals.{then-repeats, else-repeats}
use Rattle.c2_jumbf.proofs.labels.least_repeated.Goals as goal
use Rattle.c2_lemmas.proofs.Bools.{from_false, from_true}
use Rattle.c2_lemmas.proofs.Marks.{scan_passes, scan_takes}

pub loop-i-preserved : goal.loop-i-preserved
loop-i-preserved c =
    let d : Lent = (0, record { ref_ptr = (0, 0); now = [] }, 0) in
    elim c.if-repeats.branch [
      | then-repeats w ↦ subst (λ r. LeastRepeated (marks c.args.sorted.now) (c.loop-i.i + 1) r) (sym (w.least-is ∙ w.lesser-least.ensures))
          (scan_takes seen_as c.args.sorted.now c.loop-i.i d c.loop-i.least (omega arith) (omega arith) (get_or c.args.sorted.now c.loop-i.i d).2 (from_true _ _ c.repeats.ensures.0 w.if-repeats.true) refl c.loop-i.invariant)
      | else-repeats w ↦ subst (λ r. LeastRepeated (marks c.args.sorted.now) (c.loop-i.i + 1) r) (sym w.least-is)
          (scan_passes seen_as c.args.sorted.now c.loop-i.i d c.loop-i.least (omega arith) (omega arith) (from_false _ _ c.repeats.ensures.1 w.if-repeats.false) c.loop-i.invariant)
    ]

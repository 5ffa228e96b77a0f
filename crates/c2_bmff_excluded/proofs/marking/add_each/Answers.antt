use Rattle.std.proofs.Common.{◌≡◌, ◌∙◌, ◌||◌, ◌+◌, ◌≤◌, Bool, length, take, get_or, sym, ap, subst, arith}
use Rattle.std.proofs.lemmas.List.{get_or_default}
use Rattle.std.proofs.lemmas.List.Elements.{All-weaker}
use Rattle.c2_base.specs.declared.values.Range.{Range}
use Rattle.c2_spec.specs.Cover.{holds, is_excluded}
use Rattle.c2_bmff_rows.proofs.Lists.{any_more}
use Rattle.c2_bmff_excluded.specs.Marks.{AreApart, GrowsWithin}
use Rattle.c2_bmff_excluded.specs.Parts.{StartsBy}
use Rattle.c2_bmff_excluded.proofs.MarkLemmas.{no_range}
use Rattle.c2_bmff_excluded.proofs.RangeLemmas.{any_first, grows_some, on_err}
use Rattle.c2_bmff_excluded.proofs.marking.add_each.Goals as goal
use Rattle.c2_lemmas.proofs.Bools.{or_false}

-- before the first, the ranges are as they were
pub loop-other-init : goal.loop-other-init
loop-other-init c = record {
  same = λ i. sym (or_false (is_excluded c.args.ranges.now.items i));
  within = λ n old all. old;
  apart = λ rising none. subst (AreApart 0) (sym none) tt;
  below = λ rising none d more k e lt. absurd (omega (arith, lt, ap length none));
}

-- with the next range, its positions are held too
pub loop-other-preserved : goal.loop-other-preserved
loop-other-preserved c =
    let before = c.loop-other.invariant in
    let call = c.in_ok-add_range.ensures in
    let k = c.loop-other.other-index in
    record {
      same = λ i.
          call.same i ∙ ap (λ (b : Bool). b || holds i (get_or c.args.others.now k no_range)) (before.same i)
          ∙ sym (any_more (holds i) c.args.others.now k no_range (is_excluded c.args.ranges.now.items i) c.loop-other-test.true);
      within = λ n old all. call.within n (before.within n old all) (all k no_range c.loop-other-test.true);
      apart =
          λ rising none. call.apart (before.below rising none no_range c.loop-other-test.true) (before.apart rising none);
      below = λ rising none d more.
          let this : (get_or c.args.others.now k d).start ≡ (get_or c.args.others.now k no_range).start =
          ap (λ (r : Range). r.start) (get_or_default c.args.others.now k d no_range c.loop-other-test.true) in
          let step : (get_or c.args.others.now k d).start ≤ (get_or c.args.others.now (k + 1) d).start =
          rising k (k + 1) d (omega arith) more in
          call.below (get_or c.args.others.now (k + 1) d).start (omega (arith, this, step))
          (All-weaker (StartsBy (get_or c.args.others.now k d).start) (StartsBy (get_or c.args.others.now (k + 1) d).start) (λ x le. omega (arith, le, step)) c.loop-other.ranges.items (before.below rising none d c.loop-other-test.true));
    }

-- without memory for one, those before it were added
pub returns-in_err-add_range-clause-some : goal.returns-in_err-add_range-clause-some
returns-in_err-add_range-clause-some c =
    let k = c.loop-other.other-index in
    on_err c.from_residual.result
    (subst (GrowsWithin (is_excluded c.args.others.now) c.args.ranges.now.items) (sym c.in_err-add_range.ensures.kept)
    (grows_some (is_excluded c.args.others.now) (is_excluded (take k c.args.others.now)) c.args.ranges.now.items c.loop-other.ranges.items c.loop-other.invariant.same (λ i. any_first (holds i) k c.args.others.now)))

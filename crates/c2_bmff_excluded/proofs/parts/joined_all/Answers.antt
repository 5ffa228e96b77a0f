use Rattle.std.proofs.Common.{◌≡◌, ◌∙◌, ◌||◌, ◌+◌, Bool, get_or, ap, sym, arith}
use Rattle.std.proofs.lemmas.List.{get_or_default}
use Rattle.std.proofs.lemmas.List.Folds.{list_any_more}
use Rattle.c2_base.specs.declared.values.Range.{Range}
use Rattle.c2_spec.specs.Bmff.Hash.{in_part}
use Rattle.c2_bmff_excluded.proofs.MarkLemmas.{no_range}
use Rattle.c2_bmff_excluded.proofs.parts.joined_all.Goals as goal

-- with the next part, the joined ones hold what the parts so far do, and begin no later than the one after it
pub loop-part-preserved : goal.loop-part-preserved
loop-part-preserved c =
    let before = c.loop-part.invariant in
    let call = c.in_ok-add_part.ensures in
    let k = c.loop-part.part-index in
    record {
      same =
          λ i. call.same i ∙ ap (λ (b : Bool). b || in_part i (get_or c.args.parts.now k no_range)) (before.same i)
          ∙ sym (list_any_more (in_part i) c.args.parts.now k no_range c.loop-part-test.true);
      rising = call.rising before.rising;
      below = λ d more.
          let this : (get_or c.args.parts.now k d).start ≡ (get_or c.args.parts.now k no_range).start =
          ap (λ (p : Range). p.start) (get_or_default c.args.parts.now k d no_range c.loop-part-test.true) in
          call.below (get_or c.args.parts.now (k + 1) d).start (omega (arith, this, c.requires k (k + 1) d (omega arith) more));
    }

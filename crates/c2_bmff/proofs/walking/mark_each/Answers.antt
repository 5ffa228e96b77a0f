use Rattle.std.proofs.Common.{◌∙◌, ◌||◌, ℕ, List, Bool, get_or, subst, sym, ap, arith}
use Rattle.std.specs.Prelude.{All}
use Rattle.std.specs.List.{list_any}
use Rattle.std.proofs.lemmas.List.{take_all}
use Rattle.c2_spec.specs.Cover.{is_excluded}
use Rattle.c2_bmff_excluded.specs.Marks.{IsRangeWithin}
use Rattle.c2_bmff.specs.Trails.{through}
use Rattle.c2_bmff_rows.proofs.Lists.{any_more}
use Rattle.c2_bmff.proofs.walking.mark_each.Goals as goal

-- with one exclusion more, the ranges hold also what it excludes
pub loop-k-preserved : goal.loop-k-preserved
loop-k-preserved g c =
    let before = c.loop-k.invariant in
    let call = c.in-Ok.ensures in
    let k = c.loop-k.k-index in
    record {
      stays = record {
        same_len = call.stays.same_len ∙ before.stays.same_len;
        same_bytes = call.stays.same_bytes ∙ before.stays.same_bytes;
        later = omega (arith, call.stays.later, before.stays.later);
      };
      count = call.count ∙ before.count;
      within =
          subst (λ (n : ℕ). All (IsRangeWithin n) c.mark_asks.new.ranges.items) (before.stays.same_len) call.within;
      same = λ file known i.
          call.same file (before.stays.same_bytes ∙ known) i
          ∙ ap (λ (b : Bool). is_excluded c.loop-k.ranges.items i || b) (c.asks_at-asks.ensures file i c.args.row)
          ∙ ap (λ (a : Bool). a || through file c.args.entries.now i c.args.row (get_or c.args.here.now k 0))
          (before.same file known i)
          ∙ sym (any_more (through file c.args.entries.now i c.args.row) c.args.here.now k 0 (is_excluded c.args.ranges.now.items i) c.loop-k-test.true);
      few = call.few;
      front = λ file known. call.front file (before.stays.same_bytes ∙ known);
    }

-- after the last, what all of them exclude
pub returns-clause-same : goal.returns-clause-same
returns-clause-same g c file known i =
    c.loop-k.invariant.same file known i
    ∙ ap
    (λ (ks : List ℕ). is_excluded c.args.ranges.now.items i || list_any (through file c.args.entries.now i c.args.row) ks)
    (take_all c.loop-k.k-index c.args.here.now c.loop-k-test.false)

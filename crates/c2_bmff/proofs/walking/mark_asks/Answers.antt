use Rattle.std.proofs.Common.{◌∙◌, ◌||◌, ℕ, List, Bool, take, refl, subst, sym, ap, arith}
use Rattle.std.specs.Prelude.{All}
use Rattle.std.specs.List.{list_any}
use Rattle.std.proofs.lemmas.List.{take_all}
use Rattle.c2_spec.specs.Bmff.Hash.{Exclusion}
use Rattle.c2_spec.specs.Cover.{is_excluded}
use Rattle.c2_base.specs.declared.values.Range.{Range}
use Rattle.c2_bmff_excluded.specs.Marks.{IsRangeWithin, marks}
use Rattle.c2_base.proofs.Written.{source_stays}
use Rattle.c2_bmff_boxes.specs.Causes.{IsBmffCaused}
use Rattle.c2_bmff_rows.specs.Rows.{IsRowWithin}
use Rattle.c2_bmff_rows.proofs.Lists.{any_more}
use Rattle.c2_bmff.proofs.TrailLemmas.{whole_asks}
use Rattle.c2_bmff.proofs.walking.mark_asks.Goals as goal
use Rattle.c2_lemmas.proofs.Bools.{or_false}

-- with one exclusion more, the ranges hold also what it excludes
pub loop-ask-preserved : goal.loop-ask-preserved
loop-ask-preserved g c =
    let before = c.loop-ask.invariant in
    let front = c.in_ok-count.ensures in
    let call = c.in-Ok.ensures in
    let k = c.loop-ask.ask-index in
    let ask : Exclusion = c.ask-item.result in
    record {
      stays = record {
        same_len = call.reads.stays.same_len ∙ front.stays.same_len ∙ before.stays.same_len;
        same_bytes = call.reads.stays.same_bytes ∙ front.stays.same_bytes ∙ before.stays.same_bytes;
        later = omega (arith, call.reads.stays.later, front.stays.later, before.stays.later);
      };
      count = call.reads.quiet ∙ front.cause.ok ∙ before.count;
      within =
          subst (λ (n : ℕ). All (IsRangeWithin n) c.mark_row.new.ranges.items)
          (front.stays.same_len ∙ before.stays.same_len) call.within;
      same = λ file known i.
          call.same file (front.stays.same_bytes ∙ before.stays.same_bytes ∙ known) i
          ∙ ap (λ (a : Bool). a || marks file ask i c.args.row) (before.same file known i)
          ∙ ap
          (λ (e : Exclusion). (is_excluded c.args.ranges.now.items i || list_any (λ (x : Exclusion). marks file x i c.args.row) (take k c.args.asks.now)) || marks file e i c.args.row)
          c.ask-item.is
          ∙ sym (any_more (λ (e : Exclusion). marks file e i c.args.row) c.args.asks.now k ask (is_excluded c.args.ranges.now.items i) c.loop-ask-test.true);
      few = front.few;
      front = λ file known. front.front file (before.stays.same_bytes ∙ known);
    }

-- after the last, what all of them exclude
pub returns-clause-same : goal.returns-clause-same
returns-clause-same g c file known i =
    c.loop-ask.invariant.same file known i
    ∙ ap
    (λ (es : List Exclusion). is_excluded c.args.ranges.now.items i || list_any (λ (e : Exclusion). marks file e i c.args.row) es)
    (take_all c.loop-ask.ask-index c.args.asks.now c.loop-ask-test.false)

-- where the ranges hold the box whole, the other exclusions add nothing
pub returns-then-is_whole-clause-same : goal.returns-then-is_whole-clause-same
returns-then-is_whole-clause-same g c file known i =
    let old : Bool = is_excluded c.args.ranges.now.items i in
    let new : Bool = is_excluded c.loop-ask.ranges.items i in
    whole_asks file i c.args.row c.args.asks.now c.loop-ask.ask-index new old
    (λ inside. ap (λ (rs : List Range). is_excluded rs i) (sym c.deref.ensures.value)
    ∙ c.is_whole.ensures.holds c.if-is_whole.true i inside)
    (c.loop-ask.invariant.same file known i)

-- before the first, all is as it was
pub loop-ask-init : goal.loop-ask-init
loop-ask-init g c = record {
  stays = record { same_len = refl; same_bytes = refl; later = omega arith };
  count = refl;
  within = c.requires.within;
  same = λ file known i. sym (or_false (is_excluded c.args.ranges.now.items i));
  few = c.requires.few;
  front = c.requires.front;
}

-- the box lies inside the source as before
pub mark_row-requires-clause-inside : goal.mark_row-requires-clause-inside
mark_row-requires-clause-inside g c =
    subst (λ (n : ℕ). IsRowWithin n c.args.row)
    (sym (c.in_ok-count.ensures.stays.same_len ∙ c.loop-ask.invariant.stays.same_len)) c.requires.inside

-- and so do the ranges
pub mark_row-requires-clause-within : goal.mark_row-requires-clause-within
mark_row-requires-clause-within g c =
    subst (λ (n : ℕ). All (IsRangeWithin n) c.loop-ask.ranges.items)
    (sym (c.in_ok-count.ensures.stays.same_len ∙ c.loop-ask.invariant.stays.same_len)) c.loop-ask.invariant.within

-- what the calls before an error leave of the source
pub returns-in-Err-clause-stays : goal.returns-in-Err-clause-stays
returns-in-Err-clause-stays g c =
    source_stays g.S.Source.len g.S.Source.known g.S.Source.faults c.args.source.now c.fill_front.new.source
    c.mark_row.new.source
    (source_stays g.S.Source.len g.S.Source.known g.S.Source.faults c.args.source.now c.loop-ask.source c.fill_front.new.source c.loop-ask.invariant.stays c.in_ok-count.ensures.stays)
    c.in-Err.ensures.reads.stays

-- and its cause
pub returns-in-Err-clause-cause : goal.returns-in-Err-clause-cause
returns-in-Err-clause-cause g c =
    subst (λ (n : ℕ). IsBmffCaused n (g.S.Source.faults c.mark_row.new.source) c.in-Err.error)
    (c.in_ok-count.ensures.cause.ok ∙ c.loop-ask.invariant.count) c.in-Err.ensures.reads.cause

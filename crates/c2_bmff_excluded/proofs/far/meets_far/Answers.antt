use Rattle.std.proofs.Common.{◌∙◌, ◌+◌, ◌≤◌, ◌&&◌, Bool, ℕ, List, drop, map, is_some, refl, sym, ap, subst, arith}
use Rattle.std.specs.Prelude.{IfSome}
use Rattle.std.specs.List.{list_all}
use Rattle.std.specs.Option.{ForSome}
use Rattle.std.specs.declared.option.Option.{Option}
use Rattle.std.proofs.lemmas.List.{drop_all}
use Rattle.c2_base.proofs.Written.{source_stays}
use Rattle.c2_bmff_rows.specs.Rows.{IsRowWithin}
use Rattle.c2_bmff_excluded.specs.Marks.{holds_test}
use Rattle.c2_bmff_excluded.specs.Runs.{run_test}
use Rattle.c2_bmff_excluded.specs.Windows.{IsWindow}
use Rattle.c2_bmff_excluded.specs.declared.far.Window.{Window}
use Rattle.c2_bmff_excluded.specs.declared.runs.Run.{Run}
use Rattle.c2_bmff_excluded.proofs.RunLemmas.{runs_from}
use Rattle.c2_bmff_excluded.proofs.far.meets_far.Goals as goal

-- at first all runs are left, and no bytes were read
pub loop-run-init : goal.loop-run-init
loop-run-init g c = record {
  stays = record { same_len = refl; same_bytes = refl; later = omega arith };
  count = refl;
  same = λ file known. refl;
  few = omega arith;
  window = λ file known. refl;
}

-- the window has bytes of the file
pub meets-requires : goal.meets-requires
meets-requires g c =
    let before = c.loop-run.invariant in
    record {
      inside =
          subst (λ (n : ℕ). IsRowWithin n c.args.row) (sym before.stays.same_len) c.requires.inside;
      few = before.few;
      window = λ file known. before.window file (sym before.stays.same_bytes ∙ known);
    }

-- past a run that stands in the box
pub loop-run-preserved : goal.loop-run-preserved
loop-run-preserved g c =
    let before = c.loop-run.invariant in
    let call = c.in_ok-next.ensures in
    let runs : List Run = c.args.runs.now in
    let bytes : List ℕ = c.args.bytes.now in
    let k : ℕ = c.loop-run.run-index in
    record {
      stays =
          source_stays g.S.Source.len g.S.Source.known g.S.Source.faults c.args.source.now c.loop-run.source
          c.meets.new.source before.stays call.stays;
      count = call.cause.ok ∙ before.count;
      same = λ file known.
          let rest : Bool = list_all (holds_test file c.args.row) (map (run_test bytes) (drop (k + 1) runs)) in
          before.same file known ∙ runs_from file c.args.row bytes runs k c.loop-run-test.true
          ∙ ap (λ (b : Bool). b && rest) (sym (call.meets file (before.stays.same_bytes ∙ known)) ∙ ap is_some c.in-Some.is);
      few = subst (λ (o : Option Window). IfSome o (λ w. w.count ≤ 4096)) c.in-Some.is call.few;
      window = λ file known.
          subst
          (λ (o : Option Window). IfSome o (λ w. ForSome (g.S.Source.known c.loop-run.source) (λ f. IsWindow f c.meets.new.bytes w)))
          c.in-Some.is call.window file (before.stays.same_bytes ∙ known);
    }

-- a run that doesn't
pub returns-in_default-clause-meets : goal.returns-in_default-clause-meets
returns-in_default-clause-meets g c file known =
    let before = c.loop-run.invariant in
    let runs : List Run = c.args.runs.now in
    let bytes : List ℕ = c.args.bytes.now in
    let k : ℕ = c.loop-run.run-index in
    let rest : Bool = list_all (holds_test file c.args.row) (map (run_test bytes) (drop (k + 1) runs)) in
    sym
    (before.same file known ∙ runs_from file c.args.row bytes runs k c.loop-run-test.true
    ∙ ap (λ (b : Bool). b && rest) (sym (c.in_ok-next.ensures.meets file (before.stays.same_bytes ∙ known)) ∙ ap is_some c.in_default.is))

pub returns-in_default-clause-stays : goal.returns-in_default-clause-stays
returns-in_default-clause-stays g c =
    source_stays g.S.Source.len g.S.Source.known g.S.Source.faults c.args.source.now c.loop-run.source c.meets.new.source
    c.loop-run.invariant.stays c.in_ok-next.ensures.stays

-- no run is left
pub returns-clause-meets : goal.returns-clause-meets
returns-clause-meets g c file known =
    sym
    (c.loop-run.invariant.same file known
    ∙ ap (λ (rs : List Run). list_all (holds_test file c.args.row) (map (run_test c.args.bytes.now) rs)) (drop_all c.loop-run.run-index c.args.runs.now c.loop-run-test.false))

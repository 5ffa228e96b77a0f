use Rattle.std.proofs.Common.{◌∙◌, ◌+◌, ◌&&◌, Bool, ℕ, List, length, drop, map, refl, sym, ap, subst, arith}
use Rattle.std.specs.Prelude.{All}
use Rattle.std.specs.List.{list_all}
use Rattle.std.proofs.lemmas.List.{drop_all, take_rest}
use Rattle.std.proofs.lemmas.List.Elements.{All-drop}
use Rattle.std.proofs.lemmas.Result.{IfOk-weaker}
use Rattle.c2_base.specs.Causes.{HasCause}
use Rattle.c2_base.proofs.Written.{source_stays}
use Rattle.c2_bmff_excluded.specs.Marks.{holds_test}
use Rattle.c2_bmff_excluded.specs.Runs.{IsRunWithin, run_test}
use Rattle.c2_bmff_excluded.specs.declared.runs.Run.{Run}
use Rattle.c2_bmff_excluded.proofs.RunLemmas.{runs_from}
use Rattle.c2_bmff_excluded.proofs.marking.meets_runs.Goals as goal

-- at first all runs are left
pub loop-k-init : goal.loop-k-init
loop-k-init g c = record {
  stays = record { same_len = refl; same_bytes = refl; later = omega arith };
  count = refl;
  same = λ file known. refl;
}

-- past a run that stands in the box
pub loop-k-preserved : goal.loop-k-preserved
loop-k-preserved g c =
    let before = c.loop-k.invariant in
    let runs : List Run = c.args.runs.now in
    let bytes : List ℕ = c.args.bytes.now in
    let k : ℕ = c.loop-k.k in
    record {
      stays = before.stays;
      count = before.count;
      same = λ file known.
          let rest : Bool = list_all (holds_test file c.args.row) (map (run_test bytes) (drop (k + 1) runs)) in
          before.same file known ∙ runs_from file c.args.row bytes runs k c.loop-k-test.true
          ∙ ap (λ (b : Bool). b && rest) (sym (c.in-Some.ensures file (c.requires.front file known)) ∙ c.if-not-same.false);
    }

-- a run that doesn't
pub returns-then-not-same-clause-meets : goal.returns-then-not-same-clause-meets
returns-then-not-same-clause-meets g c file known =
    let runs : List Run = c.args.runs.now in
    let bytes : List ℕ = c.args.bytes.now in
    let k : ℕ = c.loop-k.k in
    let rest : Bool = list_all (holds_test file c.args.row) (map (run_test bytes) (drop (k + 1) runs)) in
    sym
    (c.loop-k.invariant.same file known ∙ runs_from file c.args.row bytes runs k c.loop-k-test.true
    ∙ ap (λ (b : Bool). b && rest) (sym (c.in-Some.ensures file (c.requires.front file known)) ∙ c.if-not-same.true))

-- no run is left
pub returns-clause-meets : goal.returns-clause-meets
returns-clause-meets g c file known =
    sym
    (c.loop-k.invariant.same file known
    ∙ ap (λ (rs : List Run). list_all (holds_test file c.args.row) (map (run_test c.args.bytes.now) rs)) (drop_all c.loop-k.k c.args.runs.now c.loop-k-test.false))

-- the runs that are left are among the bytes
pub meets_far-requires-clause-within : goal.meets_far-requires-clause-within
meets_far-requires-clause-within g c =
    subst (All (IsRunWithin (length c.args.bytes.now))) (sym (take_rest c.args.runs.now c.loop-k.k))
    (All-drop (IsRunWithin (length c.args.bytes.now)) c.loop-k.k c.args.runs.now c.requires.within)

-- they are looked for behind the first bytes
pub returns-in_default-clause-meets : goal.returns-in_default-clause-meets
returns-in_default-clause-meets g c =
    let before = c.loop-k.invariant in
    IfOk-weaker c.meets_far.result _ _
    (λ b is file known. is file (before.stays.same_bytes ∙ known)
    ∙ ap (λ (rs : List Run). list_all (holds_test file c.args.row) (map (run_test c.args.bytes.now) rs)) (take_rest c.args.runs.now c.loop-k.k)
    ∙ sym (before.same file known))
    c.meets_far.ensures.meets

pub returns-in_default-clause-stays : goal.returns-in_default-clause-stays
returns-in_default-clause-stays g c =
    source_stays g.S.Source.len g.S.Source.known g.S.Source.faults c.args.source.now c.loop-k.source c.meets_far.new.source
    c.loop-k.invariant.stays c.meets_far.ensures.stays

pub returns-in_default-clause-cause : goal.returns-in_default-clause-cause
returns-in_default-clause-cause g c =
    subst (λ (n : ℕ). HasCause n (g.S.Source.faults c.meets_far.new.source) c.meets_far.result) c.loop-k.invariant.count
    c.meets_far.ensures.cause

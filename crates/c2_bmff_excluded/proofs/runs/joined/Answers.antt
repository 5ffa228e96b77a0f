use Rattle.std.proofs.Common.{◌≡◌, ◌∙◌, ◌&&◌, ◌+◌, ◌≤◌, ◌∷◌, ◌++◌, [], Bool, ℕ, List, length, get_or, take, max, false, sym, ap, subst, arith}
use Rattle.std.specs.Prelude.{All, IfSome, map, nat_le}
use Rattle.std.specs.List.{list_all}
use Rattle.std.proofs.lemmas.List.{get_or_default, take_all}
use Rattle.std.proofs.lemmas.List.Elements.{All-push}
use Rattle.c2_bmff_excluded.specs.Marks.{holds_test}
use Rattle.c2_bmff_excluded.specs.Runs.{IsLastWithin, IsRunWithin, holds_last, holds_next, key_test, least_test, run_test}
use Rattle.c2_bmff_excluded.specs.declared.runs.Key.{Key}
use Rattle.c2_bmff_excluded.specs.declared.runs.Run.{Run}
use Rattle.c2_bmff_excluded.proofs.RunLemmas.{all_first, all_more, asked_is, holds_at, holds_short, no_box_false, no_key, one_more_test}
use Rattle.c2_bmff_excluded.proofs.runs.joined.Goals as goal
use Rattle.c2_lemmas.proofs.Bools.{and_false}

-- with the next byte test, a box meets all so far just when it is long enough and meets the runs
pub loop-key-preserved : goal.loop-key-preserved
loop-key-preserved c =
    let before = c.loop-key.invariant in
    let call = c.in_ok-next.ensures in
    let tests = c.args.tests.now in
    let keys : List Key = c.args.keys.now in
    let k = c.loop-key.key-index in
    let key : Key = get_or keys k no_key in
    let v : List ℕ = c.as_slice-value.result.now in
    let there : key.index + 1 ≤ length tests = c.requires k no_key c.loop-key-test.true in
    let value : v ≡ (get_or tests key.index (0, [])).1 =
    c.as_slice-value.ensures.value
    ∙ ap (λ (p : ℕ × List ℕ). p.1)
    (get_or_default tests key.index c.index-tests-key.result (0, []) (omega (arith, there))) in
    let least : c.max-least.result ≡ max c.loop-key.least (key.offset + length v) =
    omega (arith, c.max-least.ensures) in
    record {
      last = subst (λ n. IfSome n (IsLastWithin (length c.add_value.new.bytes.items))) c.in-Some.is call.last;
      within = call.within;
      same = λ file r.
          let after : Bool = holds_last file r c.add_value.new.bytes.items c.add_value.new.runs.items c.in-Some.next in
          ap (λ (n : ℕ). nat_le n r.length && after) least
          ∙ one_more_test c.loop-key.least (key.offset + length v) r.length
          (holds_last file r c.loop-key.bytes.items c.loop-key.runs.items c.loop-key.last) after
          (holds_at file r key.offset v) (list_all (holds_test file r) (map (key_test tests) (take k keys)))
          (before.same file r)
          (λ fits. ap (λ n. holds_next file r c.add_value.new.bytes.items c.add_value.new.runs.items n) (sym c.in-Some.is) ∙ call.same file r fits) (λ short. holds_short file r key.offset v short)
          ∙ ap (λ (xs : List ℕ). list_all (holds_test file r) (map (key_test tests) (take k keys)) && holds_at file r key.offset xs) value ∙ sym (all_more file r tests keys k c.loop-key-test.true);
    }

-- where no box meets two of them, no box meets all
pub returns-in_default-clause-same : goal.returns-in_default-clause-same
returns-in_default-clause-same c file r =
    let before = c.loop-key.invariant in
    let call = c.in_ok-next.ensures in
    let tests = c.args.tests.now in
    let keys : List Key = c.args.keys.now in
    let k = c.loop-key.key-index in
    let key : Key = get_or keys k no_key in
    let v : List ℕ = c.as_slice-value.result.now in
    let there : key.index + 1 ≤ length tests = c.requires k no_key c.loop-key-test.true in
    let value : v ≡ (get_or tests key.index (0, [])).1 =
    c.as_slice-value.ensures.value
    ∙ ap (λ (p : ℕ × List ℕ). p.1)
    (get_or_default tests key.index c.index-tests-key.result (0, []) (omega (arith, there))) in
    let all : Bool = list_all (holds_test file r) (map (key_test tests) (take k keys)) in
    let step =
    one_more_test c.loop-key.least (key.offset + length v) r.length
    (holds_last file r c.loop-key.bytes.items c.loop-key.runs.items c.loop-key.last) false
    (holds_at file r key.offset v) all (before.same file r)
    (λ fits. ap (λ n. holds_next file r c.add_value.new.bytes.items c.add_value.new.runs.items n) (sym c.in_default.is) ∙ call.same file r fits) (λ short. holds_short file r key.offset v short) in
    let never : (all && holds_at file r key.offset v) ≡ false =
    sym step ∙ and_false (nat_le (max c.loop-key.least (key.offset + length v)) r.length) in
    no_box_false file r
    ∙ sym
    (all_first file r tests keys (k + 1) (all_more file r tests keys k c.loop-key-test.true ∙ ap (λ (xs : List ℕ). all && holds_at file r key.offset xs) (sym value) ∙ never))

-- after the last, the runs with the last one ask what all byte tests do
pub returns-clause-same : goal.returns-clause-same
returns-clause-same c file r =
    let before = c.loop-key.invariant in
    let end : c.len-end.result ≡ length c.loop-key.bytes.items = omega (arith, c.len-end.ensures) in
    ap
    (λ (rs : List Run). list_all (holds_test file r) (least_test c.loop-key.least ∷ map (run_test c.loop-key.bytes.items) rs))
    (c.in_ok-push.ensures.items ∙ ap (λ (n : ℕ). c.loop-key.runs.items ++ (record { offset = c.loop-key.last.offset; start = c.loop-key.last.start; end = n }) ∷ []) end)
    ∙ asked_is file r c.loop-key.bytes.items c.loop-key.runs.items c.loop-key.last c.loop-key.least before.last
    ∙ before.same file r
    ∙ ap (λ (ks : List Key). list_all (holds_test file r) (map (key_test c.args.tests.now) ks))
    (take_all c.loop-key.key-index c.args.keys.now c.loop-key-test.false)

-- and all of them are among the bytes
pub returns-clause-within : goal.returns-clause-within
returns-clause-within c =
    let before = c.loop-key.invariant in
    let n : ℕ = length c.loop-key.bytes.items in
    subst (All (IsRunWithin n)) (sym c.in_ok-push.ensures.items)
    (All-push (IsRunWithin n) c.loop-key.runs.items (record { offset = c.loop-key.last.offset; start = c.loop-key.last.start; end = c.len-end.result }) before.within (omega (arith, before.last, c.len-end.ensures), omega (arith, c.len-end.ensures)))

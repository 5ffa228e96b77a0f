-- The answer of the check over an opened store, part by part.
use Rattle.std.proofs.Common.{◌≡◌, ◌≢◌, ℕ, Bool, true, false, cond, List, [], ◌++◌, length, map, Option, Some, None, Result, Ok, Err, IfErr, is_none, refl, sym, ap, ap₂, ◌∙◌, subst}
use Rattle.std.specs.declared.alloc.Global.{Global}
use Rattle.std.specs.declared.vec.Vec.{Vec}
use Rattle.c2_base.specs.declared.values.Question.{Question}
use Rattle.c2_spec.specs.Judges.Panel.{panel_says}
use Rattle.c2_spec.specs.Cover.{covered_count, outside_count}
use Rattle.c2_spec.specs.declared.assertion.FieldError.{FieldError}
use Rattle.c2_spec.specs.declared.digest.Alg.{Alg}
use Rattle.c2_spec.specs.declared.panel.Verdict.{Verdict}
use Rattle.c2_cover.specs.Covers.{excluded_of}
use Rattle.c2_rules.specs.Asking.{HearsPanel, broken, part}
use Rattle.c2_rules.specs.Binding.{Binding, HasBinding, Media, binding_value, media_tests}
use Rattle.c2_rules.specs.CheckList.{HasBindingOf, active_in, active_tests, answer_of, asked_below, chain_tests, check_asks, check_list, judged_tests, last_tests, summary_of}
use Rattle.c2_rules.specs.CheckList as list
use Rattle.c2_rules.specs.Readings.{Reading}
use Rattle.c2_rules.specs.Tests.{first_failing}
use Rattle.c2_rules.specs.declared.answer.Answer.TheVariants as answer
use Rattle.c2_rules.specs.declared.answer.Failing.{Failing}
use Rattle.c2_rules.specs.declared.answer.Summary.{Summary}
use Rattle.c2_rules.proofs.TestLemmas.{part_fails, part_passes}
use Rattle.c2_chain.specs.Checked.{chain_heard}
use Rattle.c2_chain.specs.declared.asking.ChainError.{ChainError}
use Rattle.c2_chain.specs.declared.asking.ChainError.TheVariants as chain
use Rattle.c2_opening.specs.Media.{IsMediaOf}
use Rattle.c2_opening.specs.Opened.{IsOpeningCause}
use Rattle.c2_opening.specs.declared.error.ValidateError.{ValidateError}
use Rattle.c2_opening.specs.declared.error.ValidateError.TheVariants.{ReadFault, JudgeFault, NoMemory}
use Rattle.c2_hard_binding.specs.Found.{HasSize, IsBoundAs}
use Rattle.c2_hard_binding.specs.declared.bound.Bound.{Bound}
use Rattle.c2_hard_binding.specs.declared.bound.Bound.TheVariants.{Fails, Holds}
use Rattle.c2_hard_binding.specs.declared.bound.BoundText.{BoundText}
use Rattle.c2_calls_spec.proofs.PanelLemmas.{hears_error, hears_later}
use Rattle.c2_validate.specs.Checked.{IsCheckedOver, IsCheckReadCause, StoreAsks, readings_of, validate_heard}
use Rattle.c2_validate.specs.Checks.{ChainAsks, fault_of}
use Rattle.c2_validate.specs.Counts.{summary_by}
use Rattle.c2_validate.specs.declared.checking.Checked.TheVariants.{Valid, Failing as FailingOf}
use Rattle.c2_validate.specs.declared.checking.OpenedStore.{OpenedStore}

-- ---- what is asked

-- what is asked, by whether the active manifest fails
asks_by : (hash : Alg → List ℕ → List ℕ) (said : Question → Verdict) (rs : List Reading) (o : Option Failing) (b : Bool)
    → is_none o ≡ b → o ≡ first_failing (active_tests (active_in rs))
    → check_asks hash said rs ≡ cond b (asked_below (judged_tests hash said) rs (length rs)) []
asks_by hash said rs o b is same =
    ap (λ (t : Bool). cond t (asked_below (judged_tests hash said) rs (length rs)) []) (ap is_none (sym same) ∙ is)

-- nothing is asked where the active manifest fails
pub asks_none : (hash : Alg → List ℕ → List ℕ) (said : Question → Verdict) (rs : List Reading) (failing : Failing)
    → Some failing ≡ first_failing (active_tests (active_in rs)) → check_asks hash said rs ≡ []
asks_none hash said rs failing fails = asks_by hash said rs (Some failing) false refl fails

-- all reached manifests are asked of where it holds
pub asks_below : (hash : Alg → List ℕ → List ℕ) (said : Question → Verdict) (rs : List Reading)
    → None ≡ first_failing (active_tests (active_in rs))
    → check_asks hash said rs ≡ asked_below (judged_tests hash said) rs (length rs)
asks_below hash said rs passes = asks_by hash said rs None true refl passes

-- a fault that is handed up tells the same of the questions
pub heard_same : (e : ChainError) (f : ValidateError) → f ≡ fault_of e → chain_heard e ≡ validate_heard f
heard_same chain.JudgeFault f is = ap validate_heard (sym is)
heard_same chain.NoMemory f is = ap validate_heard (sym is)

-- the reached manifests were asked of, and no judge after that: whatever is answered then, these are all questions of the store
pub store_heard :
    {J T U : Type 0} (says : J → Question → Verdict) (times faults : J → ℕ) (hash : Alg → List ℕ → List ℕ)
    (o : OpenedStore) (old new : Vec J Global) (x : T) (r : Result U ValidateError)
    → None ≡ first_failing (active_tests (active_in (readings_of o)))
    → IfErr r (λ f. validate_heard f ≢ broken)
    → HearsPanel {E = ChainError} says times faults chain_heard (ChainAsks hash (readings_of o)) old new (Ok x)
    → HearsPanel says times faults validate_heard (StoreAsks hash o) old new r
store_heard says times faults hash o old new x r passes never h =
    hears_later says times faults chain_heard validate_heard (StoreAsks hash o) (ChainAsks hash (readings_of o)) old new
    x r never (λ qs asks. asks ∙ asks_below hash (panel_says (map says old.items)) (readings_of o) passes) h

-- asking of them broke off
pub store_broke :
    {J T U : Type 0} (says : J → Question → Verdict) (times faults : J → ℕ) (hash : Alg → List ℕ → List ℕ)
    (o : OpenedStore) (old new : Vec J Global) (e : ChainError) (f : ValidateError)
    → None ≡ first_failing (active_tests (active_in (readings_of o))) → f ≡ fault_of e
    → HearsPanel {T = T} says times faults chain_heard (ChainAsks hash (readings_of o)) old new (Err e)
    → HearsPanel {T = U} says times faults validate_heard (StoreAsks hash o) old new (Err f)
store_broke says times faults hash o old new e f passes is h =
    hears_error says times faults chain_heard validate_heard (StoreAsks hash o) (ChainAsks hash (readings_of o)) old new
    e f (heard_same e f is)
    (λ qs asks. asks ∙ asks_below hash (panel_says (map says old.items)) (readings_of o) passes) h

-- ---- errors

-- a fault of a check that reads no source has its cause without one
pub fault_reads : (before now : ℕ) (e : ChainError) (f : ValidateError) → f ≡ fault_of e → IsCheckReadCause before now f
fault_reads before now chain.JudgeFault f is = subst (IsCheckReadCause before now) (sym is) tt
fault_reads before now chain.NoMemory f is = subst (IsCheckReadCause before now) (sym is) tt

-- where no judge is asked, no error is that of a judge
pub no_judge : (before now : ℕ) (e : ValidateError) → IsOpeningCause before now e → validate_heard e ≢ broken
no_judge before now ReadFault h is = cc (is)
no_judge before now JudgeFault h is = absurd h
no_judge before now NoMemory h is = cc (is)

-- an error of a call without judges leaves questions open
pub part_heard : (before now : ℕ) (e : ValidateError) → IsOpeningCause before now e → part ≡ validate_heard e
part_heard before now ReadFault h = refl
part_heard before now JudgeFault h = absurd h
part_heard before now NoMemory h = refl

-- the cause of an error of a call without judges is one where judges may be asked
pub read_cause : (before now : ℕ) (e : ValidateError) → IsOpeningCause before now e → IsCheckReadCause before now e
read_cause before now ReadFault h = h
read_cause before now JudgeFault h = tt
read_cause before now NoMemory h = tt

-- ---- the answer

-- a part of the list fails
part_checked :
    (hash : Alg → List ℕ → List ℕ) (said : Question → Verdict) (o : OpenedStore) (file : List ℕ) (failing : Failing)
    → ((b : Option (Result Binding FieldError)) → Some failing ≡ first_failing (check_list hash said (record { readings = readings_of o; binding = b })))
    → IsCheckedOver hash said o file (FailingOf failing)
part_checked hash said o file failing fails m i b has = record {
  answer =
      ap
      (answer_of (summary_of (length file) o.range.start o.range.length (record { readings = readings_of o; binding = b })))
      (fails b);
  text = tt;
}

-- the rule on the active manifest fails
pub active_fails :
    (hash : Alg → List ℕ → List ℕ) (said : Question → Verdict) (o : OpenedStore) (file : List ℕ) (failing : Failing)
    → Some failing ≡ first_failing (active_tests (active_in (readings_of o)))
    → IsCheckedOver hash said o file (FailingOf failing)
active_fails hash said o file failing fails =
    part_checked hash said o file failing
    (λ b. part_fails (active_tests (active_in (readings_of o))) (chain_tests (judged_tests hash said) (readings_of o) ++ last_tests hash b (active_in (readings_of o))) failing fails)

-- a rule on a reached manifest fails
pub chain_fails :
    (hash : Alg → List ℕ → List ℕ) (said : Question → Verdict) (o : OpenedStore) (file : List ℕ) (failing : Failing)
    → None ≡ first_failing (active_tests (active_in (readings_of o)))
    → Some failing ≡ first_failing (chain_tests (judged_tests hash said) (readings_of o))
    → IsCheckedOver hash said o file (FailingOf failing)
chain_fails hash said o file failing passes fails =
    part_checked hash said o file failing
    (λ b. part_passes (active_tests (active_in (readings_of o))) (chain_tests (judged_tests hash said) (readings_of o) ++ last_tests hash b (active_in (readings_of o))) (Some failing) passes
    (part_fails (chain_tests (judged_tests hash said) (readings_of o)) (last_tests hash b (active_in (readings_of o))) failing fails))

-- the rule on the binding decides
last_decides : (hash : Alg → List ℕ → List ℕ) (said : Question → Verdict) (rs : List Reading) (own : Reading)
    (b : Option (Result Binding FieldError)) (o : Option Failing) → active_in rs ≡ Some own
    → None ≡ first_failing (active_tests (active_in rs))
    → None ≡ first_failing (chain_tests (judged_tests hash said) rs)
    → o ≡ first_failing (media_tests hash own b)
    → o ≡ first_failing (check_list hash said (record { readings = rs; binding = b }))
last_decides hash said rs own b o is first passes h =
    part_passes (active_tests (active_in rs))
    (chain_tests (judged_tests hash said) rs ++ last_tests hash b (active_in rs)) o first
    (part_passes (chain_tests (judged_tests hash said) rs) (last_tests hash b (active_in rs)) o passes (h ∙ ap first_failing (sym (ap (last_tests hash b) is))))

-- the binding fails
pub binding_fails :
    (hash : Alg → List ℕ → List ℕ) (said : Question → Verdict) (o : OpenedStore) (file : List ℕ) (own : Reading)
    (found : Bound) (failing : Failing)
    → active_in (readings_of o) ≡ Some own → None ≡ first_failing (active_tests (active_in (readings_of o)))
    → None ≡ first_failing (chain_tests (judged_tests hash said) (readings_of o)) → found ≡ Fails failing
    → ((m : Media) → IsMediaOf file o.container.now m → (b : Option (Result Binding FieldError)) → HasBinding m own b → IsBoundAs hash own file b found)
    → IsCheckedOver hash said o file (FailingOf failing)
binding_fails hash said o file own found failing is first passes same h m i b has =
    let fails : Some failing ≡ first_failing (media_tests hash own b) =
    subst (IsBoundAs hash own file b) same (h m i b (subst (λ (x : Option Reading). HasBindingOf m x b) is has)) in
    record {
      answer =
          ap
          (answer_of (summary_of (length file) o.range.start o.range.length (record { readings = readings_of o; binding = b })))
          (last_decides hash said (readings_of o) own b (Some failing) is first passes fails);
      text = tt;
    }

-- the binding holds
pub binding_holds :
    (hash : Alg → List ℕ → List ℕ) (said : Question → Verdict) (o : OpenedStore) (file : List ℕ) (own : Reading)
    (found : Bound) (t : BoundText) (s : Summary) (size : ℕ)
    → active_in (readings_of o) ≡ Some own → None ≡ first_failing (active_tests (active_in (readings_of o)))
    → None ≡ first_failing (chain_tests (judged_tests hash said) (readings_of o)) → found ≡ Holds t → HasSize size found
    → length file ≡ size → s ≡ summary_by (readings_of o) t.cover o.range.start o.range.length
    → ((m : Media) → IsMediaOf file o.container.now m → (b : Option (Result Binding FieldError)) → HasBinding m own b → IsBoundAs hash own file b found)
    → IsCheckedOver hash said o file (Valid s t)
binding_holds hash said o file own found t s size is first passes same sized long counted h m i b has =
    let rs = readings_of o in
    let holds =
    subst (IsBoundAs hash own file b) same (h m i b (subst (λ (x : Option Reading). HasBindingOf m x b) is has)) in
    let small : t.cover.size ≡ size = subst (HasSize size) same sized in
    let excluded : excluded_of t.cover ≡ list.excluded_of (binding_value b) =
    holds.3.excluded
    ∙ ap (λ (x : Option (Result Binding FieldError)). list.excluded_of (binding_value x)) (sym holds.2) in
    let counts : summary_by rs t.cover o.range.start o.range.length ≡ summary_of (length file) o.range.start o.range.length (record { readings = rs; binding = b }) =
    ap₂ (λ (xs : List ℕ) (n : ℕ). record {
      manifests = length (list.reached_places rs);
      assertions = (summary_by rs t.cover o.range.start o.range.length).assertions;
      covered = covered_count xs n;
      outside = outside_count xs o.range.start o.range.length;
    }) excluded (small ∙ sym long) in
    record {
      answer =
          ap (λ (x : Summary). answer.Valid x) (counted ∙ counts)
          ∙ ap
          (answer_of (summary_of (length file) o.range.start o.range.length (record { readings = rs; binding = b })))
          (last_decides hash said rs own b None is first passes holds.0);
      text = (own, is, holds.1, holds.2, holds.3);
    }

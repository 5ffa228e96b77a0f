-- A file with a store that meets the rules, apart from those on its verdict and its binding, meets all but verdicts where the binding is
-- met.
use Rattle.std.proofs.Common.{List, ◌++◌, Some, Ok, refl, sym, subst}
use Rattle.std.specs.declared.result.Result.{Result}
use Rattle.std.specs.List.{AllByRecursion}
use Rattle.c2_spec.specs.Jumbf.Tree.{tree_bytes}
use Rattle.c2_spec.specs.Located as located
use Rattle.c2_spec.specs.declared.assertion.FieldError.{FieldError}
use Rattle.c2_rules.specs.Binding.{Binding, HasBinding, IsItemOf, IsLabelledBinding, bound_tests, bound_to_tests, media_tests}
use Rattle.c2_rules.specs.Chains.{label_in}
use Rattle.c2_rules.specs.CheckList.{HasBindingOf, StoreReading, active_tests, chain_tests, last_tests, unjudged_list}
use Rattle.c2_rules.specs.Ingredients.{assertion_uri}
use Rattle.c2_rules.specs.Readings.{Reading}
use Rattle.c2_rules.specs.Rules.{unjudged_tests}
use Rattle.c2_rules.specs.Rules as rule
use Rattle.c2_new_file_spec.specs.Unbound.{BoundFileMeets}
use Rattle.c2_rules.proofs.Conditions.{Holds, all_each, all_hold}
use Rattle.c2_lemmas.proofs.Each.{each_append}

-- once the binding is met, all is
pub bound_meets : BoundFileMeets
bound_meets hash file start len t binding qs u is_located b =
    let rs : List Reading = u.readings in
    let bind : Result Binding FieldError = Ok b.comes in
    let reading : StoreReading = record { readings = rs; binding = Some bind } in
    let last : AllByRecursion Holds (media_tests hash u.active (Some bind)) =
    subst (λ o. AllByRecursion Holds (bound_to_tests hash u.active (Some bind) o)) (sym u.label) (all_each (bound_tests hash u.active (assertion_uri (label_in u.active) binding.label) (rule.label_kind binding.label) (Ok b.comes)) (b.holds u.active)) in
    let has_binding : HasBinding b.media u.active (Some bind) = record {
      item = Some b.item;
      is_item = subst (λ o. IsItemOf o (Some b.item)) (sym u.item) b.has;
      is = subst (λ o. IsLabelledBinding b.media o (Some b.item) (Some bind)) (sym u.label) b.is;
    } in
    record {
      opened =
          (located.here start len (tree_bytes t), is_located, (located.here start len t, (u.spelled, refl), (u.store, refl)));
      reading = reading;
      reads = record {
        media = b.media;
        is_media = b.is_media;
        reads =
            record
            { each = u.reads; binding = subst (λ o. HasBindingOf b.media o (Some bind)) (sym u.is_active) has_binding };
      };
      holds = all_hold (unjudged_list hash reading)
          (subst (λ o. AllByRecursion Holds (active_tests o ++ (chain_tests (unjudged_tests hash) rs ++ last_tests hash (Some bind) o))) (sym u.is_active)
          (each_append Holds (active_tests (Some u.active)) (chain_tests (unjudged_tests hash) rs ++ last_tests hash (Some bind) (Some u.active)) (all_each (active_tests (Some u.active)) u.no_update)
          (each_append Holds (chain_tests (unjudged_tests hash) rs) (last_tests hash (Some bind) (Some u.active)) (all_each (chain_tests (unjudged_tests hash) rs) u.holds) last)));
      asks = u.asks;
    }

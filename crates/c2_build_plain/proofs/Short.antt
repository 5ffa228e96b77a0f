-- How long the new store of a ground is: 64 bits hold its length, as what it carries of an older store has no more bytes than that store.
use Rattle.std.proofs.Common.{◌≡◌, ℕ, ◌+◌, ◌*◌, ◌≤◌, Bool, true, false, List, [], length, sym, ap, subst, arith, lit≤}
use Rattle.std.specs.Bool.{MatchBool}
use Rattle.std.specs.List.{AllByRecursion}
use Rattle.std.specs.Prelude.{Ok}
use Rattle.c2_lemmas.proofs.Stages.{unless_some_passed}
use Rattle.c2_base.specs.declared.limits.TheConstants.{MAX_STORE_LEN}
use Rattle.c2_base.specs.declared.values.Question.{Question}
use Rattle.c2_spec.specs.Bmff.Store.{HasBmffStore}
use Rattle.c2_spec.specs.Container.{IsLocated, is_bmff}
use Rattle.c2_spec.specs.Jpeg.Store as jpeg
use Rattle.c2_spec.specs.Jumbf.Boxes.{AnyBox, any_bytes}
use Rattle.c2_spec.specs.Jumbf.Tree.{Tree, Trees, tree_bytes, trees_bytes}
use Rattle.c2_spec.specs.Located.{here}
use Rattle.c2_spec.specs.declared.digest.Alg.{Alg}
use Rattle.c2_spec.specs.declared.panel.Verdict.{Verdict}
use Rattle.c2_rules.specs.CheckList.{check_list}
use Rattle.c2_rules.specs.Opened.{IsOpened}
use Rattle.c2_rules.specs.Tests.{first_failing}
use Rattle.c2_definition.specs.DefinitionFile.{IsDefinition}
use Rattle.c2_definition.specs.declared.types.Definition.{Definition}
use Rattle.c2_new_file_spec.specs.Fresh.{fresh_content}
use Rattle.c2_new_file_spec.specs.Store.{Content, NewIngredient}
use Rattle.c2_new_file_spec.specs.Written.{AreIngredients}
use Rattle.c2_new_file_spec.proofs.Ingredients.{no_ingredients, parent_alone}
use Rattle.c2_new_file_spec.specs.Parents.{IsContentOver}
use Rattle.c2_new_file_spec.specs.Redacting.{boxes_in, redacted_boxes}
use Rattle.c2_new_lengths_spec.specs.Lengths.{Fits, IsShortOver}
use Rattle.c2_new_lengths_spec.proofs.TheLaws.{the_length_of_a_new_store_fits}
use Rattle.c2_parent.proofs.CarriedLemmas.{carried_bound}
use Rattle.c2_parent.proofs.Walking.{root_box}
use Rattle.c2_build_refusals.specs.Refusals.{Ground, first_refusal, older_tests, redaction_tests}
use Rattle.c2_build_refusals.specs.Stages.{IsGroundOver, IsGroundStage, IsMediaStage, MediaKind, fresh, fresh_ground, stored}
use Rattle.c2_build_refusals.specs.declared.types.InsertPoint.{InsertPoint}
use Rattle.c2_build_refusals.proofs.Passing.{ground_of, opened_here}
use Rattle.c2_build_in_place.specs.Numbers.{HasLen, IsOfFile}
use Rattle.c2_build_plain.proofs.Kept.{located_here}
use Rattle.c2_collect_spec.proofs.Lengths.{label_less, member_less}

-- ---- what is carried of an older store

-- the store isn't too large
opened_small : (media : List ℕ) (start len : ℕ) (t : Tree) → IsOpened media (here start len t)
    → length (tree_bytes t) ≤ MAX_STORE_LEN
opened_small media start len t o =
    let at = located_here o.0 start len t o.2 in
    omega (arith, ap length at.1.1, small at.0 (is_bmff media) (subst (IsLocated media) at.1.0 o.1))
  where
    small : (store : List ℕ) (b : Bool)
        → MatchBool b (HasBmffStore media start len store) (jpeg.HasJpegStore media start len store)
        → length store ≤ MAX_STORE_LEN
    small store true h = h.holds.small
    small store false h = h.holds.small

-- the store's boxes less what is redacted of them aren't too large
carried_small : (media : List ℕ) (start len : ℕ) (t : Tree) → IsOpened media (here start len t)
    → (redacts : List (List ℕ)) → length (trees_bytes (redacted_boxes redacts (boxes_in t))) ≤ MAX_STORE_LEN
carried_small media start len t o redacts =
    omega
    (arith, ap (λ (b : AnyBox). length (any_bytes b)) (root_box t), carried_bound redacts t, opened_small media start len t o)

-- ---- the parent

-- ---- the new store

-- what is taken over of an older store is short
over_short : (media : List ℕ) (start len : ℕ) (t : Tree) (d : Definition) (c : Content)
    → IsOpened media (here start len t) → IsContentOver d t c → IsShortOver c
over_short media start len t d c opened over =
    let last = over.is_parent in
    let small : length (trees_bytes c.carried) ≤ MAX_STORE_LEN =
    omega
    (arith, ap (λ (ts : Trees). length (trees_bytes ts)) over.carried, carried_small media start len t opened d.redact) in
    let label : length over.parent.label ≤ 2 * MAX_STORE_LEN =
    omega
    (arith, label_less last.active over.parent.label last.label, member_less c.carried _ last.active last.is_active, small) in
    record {
      boxes = omega (arith, small);
      ingredients = subst AreIngredients (sym over.ingredients) (parent_alone over.parent);
      labels =
          subst (AllByRecursion (λ (g : NewIngredient). length g.of.label ≤ 2 * MAX_STORE_LEN)) (sym over.ingredients)
          (label, tt);
    }

-- 64 bits hold the length of the new store of a ground, where a file is the definition
ground_fits :
    (hash : Alg → List ℕ → List ℕ) (said : Question → Verdict) (media : List ℕ) (d : Definition) (kind : MediaKind)
    (g : Ground)
    → IsOfFile d → IsMediaStage media (Ok kind) → IsGroundStage hash said media d kind (Ok g) → Fits g.content
ground_fits hash said media d fresh g of_file m h =
    let is = unless_some_passed (first_refusal (redaction_tests d [])) (λ r. r ≡ Ok (fresh_ground media d)) g h in
    let same : fresh_ground media d ≡ g = cc (is.1) in
    subst (λ (x : Ground). Fits x.content) same
    (the_length_of_a_new_store_fits of_file.0 (fresh_content d) of_file.1
    (record { boxes = lit≤ tt; ingredients = no_ingredients; labels = tt }))
ground_fits hash said media d (stored start len t) g of_file m h =
    let is =
    unless_some_passed (first_refusal (older_tests d h.0.readings (first_failing (check_list hash said h.0))))
    (IsGroundOver media d start len t h.0.readings) g h.2 in
    let over : IsContentOver d t is.1.0 = is.1.1 in
    let same : ground_of is.1.2.0 is.1.0 (length h.0.readings + 1) ≡ g = cc (is.1.2.2) in
    let own : IsDefinition of_file.0 (Ok is.1.0.definition) =
    subst (λ (x : Definition). IsDefinition of_file.0 (Ok x)) (sym over.definition) of_file.1 in
    subst (λ (x : Ground). Fits x.content) same
    (the_length_of_a_new_store_fits of_file.0 is.1.0 own
    (over_short media start len t d is.1.0 (opened_here media start len t m) over))

-- in each place
pub ground_len :
    (hash : Alg → List ℕ → List ℕ) (said : Question → Verdict) (media : List ℕ) (d : Definition) (kind : MediaKind)
    (g : Ground) (s : InsertPoint)
    → IsOfFile d → IsMediaStage media (Ok kind) → IsGroundStage hash said media d kind (Ok g) → HasLen s g.content
ground_len hash said media d kind g s of_file m h = by s (ground_fits hash said media d kind g of_file m h)
  where
    by : (x : InsertPoint) → Fits g.content → HasLen x g.content
    by (InsertPoint.Segments start number) fits = fits.jpeg
    by (InsertPoint.Boxes rows) fits = fits.film

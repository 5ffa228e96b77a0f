-- A command that reads comes to one outcome.
use Rattle.c2_container.proofs.TheLaws.{each_media_file_is_located_once}
use Rattle.c2_read_manifests.proofs.TheLaws.{one_list_of_claims, one_reading_manifests}
use Rattle.c2_opening.proofs.TheLaws.{one_opening_file}
use Rattle.c2_validate.proofs.TheLaws.{one_check_answer, one_external_check_answer}
use Rattle.c2_compare_spec.proofs.TheLaws.{one_comparison_answer}
use Rattle.std.proofs.Common.{◌≡◌, sym, ◌∙◌, ap, ℕ, List}
use Rattle.c2_base.specs.declared.values.Question.{Question}
use Rattle.c2_spec.specs.declared.digest.Alg.{Alg}
use Rattle.c2_spec.specs.declared.panel.Verdict.{Verdict}
use Rattle.c2_spec.specs.C2pa.Manifest.{manifests_of}
use Rattle.c2_spec.specs.Container.{IsLocated}
use Rattle.c2_spec.specs.Jumbf.Tree.{Tree}
use Rattle.c2_spec.specs.Located.{Opening, refused, absent, here}
use Rattle.c2_rules.specs.Claims.{HaveClaims}
use Rattle.c2_rules.specs.Opened.{Opens, IsBoxTree, IsBoxed, IsOpened}
use Rattle.c2_rules.specs.Readings.{AreReadings}
use Rattle.c2_rules.specs.Validated.{IsAnswer}
use Rattle.c2_compare_spec.specs.declared.compared.Compared.{Compared}
use Rattle.c2_cmd_outcome.specs.Outcome.{answered, IsOneOutcome, Outcome, Reports}
use Rattle.c2_cmd_reading.specs.Outcomes.{IsCompareOutcome, IsDigested, IsListOutcome, IsListing, IsMediaOutcome, IsQuestioned, IsShown, compare_outcome, external_outcome, questioned, shown}
use Rattle.c2_validate.specs.External.{IsExternalAnswer}
use Rattle.c2_cmd_reading.specs.Laws.{OneReadingOutcome}
use Rattle.c2_lemmas.proofs.Numbers.{one_after}
use Rattle.c2_rules.proofs.OneAnswer.{one_opens}
use Rattle.c2_rules.proofs.OneBoxTree.{one_box_tree}

-- ---- openings

-- a file is opened in one way at most: as a box tree, as refused for a reason, or as without a store
one_boxed : (file : List ℕ) (x y : Opening Tree) → IsBoxed file x → IsBoxed file y → x ≡ y
one_boxed file x y h k =
    one_after (IsLocated file) (Opens IsBoxTree) (each_media_file_is_located_once file)
    (one_opens IsBoxTree one_box_tree) x y h k

-- ---- outcomes

-- what was opened has one outcome at most, if a store in its range has
one_report : {A : Type 0} (Is : ℕ → ℕ → A → Outcome → Type 0)
    → ((start len : ℕ) (a : A) (x y : Outcome) → Is start len a x → Is start len a y → x ≡ y)
    → (o : Opening A) (x y : Outcome) → Reports Is o x → Reports Is o y → x ≡ y
one_report Is once (refused reason number) x y h k = h ∙ sym k
one_report Is once absent x y h k = h ∙ sym k
one_report Is once (here start len a) x y h k = once start len a x y h k

-- `show` has one outcome at most over a box tree
one_shown : (t : Tree) (x y : Outcome) → IsShown t x → IsShown t y → x ≡ y
one_shown t x y h k =
    one_after (HaveClaims (manifests_of t)) (λ claims e. e ≡ shown t claims) (one_list_of_claims (manifests_of t))
    (λ claims a b p q. p ∙ sym q) x y h k

-- `questions` has one outcome at most over a box tree, by what the panel says
one_questioned : (said : Question → Verdict) (t : Tree) (x y : Outcome) → IsQuestioned said t x → IsQuestioned said t y
    → x ≡ y
one_questioned said t x y h k =
    one_after (AreReadings (manifests_of t)) (λ rs e. e ≡ questioned said rs) (one_reading_manifests (manifests_of t))
    (λ rs a b p q. p ∙ sym q) x y h k

-- a command that reads manifests has one outcome at most for a file, if it has for a box tree
one_media : (P : Tree → Outcome → Type 0) → ((t : Tree) (x y : Outcome) → P t x → P t y → x ≡ y) → (file : List ℕ)
    → IsOneOutcome (IsMediaOutcome P file)
one_media P once file x y h k =
    one_after (IsOpened file) (Reports (λ start len t e. P t e)) (one_opening_file file)
    (one_report (λ start len t e. P t e) (λ start len t. once t)) x y h k

-- two files are compared to one outcome at most
pub one_compared : (hash : Alg → List ℕ → List ℕ) (said : Question → Verdict) (first second : List ℕ)
    → IsOneOutcome (IsCompareOutcome hash said first second)
one_compared hash said first second x y h k =
    let one =
    one_comparison_answer hash said first second (one_opening_file first) (one_opening_file second) h.0 k.0 h.1 k.1
    h.2 k.2 in
    h.3 ∙ ap (λ (what : Compared). compare_outcome what h.1) one.0 ∙ ap (compare_outcome k.0) one.1 ∙ sym k.3

-- a list of boxes has one outcome at most, by the file
pub one_list : (file : List ℕ) → IsOneOutcome (IsListOutcome file)
one_list file x y h k =
    one_after (IsBoxed file) (Reports IsListing) (one_boxed file)
    (one_report IsListing (λ start len t a b p q. p ∙ sym q)) x y h k

-- each command that reads has one outcome at most
pub one_outcome : OneReadingOutcome
one_outcome = record {
  digest =
      λ hash file x y h k. one_after (IsLocated file) (Reports (IsDigested hash file)) (each_media_file_is_located_once file) (one_report (IsDigested hash file) (λ start len store a b p q. p ∙ sym q)) x y h k;
  list = one_list;
  show = λ file x y h k. one_media IsShown one_shown file x y h k;
  questions = λ said file x y h k. one_media (IsQuestioned said) (one_questioned said) file x y h k;
  validate =
      λ hash said file x y h k. one_after (IsAnswer hash said file) (λ found e. e ≡ answered found) (one_check_answer hash said file) (λ found a b p q. p ∙ sym q) x y h k;
  compare = one_compared;
  external =
      λ hash said file store x y h k. one_after (IsExternalAnswer hash said file store) (λ a e. e ≡ external_outcome a) (one_external_check_answer hash said file store) (λ a c d p q. p ∙ sym q) x y h k;
}

-- The laws of this crate, for the proofs of the crates above it.
use Rattle.c2_base.specs.declared.values.Question.{Question}
use Rattle.c2_container.proofs.TheLaws.{each_media_file_is_located_small}
use Rattle.c2_container.specs.declared.types.Container.{Container as AnyContainer}
use Rattle.c2_opening.specs.Opened.{IsFound, IsStoreRead, tree_of}
use Rattle.c2_opening.specs.declared.types.Media.{Media as AnyMedia}
use Rattle.c2_opening.specs.declared.types.StoreRead.{StoreRead as AnyStoreRead}
use Rattle.c2_rules.specs.CheckList.{check_asks, questions}
use Rattle.c2_rules.specs.Opened.{IsOpened}
use Rattle.c2_rules.specs.Validated.{AreQuestions, CheckAsks, IsAnswer, IsOpenedAnswer, OpenedAsks}
use Rattle.c2_rules.specs.declared.answer.Answer.{Answer as AnyAnswer}
use Rattle.c2_spec.specs.Jumbf.Tree.{Tree}
use Rattle.c2_spec.specs.Located.{Opening, absent, refused}
use Rattle.c2_spec.specs.declared.digest.Alg.{Alg}
use Rattle.c2_spec.specs.declared.panel.Verdict.{Verdict}
use Rattle.c2_spec.specs.declared.reason.Reason.{Reason as AnyReason}
use Rattle.c2_validate.proofs.EachCheck.{each_answer, each_external_answer, each_external_asks, each_list}
use Rattle.c2_validate.proofs.FileLemmas.{opened_absent, opened_answer, opened_asks, opened_read, opened_refused, store_answers, store_asks}
use Rattle.c2_validate.proofs.OneCheck.{one_answer, one_list}
use Rattle.c2_validate.proofs.OneExternal.{one_external_answer, one_external_asks, own_store}
use Rattle.c2_validate.specs.Checked.{IsCheckedOver, IsOpenedFrom, StoreAsks, answer_as}
use Rattle.c2_validate.specs.External.{ExternalAsks, IsExternalAnswer, OwnStoreAnswers}
use Rattle.c2_validate.specs.Validation.{IsAnswered}
use Rattle.c2_validate.specs.declared.checking.Checked.{Checked as AnyChecked}
use Rattle.c2_validate.specs.declared.checking.OpenedStore.{OpenedStore as AnyOpenedStore}
use Rattle.c2_validate.specs.declared.external.External.{External as AnyExternal}
use Rattle.std.specs.Prelude.{All, List, ℕ, ◌<◌, ◌^◌, ◌≡◌}
use Rattle.c2_opening.specs.declared.types.Opened.TheVariants as opened

-- a file has one answer at most, one list of questions that its check asks, and one of all its questions
pub one_check_answer : (hash : Alg → List ℕ → List ℕ) (said : Question → Verdict) (file : List ℕ) (a b : AnyAnswer)
    → IsAnswer hash said file a → IsAnswer hash said file b → a ≡ b
one_check_answer = one_answer

-- a file has one answer at most, one list of questions that its check asks, and one of all its questions
pub one_check_asks : (hash : Alg → List ℕ → List ℕ) (said : Question → Verdict) (file : List ℕ) (ps qs : List Question)
    → CheckAsks hash said file ps → CheckAsks hash said file qs → ps ≡ qs
one_check_asks = λ hash said. one_list (check_asks hash said)

-- a file has one answer at most, one list of questions that its check asks, and one of all its questions
pub one_check_questions : (file : List ℕ) (ps qs : List Question) → AreQuestions file ps → AreQuestions file qs
    → ps ≡ qs
one_check_questions = one_list questions

-- each file has an answer, a list of questions that its check asks, and one of all its questions
pub each_file_has_a_check_answer : (hash : Alg → List ℕ → List ℕ) (said : Question → Verdict) (file : List ℕ)
    → All (λ b. b < 2 ^ 8) file → (a : AnyAnswer) × IsAnswer hash said file a
each_file_has_a_check_answer = each_answer

-- each file has an answer, a list of questions that its check asks, and one of all its questions
pub each_file_has_a_check_asks : (hash : Alg → List ℕ → List ℕ) (said : Question → Verdict) (file : List ℕ)
    → All (λ b. b < 2 ^ 8) file → (qs : List Question) × CheckAsks hash said file qs
each_file_has_a_check_asks = λ hash said. each_list (check_asks hash said)

-- each file has an answer, a list of questions that its check asks, and one of all its questions
pub each_file_has_a_check_questions : (file : List ℕ) → All (λ b. b < 2 ^ 8) file
    → (qs : List Question) × AreQuestions file qs
each_file_has_a_check_questions = each_list questions

-- what a file was found to be, and what its store was read as, it is opened as
pub a_file_is_opened_as_it_was_read_refused : (file : List ℕ) (reason : AnyReason) (number : ℕ)
    → IsFound file (opened.Refused reason number) → IsOpened file (refused reason number)
a_file_is_opened_as_it_was_read_refused = opened_refused

-- what a file was found to be, and what its store was read as, it is opened as
pub a_file_is_opened_as_it_was_read_absent : (file : List ℕ) (c : AnyContainer) → IsFound file (opened.NoStore c)
    → IsOpened file absent
a_file_is_opened_as_it_was_read_absent = opened_absent

-- what a file was found to be, and what its store was read as, it is opened as
pub a_file_is_opened_as_it_was_read_read : (file : List ℕ) (m : AnyMedia) (r : AnyStoreRead)
    → IsFound file (opened.Here m) → IsStoreRead m.found r → IsOpened file (tree_of m.found r)
a_file_is_opened_as_it_was_read_read = opened_read

-- the check of a file answers what is answered over what the file is opened as, and asks what is asked over that
pub a_file_answers_by_what_it_is_opened_as_answer :
    (hash : Alg → List ℕ → List ℕ) (said : Question → Verdict) (file : List ℕ) (what : Opening Tree) (a : AnyAnswer)
    → IsOpened file what → IsOpenedAnswer hash said file what a → IsAnswered hash said file a
a_file_answers_by_what_it_is_opened_as_answer = opened_answer

-- the check of a file answers what is answered over what the file is opened as, and asks what is asked over that
pub a_file_answers_by_what_it_is_opened_as_asks :
    (hash : Alg → List ℕ → List ℕ) (said : Question → Verdict) (file : List ℕ) (what : Opening Tree)
    (qs : List Question)
    → IsOpened file what → CheckAsks hash said file qs → OpenedAsks (check_asks hash said) what qs
a_file_answers_by_what_it_is_opened_as_asks = opened_asks

-- the check of a file answers what is answered over the store that was opened from it, and asks what is asked over that
pub a_store_answers_for_its_file_answer :
    (hash : Alg → List ℕ → List ℕ) (said : Question → Verdict) (file : List ℕ) (o : AnyOpenedStore)
    (checked : AnyChecked)
    → All (λ b. b < 2 ^ 8) file → IsOpenedFrom file o → IsCheckedOver hash said o file checked
    → IsAnswered hash said file (answer_as checked)
a_store_answers_for_its_file_answer = store_answers

-- the check of a file answers what is answered over the store that was opened from it, and asks what is asked over that
pub a_store_answers_for_its_file_asks :
    (hash : Alg → List ℕ → List ℕ) (said : Question → Verdict) (file : List ℕ) (o : AnyOpenedStore) (qs : List Question)
    → IsOpenedFrom file o → CheckAsks hash said file qs → StoreAsks hash o said qs
a_store_answers_for_its_file_asks = store_asks

-- a file with an external store has one answer at most, and one list of questions that its check asks
pub one_external_check_answer :
    (hash : Alg → List ℕ → List ℕ) (said : Question → Verdict) (file store : List ℕ) (a b : AnyExternal)
    → IsExternalAnswer hash said file store a → IsExternalAnswer hash said file store b → a ≡ b
one_external_check_answer = one_external_answer

-- a file with an external store has one answer at most, and one list of questions that its check asks
pub one_external_check_asks :
    (hash : Alg → List ℕ → List ℕ) (store file : List ℕ) (said : Question → Verdict) (ps qs : List Question)
    → ExternalAsks hash store file said ps → ExternalAsks hash store file said qs → ps ≡ qs
one_external_check_asks = one_external_asks

-- each file has an answer with each external store, and a list of questions that its check asks
pub each_file_has_an_external_check_answer :
    (hash : Alg → List ℕ → List ℕ) (said : Question → Verdict) (file store : List ℕ) → All (λ b. b < 2 ^ 8) file
    → All (λ b. b < 2 ^ 8) store → (a : AnyExternal) × IsExternalAnswer hash said file store a
each_file_has_an_external_check_answer = each_external_answer

-- each file has an answer with each external store, and a list of questions that its check asks
pub each_file_has_an_external_check_asks :
    (hash : Alg → List ℕ → List ℕ) (store file : List ℕ) (said : Question → Verdict) → All (λ b. b < 2 ^ 8) file
    → All (λ b. b < 2 ^ 8) store → (qs : List Question) × ExternalAsks hash store file said qs
each_file_has_an_external_check_asks = each_external_asks

-- a file with a store in it, checked with that store as an external one, has its own answer, but for the count of excluded positions outside the embedded range
pub a_file_and_its_own_store_have_the_answer_of_the_file : OwnStoreAnswers
a_file_and_its_own_store_have_the_answer_of_the_file = λ hash said file store start len t a e located opened over external.
    own_store hash said file store start len t a e
    (each_media_file_is_located_small file start len store located) located opened over external

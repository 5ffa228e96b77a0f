-- The whole check list of a store and its media file, in order: the active manifest is no update; then the rules of each reached
-- manifest, from the last to the first; then the binding to the file. And what is answered by it.
use Rattle.std.specs.Prelude.{ℕ, zero, suc, ◌-◌, Bool, not, List, [], ◌∷◌, ◌++◌, Option, Some, None, ◌≡◌, length, filter, slice_get, is_none, option_map, option_to_list, if◌then◌else◌}
use Rattle.std.specs.declared.result.Result.{Result}
use Rattle.std.specs.List.{AllByRecursion, range_with_len}
use Rattle.c2_base.specs.declared.values.Question.{Question}
use Rattle.c2_spec.specs.declared.assertion.FieldError.{FieldError}
use Rattle.c2_spec.specs.C2pa.Manifest.{Manifest}
use Rattle.c2_spec.specs.declared.digest.Alg.{Alg}
use Rattle.c2_spec.specs.declared.panel.Verdict.{Verdict}
use Rattle.c2_spec.specs.declared.panel.Verdict.TheVariants.{Approved}
use Rattle.c2_rules.specs.Binding.{Binding, Media, HasBinding, media_tests, binding_value}
use Rattle.c2_rules.specs.Chains.{label_in, is_reached, is_redacted}
use Rattle.c2_spec.specs.Cover.{covered_count, outside_count}
use Rattle.c2_rules.specs.Readings.{Reading, AreReadings, question_in}
use Rattle.c2_rules.specs.Rules.{manifest_uri, labels_in, manifest_tests, unjudged_tests}
use Rattle.c2_rules.specs.Seen.{Seen, seen_at}
use Rattle.c2_rules.specs.Tests.{Test, test, downward, AllHold, first_failing}
use Rattle.c2_rules.specs.declared.answer.Answer.{Answer}
use Rattle.c2_rules.specs.declared.answer.Answer.TheVariants as answer
use Rattle.c2_rules.specs.declared.answer.Failing.{Failing}
use Rattle.c2_rules.specs.declared.answer.Summary.{Summary}
use Rattle.c2_rules.specs.declared.code.Code.TheVariants as code

-- ---- what is read of a store

-- what the active manifest is read as
abbrev pub active_in : List Reading → Option Reading
active_in rs = slice_get rs (length rs - 1)

-- what its manifests are read as, and what the active manifest's binding comes to in the media file: nothing where there is no
-- item, a refused field, or a binding
pub record StoreReading : Type 0 where
  pub readings : List Reading
  pub binding : Option (Result Binding FieldError)

-- what the binding of the active manifest comes to
abbrev pub HasBindingOf : Media → Option Reading → Option (Result Binding FieldError) → Type 0
HasBindingOf media None b = b ≡ None
HasBindingOf media (Some r) b = HasBinding media r b

-- the manifests of a media file's store come to this
pub record IsStoreReading (media : Media) (ms : List Manifest) (s : StoreReading) : Type 0 where
  pub each : AreReadings ms s.readings
  pub binding : HasBindingOf media (active_in s.readings) s.binding

-- ---- the list

-- the active manifest is no update
abbrev pub active_tests : Option Reading → List Test
active_tests None = []
active_tests (Some r) = test r.manifest.is_update code.UnsupportedUpdateActive (manifest_uri r) ∷ []

-- the rules of the manifest at place `i`, where it is reached
abbrev pub tests_of : (Seen → List Test) → List Reading → ℕ → Option Reading → List Test
tests_of rules rs i None = []
tests_of rules rs i (Some r) = rules (seen_at rs i r)

-- the rules of the manifest at place `i` where it is reached; else none
abbrev pub place_tests : (Seen → List Test) → List Reading → ℕ → List Test
place_tests rules rs i = if is_reached rs i then tests_of rules rs i (slice_get rs i) else []

-- the rules of all manifests that are reached, the last first
abbrev pub chain_tests : (Seen → List Test) → List Reading → List Test
chain_tests rules rs = downward (place_tests rules rs) (length rs)

-- the rule on the binding of the active manifest
abbrev pub last_tests : (Alg → List ℕ → List ℕ) → Option (Result Binding FieldError)
    → Option Reading → List Test
last_tests hash binding None = []
last_tests hash binding (Some r) = media_tests hash r binding

-- the whole list, where `rules` are those of one manifest
abbrev pub store_tests : (Seen → List Test) → (Alg → List ℕ → List ℕ) → StoreReading → List Test
store_tests rules hash s =
    active_tests (active_in s.readings)
    ++ (chain_tests rules s.readings ++ last_tests hash s.binding (active_in s.readings))

-- the rules of a manifest, where judges say this
abbrev pub judged_tests : (Alg → List ℕ → List ℕ) → (Question → Verdict) → Seen → List Test
judged_tests hash said s = manifest_tests hash (option_map said (question_in s.own)) s

-- the check list; and the same apart from verdicts
abbrev pub check_list : (Alg → List ℕ → List ℕ) → (Question → Verdict) → StoreReading → List Test
check_list hash said s = store_tests (judged_tests hash said) hash s

-- the check list apart from verdicts
abbrev pub unjudged_list : (Alg → List ℕ → List ℕ) → StoreReading → List Test
unjudged_list hash s = store_tests (unjudged_tests hash) hash s

-- the store is valid
abbrev pub IsValid : (Alg → List ℕ → List ℕ) → (Question → Verdict) → StoreReading → Type 0
IsValid hash said s = AllHold (check_list hash said s)

-- ---- questions

-- the question of a manifest, where it has one
abbrev pub questions_of : Option Reading → List Question
questions_of None = []
questions_of (Some r) = option_to_list (question_in r)

-- the question of the manifest at place `i`, where it is reached and has one
abbrev pub question_at : List Reading → ℕ → List Question
question_at rs i = if is_reached rs i then questions_of (slice_get rs i) else []

-- the questions of all manifests that are reached, the last first
abbrev pub questions : List Reading → List Question
questions rs = downward (question_at rs) (length rs)

-- judges who say this approve each of these questions
abbrev pub AreApproved : (Question → Verdict) → List Question → Type 0
AreApproved said qs = AllByRecursion (λ (q : Question). said q ≡ Approved) qs

-- a manifest's label, and its question where it has one
pub record Asked : Type 0 where
  pub label : List ℕ
  pub question : Option Question

-- the label and the question of a manifest; nothing where there is no manifest
abbrev pub asked_of : Option Reading → List Asked
asked_of None = []
asked_of (Some r) = record { label = label_in r; question = question_in r } ∷ []

-- the label and the question of the manifest at place `i`, where it is reached
abbrev pub asked_at : List Reading → ℕ → List Asked
asked_at rs i = if is_reached rs i then asked_of (slice_get rs i) else []

-- the labels and questions of all manifests that are reached, the last first: a line each in the report on questions
abbrev pub all_asked : List Reading → List Asked
all_asked rs = downward (asked_at rs) (length rs)

-- the questions of the manifests below place `n` that the check asks: each while no rule of a later manifest fails
abbrev pub asked_below : (Seen → List Test) → List Reading → ℕ → List Question
asked_below rules rs zero = []
asked_below rules rs (suc n) =
    question_at rs n
    ++ (if is_none (first_failing (place_tests rules rs n)) then asked_below rules rs n else [])

-- the questions that the check asks of a store: none where the active manifest is an update
abbrev pub check_asks : (Alg → List ℕ → List ℕ) → (Question → Verdict) → List Reading
    → List Question
check_asks hash said rs =
    if is_none (first_failing (active_tests (active_in rs)))
    then asked_below (judged_tests hash said) rs (length rs)
    else []

-- ---- what is answered

-- the places of the reached manifests
abbrev pub reached_places : List Reading → List ℕ
reached_places rs = filter (is_reached rs) (range_with_len 0 (length rs))

-- the labels that the entries list and that aren't redacted
abbrev pub unredacted_of : (List ℕ → Bool) → Option Reading → List (List ℕ)
unredacted_of redacted None = []
unredacted_of redacted (Some r) = filter (λ (label : List ℕ). not (redacted label)) (labels_in r)

-- the labels that the entries of the manifest at place `i` list and that aren't redacted, where it is reached
abbrev pub kept_labels : List Reading → ℕ → List (List ℕ)
kept_labels rs i = if is_reached rs i then unredacted_of (is_redacted rs i) (slice_get rs i) else []

-- which positions of the file are excluded; a store whose rules hold has a binding
abbrev pub excluded_of : Option Binding → List ℕ
excluded_of None = []
excluded_of (Some b) = b.excluded

-- what is counted of a valid store of a file of this size, whose embedded range has this start and this length
abbrev pub summary_of : ℕ → ℕ → ℕ → StoreReading → Summary
summary_of size start len s = record {
  manifests = length (reached_places s.readings);
  assertions = length (downward (kept_labels s.readings) (length s.readings));
  covered = covered_count (excluded_of (binding_value s.binding)) size;
  outside = outside_count (excluded_of (binding_value s.binding)) start len;
}

-- the answer by the first condition that fails
abbrev pub answer_of : Summary → Option Failing → Answer
answer_of summary None = answer.Valid summary
answer_of summary (Some failing) = answer.Failing failing

-- what the check of a store answers
abbrev pub store_answer : (Alg → List ℕ → List ℕ) → (Question → Verdict) → ℕ → ℕ → ℕ → StoreReading
    → Answer
store_answer hash said size start len s =
    answer_of (summary_of size start len s) (first_failing (check_list hash said s))

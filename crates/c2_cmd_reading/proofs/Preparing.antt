-- What `questions` asks, and its outcome, over the manifests of a store and over the file.
use Rattle.std.proofs.Common.{◌≡◌, refl, sym, ◌∙◌, ap, subst, ℕ, List, [], Global}
use Rattle.std.specs.Prelude.{Vec}
use Rattle.c2_base.specs.declared.media.Found.{Found}
use Rattle.c2_base.specs.declared.values.Question.{Question}
use Rattle.c2_spec.specs.declared.panel.Verdict.{Verdict}
use Rattle.c2_spec.specs.C2pa.Manifest.{manifests_of}
use Rattle.c2_spec.specs.Container.{IsLocated}
use Rattle.c2_spec.specs.Jumbf.Tree.{Tree}
use Rattle.c2_spec.specs.Located.{Located, refused, absent, here}
use Rattle.c2_rules.specs.CheckList.{Asked, all_asked}
use Rattle.c2_rules.specs.Opened.{IsManifestStore}
use Rattle.c2_rules.specs.Readings.{Reading, AreReadings}
use Rattle.c2_rules.specs.Validated.{AreQuestions}
use Rattle.c2_cmd_outcome.specs.Outcome.{Outcome}
use Rattle.c2_cmd_reading.specs.Outcomes.{IsMediaOutcome, IsQuestioned}
use Rattle.c2_cmd_outcome.specs.Reply.{outcome_of}
use Rattle.c2_cmd_reading.specs.Reading.{asked_outcome, AsksOfFound, AsksOfTree, IsFoundOutcome, IsShort, Prepares, PreparesFound, PreparesMedia, PreparesTree, questions_in}
use Rattle.c2_cmd_reading.specs.declared.prepare.Prepared.{Prepared}
use Rattle.c2_cmd_reading.specs.declared.prepare.Prepared.TheVariants as prepared
use Rattle.c2_cmd_outcome.specs.declared.reply.Reply.{Reply}
use Rattle.c2_cmd_reading.proofs.Asked.{all_questions}
use Rattle.c2_cmd_reading.proofs.Replying.{media_outcome, media_short}

-- ---- over the box tree of a store

-- the manifests that are asked of
pub prepares_asked : (t : Tree) (rs : List Reading) (asked : List Asked) → AreReadings (manifests_of t) rs
    → asked ≡ all_asked rs
    → AsksOfTree t (questions_in asked) × ((said : Question → Verdict) → IsQuestioned said t (asked_outcome asked said))
prepares_asked t rs asked reads is =
    ((rs, reads, ap questions_in is ∙ all_questions rs), λ said. (rs, reads, ap (λ (l : List Asked). asked_outcome l said) is))

-- ---- over a store that was found, and over a file

-- what is prepared here is prepared there
lift : (A B : List Question → Type 0) (P Q : (Question → Verdict) → Outcome → Type 0) (p : Prepared)
    → ((qs : List Question) → A qs → B qs) → ((said : Question → Verdict) (e : Outcome) → P said e → Q said e)
    → Prepares A P p → Prepares B Q p
lift A B P Q (prepared.Reply reply) asks is h = (asks [] h.0, λ said. is said (outcome_of reply) (h.1 said))
lift A B P Q (prepared.Ask asked) asks is h =
    (asks (questions_in asked.items) h.0, λ said. is said (asked_outcome asked.items said) (h.1 said))

-- a store that was read as this box tree
pub prepares_found : (f : Found) (t : Tree) (p : Prepared)
    → IsManifestStore f.start f.length f.store (here f.start f.length t) → PreparesTree t p → PreparesFound f p
prepares_found f t p is h =
    lift (AsksOfTree t) (AsksOfFound f) (λ said. IsQuestioned said t) (λ said. IsFoundOutcome (IsQuestioned said) f) p
    (λ qs a. (here f.start f.length t, is, a)) (λ said e o. (here f.start f.length t, is, o)) h

-- a file whose store was found
pub prepares_media : (file : List ℕ) (f : Found) (p : Prepared) → IsLocated file (here f.start f.length f.store)
    → PreparesFound f p → PreparesMedia file p
prepares_media file f p is h =
    lift (AsksOfFound f) (AreQuestions file) (λ said. IsFoundOutcome (IsQuestioned said) f)
    (λ said. IsMediaOutcome (IsQuestioned said) file) p
    (λ qs a. (a.0, (here f.start f.length f.store, is, a.1), a.2))
    (λ said e o. media_outcome (IsQuestioned said) file f e is o) h

-- a file without a store, or one that is refused
pub prepares_short : (file : List ℕ) (l : Located) (reply : Reply) → IsLocated file l → IsShort l (outcome_of reply)
    → PreparesMedia file (prepared.Reply reply)
prepares_short file (refused reason number) reply is h =
    ((refused reason number, (refused reason number, is, refl), refl), λ said. media_short (IsQuestioned said) file (refused reason number) (outcome_of reply) is h)
prepares_short file absent reply is h =
    ((absent, (absent, is, refl), refl), λ said. media_short (IsQuestioned said) file absent (outcome_of reply) is h)
prepares_short file (here start len store) reply is h = absurd h

-- what is known of a file that was prepared as this
pub prepared_reply : (file : List ℕ) (p : Prepared) (reply : Reply) → p ≡ prepared.Reply reply → PreparesMedia file p
    → AreQuestions file [] × ((said : Question → Verdict) → IsMediaOutcome (IsQuestioned said) file (outcome_of reply))
prepared_reply file p reply is h = subst (λ (x : Prepared). PreparesMedia file x) is h

-- where manifests are to be asked of, their questions are the file's, and their lines are its outcome
pub prepared_ask : (file : List ℕ) (p : Prepared) (asked : Vec Asked Global) → p ≡ prepared.Ask asked
    → PreparesMedia file p
    → AreQuestions file (questions_in asked.items) × ((said : Question → Verdict) → IsMediaOutcome (IsQuestioned said) file (asked_outcome asked.items said))
prepared_ask file p asked is h = subst (λ (x : Prepared). PreparesMedia file x) is h

-- the outcome where they were asked of
pub asked_media : (file : List ℕ) (said : Question → Verdict) (given asked : List Asked) (reply : Reply) → given ≡ asked
    → outcome_of reply ≡ asked_outcome given said
    → AreQuestions file (questions_in asked) × ((other : Question → Verdict) → IsMediaOutcome (IsQuestioned other) file (asked_outcome asked other))
    → IsMediaOutcome (IsQuestioned said) file (outcome_of reply)
asked_media file said given asked reply same out h =
    subst (λ (e : Outcome). IsMediaOutcome (IsQuestioned said) file e)
    (sym (out ∙ ap (λ (l : List Asked). asked_outcome l said) same)) (h.1 said)

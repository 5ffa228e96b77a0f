-- A command that reads comes to an outcome where its files are bytes.
use Rattle.c2_read_manifests.proofs.TheLaws.{a_reading_is_the_claim_and_the_question_claim}
use Rattle.c2_validate.proofs.TheLaws.{each_file_has_a_check_answer, each_file_has_a_check_asks, each_file_has_an_external_check_answer}
use Rattle.c2_compare_spec.proofs.TheLaws.{each_comparison_answer, each_comparison_asks}
use Rattle.std.proofs.Common.{refl, ℕ, List, [], ◌∷◌, Option}
use Rattle.std.specs.Prelude.{⊤}
use Rattle.c2_base.specs.declared.values.Question.{Question}
use Rattle.c2_spec.specs.declared.claim.Claim.{Claim}
use Rattle.c2_spec.specs.declared.digest.Alg.{Alg}
use Rattle.c2_spec.specs.declared.panel.Verdict.{Verdict}
use Rattle.c2_spec.specs.declared.panel.Verdict.TheVariants.{Silent}
use Rattle.c2_spec.specs.C2pa.Manifest.{Manifest, manifests_of}
use Rattle.c2_spec.specs.Container.{IsLocated}
use Rattle.c2_spec.specs.Jumbf.Tree.{Tree}
use Rattle.c2_spec.specs.Located.{Opening, Located, refused, absent, here}
use Rattle.c2_rules.specs.Claims.{HaveClaims}
use Rattle.c2_rules.specs.Opened.{Opens, IsManifestStore, IsBoxed, IsOpened}
use Rattle.c2_rules.specs.Readings.{Reading, AreReadings, claim_in}
use Rattle.c2_rules.specs.Validated.{IsOpenedAnswer}
use Rattle.c2_rules.specs.declared.answer.Answer.{Answer}
use Rattle.c2_compare_spec.specs.Comparison.{CompareAsks}
use Rattle.c2_texts.specs.Texts.{refused_line, none_line, listing, digest_line}
use Rattle.c2_spec.specs.PutIn.{taken_out}
use Rattle.c2_cmd_outcome.specs.Outcome.{answered, Outcome, Reports, reports}
use Rattle.c2_cmd_reading.specs.Outcomes.{IsCompareOutcome, IsDigestOutcome, IsDigested, IsListOutcome, IsListing, IsMediaOutcome, IsQuestioned, IsShown, compare_outcome, external_outcome, questioned, shown}
use Rattle.c2_cmd_reading.specs.Laws.{AreBytes, EachReadingOutcome}
use Rattle.c2_cmd_outcome.specs.declared.types.Answer.TheVariants as answer

-- ---- a file is opened, and its manifests are read

-- the manifests of what is here are read as something
abbrev HasReadings : Opening Tree → Type 0
HasReadings (refused reason number) = ⊤
HasReadings absent = ⊤
HasReadings (here start len t) = (rs : List Reading) × AreReadings (manifests_of t) rs

-- where the check of an opened file has an answer, the manifests of its store are read as something
readings_of :
    (hash : Alg → List ℕ → List ℕ) (said : Question → Verdict) (file : List ℕ) (what : Opening Tree) (a : Answer)
    → IsOpenedAnswer hash said file what a → HasReadings what
readings_of hash said file (refused reason number) a h = tt
readings_of hash said file absent a h = tt
readings_of hash said file (here start len t) a h = (h.0.readings, h.1.reads.each)

-- a file of bytes is opened as something, and where it has a store the manifests there are read
each_opened : (file : List ℕ) → AreBytes file → (what : Opening Tree) × IsOpened file what × HasReadings what
each_opened file held =
    let hash : Alg → List ℕ → List ℕ = λ alg bytes. bytes in
    let said : Question → Verdict = λ q. Silent in
    let a = each_file_has_a_check_answer hash said file held in
    (a.1.0, a.1.1, readings_of hash said file a.1.0 a.0 a.1.2)

-- as a box tree
each_boxed : (file : List ℕ) → AreBytes file → (tree : Opening Tree) × IsBoxed file tree
each_boxed file held = let o = each_opened file held in go o.0 o.1.0 o.1.1 o.1.2
  where
    go : (what : Opening Tree) (l : Located) → IsLocated file l → Opens IsManifestStore l what
        → (tree : Opening Tree) × IsBoxed file tree
    go what (refused reason number) located opens = (refused reason number, (refused reason number, located, refl))
    go what absent located opens = (absent, (absent, located, refl))
    go what (here start len store) located opens = (opens.0, (here start len store, located, opens.1))

-- ---- outcomes

-- there is an outcome for whatever a file is opened as, if there is one for each store that is found
each_report : {A : Type 0} (Is : ℕ → ℕ → A → Outcome → Type 0) (o : Opening A)
    → ((start len : ℕ) (a : A) → (e : Outcome) × Is start len a e) → (e : Outcome) × Reports Is o e
each_report Is (refused reason number) some = (reports answer.Refused (refused_line reason number), refl)
each_report Is absent some = (reports answer.NoStore none_line, refl)
each_report Is (here start len a) some = some start len a

-- a command that reads manifests has an outcome for every file of bytes, if it has one for every store
each_media : (P : Tree → Outcome → Type 0)
    → ((t : Tree) (rs : List Reading) → AreReadings (manifests_of t) rs → (e : Outcome) × P t e) → (file : List ℕ)
    → AreBytes file → (e : Outcome) × IsMediaOutcome P file e
each_media P over file held = let o = each_opened file held in go o.0 o.1 o.2
  where
    go : (what : Opening Tree) → IsOpened file what → HasReadings what → (e : Outcome) × IsMediaOutcome P file e
    go (refused reason number) is read =
        (reports answer.Refused (refused_line reason number), (refused reason number, is, refl))
    go absent is read = (reports answer.NoStore none_line, (absent, is, refl))
    go (here start len t) is read = let e = over t read.0 read.1 in (e.0, (here start len t, is, e.1))

-- manifests that are read have a list of claims, with an entry for each manifest
each_claims : (ms : List Manifest) (rs : List Reading) → AreReadings ms rs
    → (cs : List (Option Claim)) × HaveClaims ms cs
each_claims [] [] reads = ([], tt)
each_claims [] (r ∷ rs) reads = absurd reads
each_claims (m ∷ ms) [] reads = absurd reads
each_claims (m ∷ ms) (r ∷ rs) reads =
    let cs = each_claims ms rs reads.1 in
    (claim_in r ∷ cs.0, (a_reading_is_the_claim_and_the_question_claim m r reads.0, cs.1))

-- `show` has an outcome over every box tree whose manifests are read
each_shown : (t : Tree) (rs : List Reading) → AreReadings (manifests_of t) rs → (e : Outcome) × IsShown t e
each_shown t rs reads = let cs = each_claims (manifests_of t) rs reads in (shown t cs.0, (cs.0, cs.1, refl))

-- `questions` has an outcome over every box tree whose manifests are read, whatever the panel says
each_questioned : (said : Question → Verdict) (t : Tree) (rs : List Reading) → AreReadings (manifests_of t) rs
    → (e : Outcome) × IsQuestioned said t e
each_questioned said t rs reads = (questioned said rs, (rs, reads, refl))

-- `digest` has an outcome for every file of bytes
each_digest : (hash : List ℕ → List ℕ) (file : List ℕ) → AreBytes file
    → (e : Outcome) × IsDigestOutcome hash file e
each_digest hash file held =
    let o = each_opened file held in
    let e =
    each_report (IsDigested hash file) o.1.0
    (λ start len store. (reports answer.Done (digest_line start len (hash (taken_out start len file))), refl)) in
    (e.0, (o.1.0, o.1.1, e.1))

-- `list` has an outcome for every file of bytes
each_list : (file : List ℕ) → AreBytes file → (e : Outcome) × IsListOutcome file e
each_list file held =
    let b = each_boxed file held in
    let e = each_report IsListing b.0 (λ start len t. (reports answer.Done (listing t), refl)) in
    (e.0, (b.0, b.1, e.1))

-- `compare` has an outcome over each two files of bytes
each_compared : (hash : Alg → List ℕ → List ℕ) (said : Question → Verdict) (first second : List ℕ)
    → AreBytes first → AreBytes second → (e : Outcome) × IsCompareOutcome hash said first second e
each_compared hash said first second held other =
    let a = each_file_has_a_check_answer hash said first held in
    let b = each_file_has_a_check_answer hash said second other in
    let e = each_comparison_answer hash said first second a.0 b.0 a.1 b.1 in
    (compare_outcome e.0 e.1, (e.0, e.1, e.2, refl))

-- each command that reads has an outcome where its files are bytes
pub each_outcome : EachReadingOutcome
each_outcome = record {
  digest = each_digest;
  list = each_list;
  show = λ file held. each_media IsShown each_shown file held;
  questions = λ said file held. each_media (IsQuestioned said) (each_questioned said) file held;
  validate = λ hash said file held.
      let a = each_file_has_a_check_answer hash said file held in (answered a.0, (a.0, a.1, refl));
  compare = each_compared;
  external = λ hash said file store held other.
      let a = each_file_has_an_external_check_answer hash said file store held other in
      (external_outcome a.0, (a.0, a.1, refl));
}

-- ---- questions

-- `compare` asks a list of questions for every two files of bytes
pub each_compare_asks :
    (hash : Alg → List ℕ → List ℕ) (said : Question → Verdict) (first second : List ℕ) → AreBytes first
    → AreBytes second → (qs : List Question) × CompareAsks hash said first second qs
each_compare_asks hash said first second held other =
    let a = each_file_has_a_check_answer hash said first held in
    let ps = each_file_has_a_check_asks hash said first held in
    let qs = each_file_has_a_check_asks hash said second other in
    each_comparison_asks hash said first second a.0 ps.0 qs.0 a.1 ps.1 qs.1

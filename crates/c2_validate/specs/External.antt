-- What the check of a media file comes to with an external manifest store, one that isn't embedded in it (C2PA Technical Specification
-- 2.x, "External manifests"). That a store which is embedded passes unread is this project's own choice.
use Rattle.std.specs.Prelude.{◌≡◌, ℕ, List, [], length, nat_lt}
use Rattle.std.specs.Bool.{MatchBool}
use Rattle.c2_base.specs.declared.limits.TheConstants.{MAX_STORE_LEN}
use Rattle.c2_base.specs.declared.values.Question.{Question}
use Rattle.c2_spec.specs.Container.{IsLocated}
use Rattle.c2_spec.specs.Jumbf.Tree.{Tree}
use Rattle.c2_spec.specs.Located.{Opening, Located, refused, absent, here}
use Rattle.c2_spec.specs.declared.digest.Alg.{Alg}
use Rattle.c2_spec.specs.declared.panel.Verdict.{Verdict}
use Rattle.c2_spec.specs.declared.reason.Reason.TheVariants.{StoreTooLarge}
use Rattle.c2_rules.specs.CheckList.{check_asks}
use Rattle.c2_rules.specs.Opened.{IsManifestStore}
use Rattle.c2_rules.specs.Validated.{IsTreeAnswer, OpenedAsks}
use Rattle.c2_rules.specs.declared.answer.Answer.{Answer}
use Rattle.c2_rules.specs.declared.answer.Answer.TheVariants as answer
use Rattle.c2_rules.specs.declared.answer.Summary.{Summary}
use Rattle.c2_container.specs.Contained.{IsContainerOf}
use Rattle.c2_container.specs.declared.types.Container.{Container}
use Rattle.c2_validate.specs.declared.external.External.{External}
use Rattle.c2_validate.specs.declared.external.External.TheVariants.{Of, StoreRefused}

-- A list of bytes as a store of manifests in no range of a file: the test of its length comes first, then those of the boxes, all of
-- them together being the list, then those of the manifests.
abbrev pub IsExternalStore : List ℕ → Opening Tree → Type 0
IsExternalStore store what =
    MatchBool (nat_lt MAX_STORE_LEN (length store)) (what ≡ refused StoreTooLarge (length store)) (IsManifestStore 0 0 store what)

-- What is answered over what the list is opened as: the rules of its manifests, and the binding of the active one to the file. No
-- position of the file lies in an embedded range of this store.
abbrev pub IsStoreAnswer : (Alg → List ℕ → List ℕ) → (Question → Verdict) → List ℕ → Opening Tree → External → Type 0
IsStoreAnswer hash said file (refused reason number) e = e ≡ StoreRefused reason number
IsStoreAnswer hash said file absent e = ⊥
IsStoreAnswer hash said file (here start len t) e = (a : Answer) × IsTreeAnswer hash said file start len t a × (e ≡ Of a)

-- what is answered over a list of bytes as a store of manifests
abbrev pub IsListAnswer : (Alg → List ℕ → List ℕ) → (Question → Verdict) → List ℕ → List ℕ → External → Type 0
IsListAnswer hash said file store e = (what : Opening Tree) × IsExternalStore store what × IsStoreAnswer hash said file what e

-- nothing else than this is answered over a list of bytes as a store, in a file with these bytes that has this container
abbrev pub IsListAnswered : (Alg → List ℕ → List ℕ) → (Question → Verdict) → Container → List ℕ → List ℕ
    → External → Type 0
IsListAnswered hash said c store file e =
    IsContainerOf file c → (expected : External) → IsListAnswer hash said file store expected
    → expected ≡ e

-- what is answered of a list of bytes as a store, by what the file is as a container, which is refused first
abbrev pub IsLocatedAnswer : (Alg → List ℕ → List ℕ) → (Question → Verdict) → List ℕ → List ℕ → Located → External → Type 0
IsLocatedAnswer hash said file store (refused reason number) e = e ≡ Of (answer.Refused reason number)
IsLocatedAnswer hash said file store absent e = IsListAnswer hash said file store e
IsLocatedAnswer hash said file store (here start len own) e = IsListAnswer hash said file store e

-- what is answered of a media file with an external store
abbrev pub IsExternalAnswer : (Alg → List ℕ → List ℕ) → (Question → Verdict) → List ℕ → List ℕ → External → Type 0
IsExternalAnswer hash said file store e = (l : Located) × IsLocated file l × IsLocatedAnswer hash said file store l e

-- this is answered of a media file with an external store, and nothing else is
pub record IsAnsweredExternal (hash : Alg → List ℕ → List ℕ) (said : Question → Verdict) (file store : List ℕ)
    (answer : External) : Type 0 where
  pub is : IsExternalAnswer hash said file store answer
  pub only : (expected : External) → IsExternalAnswer hash said file store expected → expected ≡ answer

-- ---- what is asked

-- what the check asks over a list of bytes as a store
abbrev pub ListAsks : (Alg → List ℕ → List ℕ) → List ℕ → (Question → Verdict) → List Question → Type 0
ListAsks hash store said qs =
    (what : Opening Tree) × IsExternalStore store what × OpenedAsks (check_asks hash said) what qs

-- what the check asks over a list of bytes as a store, by what the file is as a container
abbrev pub LocatedAsks : (Alg → List ℕ → List ℕ) → List ℕ → (Question → Verdict) → Located → List Question
    → Type 0
LocatedAsks hash store said (refused reason number) qs = qs ≡ []
LocatedAsks hash store said absent qs = ListAsks hash store said qs
LocatedAsks hash store said (here start len own) qs = ListAsks hash store said qs

-- what is asked of a media file with an external store
abbrev pub ExternalAsks : (Alg → List ℕ → List ℕ) → List ℕ → List ℕ → (Question → Verdict) → List Question
    → Type 0
ExternalAsks hash store file said qs =
    (l : Located) × IsLocated file l × LocatedAsks hash store said l qs

-- ---- a file and its own store

-- two summaries count the same, but for excluded positions outside an embedded range
pub record SameButOutside (a b : Summary) : Type 0 where
  pub manifests : a.manifests ≡ b.manifests
  pub assertions : a.assertions ≡ b.assertions
  pub covered : a.covered ≡ b.covered

-- two answers are one, but for that count
abbrev pub IsSameAnswer : Answer → Answer → Type 0
IsSameAnswer (answer.Valid a) (answer.Valid b) = SameButOutside a b
IsSameAnswer a b = a ≡ b

-- A file with a store that is opened as one, checked with that store as an external one, comes to the answer of the file.
abbrev pub OwnStoreAnswers : Type 0
OwnStoreAnswers = (hash : Alg → List ℕ → List ℕ) (said : Question → Verdict) (file store : List ℕ) (start len : ℕ) (t : Tree) (a : Answer) (e : External)
    → IsLocated file (here start len store) → IsManifestStore start len store (here start len t)
    → IsTreeAnswer hash said file start len t a → IsExternalAnswer hash said file store e
    → (b : Answer) × (e ≡ Of b) × IsSameAnswer a b

-- A file with an external store has one answer and one list of questions at most; with its own store as that one, the file's answer.
use Rattle.c2_opening.proofs.TheLaws.{one_opening_store}
use Rattle.c2_read_manifests.proofs.TheLaws.{one_reading_file}
use Rattle.c2_container.proofs.TheLaws.{each_media_file_is_located_once}
use Rattle.std.proofs.Common.{◌≡◌, refl, sym, ◌∙◌, ap, subst, ℕ, ◌≤◌, Bool, true, false, List, length, nat_lt, Option, Some, None}
use Rattle.std.proofs.lemmas.Bool.{le-ltb}
use Rattle.std.specs.Bool.{MatchBool}
use Rattle.c2_base.specs.declared.limits.TheConstants.{MAX_STORE_LEN}
use Rattle.c2_base.specs.declared.values.Question.{Question}
use Rattle.c2_spec.specs.Container.{IsLocated}
use Rattle.c2_spec.specs.Jumbf.Tree.{Tree}
use Rattle.c2_spec.specs.Located.{Opening, Located, refused, absent, here}
use Rattle.c2_spec.specs.declared.digest.Alg.{Alg}
use Rattle.c2_spec.specs.declared.panel.Verdict.{Verdict}
use Rattle.c2_spec.specs.declared.reason.Reason.TheVariants.{StoreTooLarge}
use Rattle.c2_rules.specs.CheckList.{StoreReading, answer_of, check_asks, check_list, store_answer, summary_of}
use Rattle.c2_rules.specs.Opened.{Opens, IsBoxTree, IsManifestTree, IsManifestStore}
use Rattle.c2_rules.specs.Tests.{first_failing}
use Rattle.c2_rules.specs.Validated.{IsTreeAnswer, OpenedAsks}
use Rattle.c2_rules.specs.declared.answer.Answer.{Answer}
use Rattle.c2_rules.specs.declared.answer.Failing.{Failing}
use Rattle.c2_validate.specs.External.{ExternalAsks, IsExternalAnswer, IsListAnswer, IsLocatedAnswer, IsSameAnswer, IsStoreAnswer, IsExternalStore, ListAsks, LocatedAsks}
use Rattle.c2_validate.specs.declared.external.External.{External}
use Rattle.c2_validate.specs.declared.external.External.TheVariants.{Of}
use Rattle.c2_validate.proofs.OneCheck.{one_tree_answer}
use Rattle.c2_lemmas.proofs.Numbers.{one_after}
use Rattle.c2_rules.proofs.OneReading.{one_opened_asks}

-- ---- one answer

-- a list is opened as one thing at most
pub one_external_store : (store : List ℕ) (a b : Opening Tree) → IsExternalStore store a → IsExternalStore store b
    → a ≡ b
one_external_store store a b = by (nat_lt MAX_STORE_LEN (length store))
  where
    by : (t : Bool) → MatchBool t (a ≡ refused StoreTooLarge (length store)) (IsManifestStore 0 0 store a)
        → MatchBool t (b ≡ refused StoreTooLarge (length store)) (IsManifestStore 0 0 store b) → a ≡ b
    by true h k = h ∙ sym k
    by false h k = one_opening_store 0 0 store a b h k

-- over what it is opened as there is one answer at most
one_store_answer :
    (hash : Alg → List ℕ → List ℕ) (said : Question → Verdict) (file : List ℕ) (o : Opening Tree) (a b : External)
    → IsStoreAnswer hash said file o a → IsStoreAnswer hash said file o b → a ≡ b
one_store_answer hash said file (refused reason number) a b h k = h ∙ sym k
one_store_answer hash said file absent a b h k = absurd h
one_store_answer hash said file (here start len t) a b h k =
    h.2 ∙ ap Of (one_tree_answer hash said file start len t h.0 k.0 h.1 k.1) ∙ sym k.2

-- over the list
one_list_answer : (hash : Alg → List ℕ → List ℕ) (said : Question → Verdict) (file store : List ℕ) (a b : External)
    → IsListAnswer hash said file store a → IsListAnswer hash said file store b → a ≡ b
one_list_answer hash said file store a b h k =
    one_after (IsExternalStore store) (IsStoreAnswer hash said file) (one_external_store store)
    (one_store_answer hash said file) a b h k

-- over what the file is as a container
one_located_answer :
    (hash : Alg → List ℕ → List ℕ) (said : Question → Verdict) (file store : List ℕ) (l : Located) (a b : External)
    → IsLocatedAnswer hash said file store l a → IsLocatedAnswer hash said file store l b → a ≡ b
one_located_answer hash said file store (refused reason number) a b h k = h ∙ sym k
one_located_answer hash said file store absent a b h k = one_list_answer hash said file store a b h k
one_located_answer hash said file store (here start len own) a b h k = one_list_answer hash said file store a b h k

-- there is one answer at most over a file and an external store
pub one_external_answer :
    (hash : Alg → List ℕ → List ℕ) (said : Question → Verdict) (file store : List ℕ) (a b : External)
    → IsExternalAnswer hash said file store a → IsExternalAnswer hash said file store b → a ≡ b
one_external_answer hash said file store a b h k =
    one_after (IsLocated file) (IsLocatedAnswer hash said file store) (each_media_file_is_located_once file)
    (one_located_answer hash said file store) a b h k

-- ---- questions

-- one list of questions at most over a list
one_list_asks : (hash : Alg → List ℕ → List ℕ) (store : List ℕ) (said : Question → Verdict) (ps qs : List Question)
    → ListAsks hash store said ps → ListAsks hash store said qs → ps ≡ qs
one_list_asks hash store said ps qs h k =
    one_after (IsExternalStore store) (OpenedAsks (check_asks hash said)) (one_external_store store)
    (one_opened_asks (check_asks hash said)) ps qs h k

-- over what the file is as a container
one_located_asks :
    (hash : Alg → List ℕ → List ℕ) (store : List ℕ) (said : Question → Verdict) (l : Located) (ps qs : List Question)
    → LocatedAsks hash store said l ps → LocatedAsks hash store said l qs → ps ≡ qs
one_located_asks hash store said (refused reason number) ps qs h k = h ∙ sym k
one_located_asks hash store said absent ps qs h k = one_list_asks hash store said ps qs h k
one_located_asks hash store said (here start len own) ps qs h k = one_list_asks hash store said ps qs h k

-- there is one list of questions at most of a file and an external store
pub one_external_asks :
    (hash : Alg → List ℕ → List ℕ) (store file : List ℕ) (said : Question → Verdict) (ps qs : List Question)
    → ExternalAsks hash store file said ps → ExternalAsks hash store file said qs → ps ≡ qs
one_external_asks hash store file said ps qs h k =
    one_after (IsLocated file) (LocatedAsks hash store said) (each_media_file_is_located_once file)
    (one_located_asks hash store said) ps qs h k

-- ---- a file and its own store

-- the tree of a store in a range
tree_or : Tree → Opening Tree → Tree
tree_or t (refused reason number) = t
tree_or t absent = t
tree_or t (here start len u) = u

-- a store in a range is one in no range
in_no_range : (start len : ℕ) (store : List ℕ) (t : Tree) → IsManifestStore start len store (here start len t)
    → IsManifestStore 0 0 store (here 0 0 t)
unfolding tree_or
in_no_range start len store t h = by h.0 h.1 h.2
  where
    by : (o : Opening Tree) → IsBoxTree start len store o → Opens IsManifestTree o (here start len t)
        → IsManifestStore 0 0 store (here 0 0 t)
    by (refused reason number) is opens = absurd (cc (opens))
    by absent is opens = absurd is
    by (here at count u) is opens =
        let same : t ≡ u = tree_is (here start len t) (here at count u) opens.1 in
        (here 0 0 u, (is.0, refl), (opens.0, ap (here 0 0) same))
      where
        tree_is : (x y : Opening Tree) → x ≡ y → tree_or t x ≡ tree_or t y
        tree_is x y e = ap (tree_or t) e

-- what is answered by one list of conditions differs in that count alone
same_by : (size start len : ℕ) (s : StoreReading) (o : Option Failing)
    → IsSameAnswer (answer_of (summary_of size start len s) o) (answer_of (summary_of size 0 0 s) o)
same_by size start len s None = record { manifests = refl; assertions = refl; covered = refl }
same_by size start len s (Some failing) = refl

-- the answer of a file, over its own store
pub own_store :
    (hash : Alg → List ℕ → List ℕ) (said : Question → Verdict) (file store : List ℕ) (start len : ℕ) (t : Tree)
    (a : Answer) (e : External)
    → length store ≤ MAX_STORE_LEN
    → IsLocated file (here start len store) → IsManifestStore start len store (here start len t)
    → IsTreeAnswer hash said file start len t a → IsExternalAnswer hash said file store e
    → (b : Answer) × (e ≡ Of b) × IsSameAnswer a b
own_store hash said file store start len t a e small h opened over k =
    let list : IsListAnswer hash said file store e =
    subst (λ (l : Located). IsLocatedAnswer hash said file store l e)
    (each_media_file_is_located_once file k.0 (here start len store) k.1 h) k.2 in
    let fits : nat_lt MAX_STORE_LEN (length store) ≡ false = le-ltb MAX_STORE_LEN (length store) small in
    let seen : IsManifestStore 0 0 store list.0 =
    subst
    (λ (b : Bool). MatchBool b (list.0 ≡ refused StoreTooLarge (length store)) (IsManifestStore 0 0 store list.0))
    fits list.1 in
    let same : list.0 ≡ here 0 0 t =
    one_opening_store 0 0 store list.0 (here 0 0 t) seen (in_no_range start len store t opened) in
    let there : IsStoreAnswer hash said file (here 0 0 t) e =
    subst (λ (o : Opening Tree). IsStoreAnswer hash said file o e) same list.2 in
    let reading : over.0 ≡ there.1.0 = one_reading_file file t over.0 there.1.0 over.1 there.1.1 in
    let s : StoreReading = over.0 in
    let mine : a ≡ store_answer hash said (length file) start len s = over.2 in
    let other : there.0 ≡ store_answer hash said (length file) 0 0 s = there.1.2 ∙ ap (store_answer hash said (length file) 0 0) (sym reading) in (
      there.0,
      there.2,
      subst (λ (x : Answer). IsSameAnswer x there.0) (sym mine)
          (subst (λ (x : Answer). IsSameAnswer (store_answer hash said (length file) start len s) x) (sym other) (same_by (length file) start len s (first_failing (check_list hash said s)))),
    )

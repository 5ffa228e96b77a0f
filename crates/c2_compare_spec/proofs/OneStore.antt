-- A file that is opened as one thing is read as one store, and has one answer.
use Rattle.std.proofs.Common.{◌≡◌, ℕ, List, length, sym, ap, ◌∙◌, subst}
use Rattle.c2_base.specs.declared.values.Question.{Question}
use Rattle.c2_spec.specs.Jumbf.Tree.{Tree}
use Rattle.c2_spec.specs.Located.{Opening, refused, absent, here}
use Rattle.c2_spec.specs.declared.digest.Alg.{Alg}
use Rattle.c2_spec.specs.declared.panel.Verdict.{Verdict}
use Rattle.c2_rules.specs.CheckList.{StoreReading, store_answer, check_asks}
use Rattle.c2_rules.specs.Validated.{IsFileReading, IsOpenedAnswer, IsAnswer, OpenedAsks, CheckAsks}
use Rattle.c2_rules.specs.declared.answer.Answer.{Answer}
use Rattle.c2_rules.proofs.OneMedia.{one_file_reading}
use Rattle.c2_rules.proofs.OpenedStore.{same_here}
use Rattle.c2_rules.specs.Opened.{IsOpenedOnce}
use Rattle.c2_compare_spec.specs.Accepted.{IsOpenedAs}
use Rattle.c2_rules.proofs.OneReading.{one_opened_asks, one_store}

-- ---- one opening

-- what is here from one place is here from no other
one_start : (a b c d : ℕ) (t u : Tree) → ◌≡◌ {A = Opening Tree} (here a b t) (here c d u) → a ≡ c
one_start a b c d t u e = cc (e)

-- what is here with one length is here with no other
one_len : (a b c d : ℕ) (t u : Tree) → ◌≡◌ {A = Opening Tree} (here a b t) (here c d u) → b ≡ d
one_len a b c d t u e = cc (e)

-- A file is opened as a store in one place, and read in one way.
pub record OneReading (file : List ℕ) (s t : StoreReading) (o : IsOpenedAs file s)
    (p : IsOpenedAs file t) : Type 0 where
  pub store : s ≡ t
  pub start : o.start ≡ p.start
  pub len : o.len ≡ p.len

-- a file that is opened as one thing is opened as a store in one place, and read in one way
pub one_opened_as : (file : List ℕ) → IsOpenedOnce file
    → (s t : StoreReading) (o : IsOpenedAs file s) (p : IsOpenedAs file t) → OneReading file s t o p
one_opened_as file once s t o p =
    let e = once (here o.start o.len o.tree) (here p.start p.len p.tree) o.is_opened p.is_opened in
    let tree : p.tree ≡ o.tree = sym (same_here o.start o.len p.start p.len o.tree p.tree e) in
    record {
      store = one_file_reading one_store file o.tree s t o.reads (subst (λ u. IsFileReading file u t) tree p.reads);
      start = one_start o.start o.len p.start p.len o.tree p.tree e;
      len = one_len o.start o.len p.start p.len o.tree p.tree e;
    }

-- what is answered over one opening is one answer
one_opened_answer : (hash : Alg → List ℕ → List ℕ) (said : Question → Verdict) (file : List ℕ) (o : Opening Tree)
    (a b : Answer)
    → IsOpenedAnswer hash said file o a → IsOpenedAnswer hash said file o b → a ≡ b
one_opened_answer hash said file (refused reason number) a b p q = p ∙ sym q
one_opened_answer hash said file absent a b p q = p ∙ sym q
one_opened_answer hash said file (here start len t) a b p q =
    p.2 ∙ ap (store_answer hash said (length file) start len) (one_file_reading one_store file t p.0 q.0 p.1 q.1)
    ∙ sym q.2

-- a file that is opened as one thing has one answer
pub one_answer : (hash : Alg → List ℕ → List ℕ) (said : Question → Verdict) (file : List ℕ)
    → IsOpenedOnce file → (a b : Answer)
    → IsAnswer hash said file a → IsAnswer hash said file b → a ≡ b
one_answer hash said file once a b p q =
    one_opened_answer hash said file p.0 a b p.2
    (subst (λ o. IsOpenedAnswer hash said file o b) (once q.0 p.0 q.1 p.1) q.2)

-- ---- questions

-- the check of a file that is opened as one thing asks one list of questions
pub one_asks : (hash : Alg → List ℕ → List ℕ) (said : Question → Verdict) (file : List ℕ)
    → IsOpenedOnce file → (ps qs : List Question) → CheckAsks hash said file ps → CheckAsks hash said file qs
    → ps ≡ qs
one_asks hash said file once ps qs p q =
    one_opened_asks (check_asks hash said) p.0 ps qs p.2
    (subst (λ o. OpenedAsks (check_asks hash said) o qs) (once q.0 p.0 q.1 p.1) q.2)

-- A file is accepted exactly where its check answers that every rule holds.
use Rattle.std.proofs.Common.{◌≡◌, ℕ, List, length, Option, Some, None, refl, sym, ap}
use Rattle.c2_base.specs.declared.values.Question.{Question}
use Rattle.c2_spec.specs.Jumbf.Tree.{Tree}
use Rattle.c2_spec.specs.Located.{Opening, refused, absent, here}
use Rattle.c2_spec.specs.declared.digest.Alg.{Alg}
use Rattle.c2_spec.specs.declared.panel.Verdict.{Verdict}
use Rattle.c2_rules.proofs.FirstLemmas.{all_hold, none_fails}
use Rattle.c2_rules.specs.CheckList.{StoreReading, check_list, summary_of, answer_of}
use Rattle.c2_rules.specs.Opened.{IsOpened}
use Rattle.c2_rules.specs.Tests.{first_failing}
use Rattle.c2_rules.specs.Validated.{IsOpenedAnswer, IsAnswer}
use Rattle.c2_rules.specs.declared.answer.Answer.TheVariants as answer
use Rattle.c2_rules.specs.declared.answer.Failing.{Failing}
use Rattle.c2_rules.specs.declared.answer.Summary.{Summary}
use Rattle.c2_compare_spec.specs.Accepted.{IsAccepted, summary_in}

-- where every rule holds none fails, and the summary is that of the store
valid_says : (own given : Summary) (o : Option Failing) → answer.Valid given ≡ answer_of own o
    → (o ≡ None) × (given ≡ own)
valid_says own given None e = let same : given ≡ own = cc (e) in (refl, same)
valid_says own given (Some f) e = absurd (cc (e))

-- by what the file is opened as
by_opening : (hash : Alg → List ℕ → List ℕ) (said : Question → Verdict) (file : List ℕ) (what : Opening Tree)
    (given : Summary) → IsOpened file what
    → IsOpenedAnswer hash said file what (answer.Valid given)
    → (s : StoreReading) × (h : IsAccepted hash said file s) × (given ≡ summary_in file s h.opened)
by_opening hash said file (refused reason number) given opened h = absurd (cc (h))
by_opening hash said file absent given opened h = absurd (cc (h))
by_opening hash said file (here start len t) given opened h =
    let says =
    valid_says (summary_of (length file) start len h.0) given (first_failing (check_list hash said h.0))
    h.2 in (
      h.0,
      record {
        opened = record { start = start; len = len; tree = t; is_opened = opened; reads = h.1 };
        valid = all_hold (check_list hash said h.0) says.0;
      },
      says.1,
    )

-- a file whose check answers so is accepted
pub valid_accepted : (hash : Alg → List ℕ → List ℕ) (said : Question → Verdict) (file : List ℕ)
    (given : Summary) → IsAnswer hash said file (answer.Valid given)
    → (s : StoreReading) × (h : IsAccepted hash said file s) × (given ≡ summary_in file s h.opened)
valid_accepted hash said file given h = by_opening hash said file h.0 given h.1 h.2

-- the check of an accepted file answers that it is valid
pub accepted_valid : (hash : Alg → List ℕ → List ℕ) (said : Question → Verdict) (file : List ℕ)
    (s : StoreReading) (h : IsAccepted hash said file s)
    → IsAnswer hash said file (answer.Valid (summary_in file s h.opened))
accepted_valid hash said file s h =
    let none = none_fails (check_list hash said s) h.valid in (
      here h.opened.start h.opened.len h.opened.tree,
      h.opened.is_opened,
      (s, h.opened.reads, ap (answer_of (summary_in file s h.opened)) (sym none)),
    )

-- What two files come to, step by step.
use Rattle.c2_opening.proofs.TheLaws.{one_opening_file}
use Rattle.c2_compare_spec.proofs.TheLaws.{one_comparison_answer}
use Rattle.std.proofs.Common.{◌≡◌, ◌⊎◌, inl, inr, ℕ, List, [], Option, Result, Ok, Err, refl, sym, ap, ◌∙◌, subst}
use Rattle.c2_base.specs.Sink.{HasWrittenPrefix, then_written}
use Rattle.c2_base.specs.declared.values.Question.{Question}
use Rattle.c2_spec.specs.declared.digest.Alg.{Alg}
use Rattle.c2_spec.specs.declared.panel.Verdict.{Verdict}
use Rattle.c2_rules.specs.CheckList.{StoreReading}
use Rattle.c2_rules.specs.declared.answer.Answer.{Answer}
use Rattle.c2_compare_spec.specs.Accepted.{IsAccepted}
use Rattle.c2_compare_spec.specs.Comparison.{IsComparison, IsRefusedFirst}
use Rattle.c2_compare_spec.specs.declared.compared.Compared.{Compared}
use Rattle.c2_compare_spec.specs.declared.compared.Compared.TheVariants as compared
use Rattle.c2_compare_spec.specs.declared.compared.Side.TheVariants.{First, Second}
use Rattle.c2_compare_spec.proofs.Unwritten.{prefix_none}
use Rattle.c2_compare_evidence.specs.declared.error.CompareError.{CompareError}
use Rattle.c2_compare_opened.specs.Comparing.{IsComparedAs}
use Rattle.c2_compare.specs.Accepting.{IsUnaccepted, ended_as}
use Rattle.c2_compare.specs.Comparing.{IsCompared}
use Rattle.c2_compare.specs.declared.accepting.Unaccepted.{Unaccepted}
use Rattle.c2_compare.specs.declared.accepting.Unaccepted.TheVariants.{Refused, Failed}
use Rattle.c2_base.proofs.Written.{then_nothing}

module _ (hash : Alg → List ℕ → List ℕ) (said : Question → Verdict) (first second : List ℕ) where
  -- two files come to one thing at most
  one_law : (a b : Compared) (t u : List ℕ) → IsComparison hash said first second a t
      → IsComparison hash said first second b u → (a ≡ b) × (t ≡ u)
  one_law = one_comparison_answer hash said first second (one_opening_file first) (one_opening_file second)

  -- ---- files that aren't compared

  -- the first isn't accepted
  refused_first : (a : Answer) (old : Option (List ℕ)) → IsRefusedFirst hash said first a
      → IsComparedAs hash said first second old old (Ok (compared.NotAccepted First a))
  refused_first a old is = ([], (is, refl), then_nothing old)

  -- the second isn't
  refused_second : (s : StoreReading) → IsAccepted hash said first s → (a : Answer) (old : Option (List ℕ))
      → IsRefusedFirst hash said second a
      → IsComparedAs hash said first second old old (Ok (compared.NotAccepted Second a))
  refused_second s h a old is =
      ([], (record { store = s; accepted = h; is_answer = is.is_answer; invalid = is.invalid }, refl), then_nothing old)

  -- what the comparison ends with at the first
  pub ended_first : (u : Unaccepted) (old : Option (List ℕ)) (r : Result Compared CompareError) → r ≡ ended_as First u
      → IsUnaccepted hash said first u
      → IsComparedAs hash said first second old old r
  ended_first u old r same is = subst (IsComparedAs hash said first second old old) (sym same) (by u is)
    where
      by : (u : Unaccepted) → IsUnaccepted hash said first u
          → IsComparedAs hash said first second old old (ended_as First u)
      by (Refused a) is = refused_first a old is
      by (Failed e) is = inl refl

  -- what the comparison ends with at a second file that isn't accepted
  pub ended_second : (s : StoreReading) → IsAccepted hash said first s
      → (u : Unaccepted) (old : Option (List ℕ)) (r : Result Compared CompareError) → r ≡ ended_as Second u
      → IsUnaccepted hash said second u → IsComparedAs hash said first second old old r
  ended_second s h u old r same is = subst (IsComparedAs hash said first second old old) (sym same) (by u is)
    where
      by : (u : Unaccepted) → IsUnaccepted hash said second u
          → IsComparedAs hash said first second old old (ended_as Second u)
      by (Refused a) is = refused_second s h a old is
      by (Failed e) is = inl refl

  -- ---- what they come to, and nothing else

  -- what is answered of two accepted files is their outcome
  pub compared_as : (old new : Option (List ℕ)) (r : Result Compared CompareError)
      → IsComparedAs hash said first second old new r
      → IsCompared hash said first second old new r
  compared_as old new (Ok got) h = record {
    gives = λ what text is.
        let one = one_law got what h.0 text h.1 is in
        (one.0, h.2 ∙ ap (then_written old) one.1);
    is = (h.0, h.1);
  }
  compared_as old new (Err e) h = record { gives = λ what text is. by what text is h; is = tt }
    where
      by : (what : Compared) (text : List ℕ) → IsComparison hash said first second what text
          → (new ≡ old) ⊎ ((w : Compared) × (u : List ℕ) × IsComparison hash said first second w u × HasWrittenPrefix old new u)
          → HasWrittenPrefix old new text
      by what text is (inl unchanged) = prefix_none old new text unchanged
      by what text is (inr w) = subst (HasWrittenPrefix old new) (one_law w.0 what w.1 text w.2 is).1 w.3

-- One step of the panel, over plain lists of verdicts and counts.
use Rattle.std.proofs.Common.{◌≡◌, ◌≢◌, ℕ, ◌+◌, ◌<◌, ◌≤◌, List, ◌∷◌, length, drop, get_or, refl, sym, ap, ◌∙◌, arith, below_more, add-zero, inl, inr, ◌-◌}
use Rattle.std.proofs.lemmas.Bool.{cases_lt}
use Rattle.std.proofs.lemmas.List.{get_or-take, get_or-drop, drop-drop, drop_more, drop_all}
use Rattle.c2_spec.specs.declared.panel.Verdict.{Verdict}
use Rattle.c2_spec.specs.declared.panel.Verdict.TheVariants.{Approved, Mismatch, Untrusted, Invalid, Silent}
use Rattle.c2_spec.specs.Judges.Panel.{first_said, panel_size, Counted, Failing, MovedAt, MovedBelow, FailedAt, SomeRose, NoneFell}

-- a verdict other than Silent is the first said
said_first : (v : Verdict) (vs : List Verdict) → v ≢ Silent → first_said (v ∷ vs) ≡ v
said_first Approved vs loud = refl
said_first Mismatch vs loud = refl
said_first Untrusted vs loud = refl
said_first Invalid vs loud = refl
said_first Silent vs loud = absurd (loud refl)

-- after it nobody is asked
size_first : (v : Verdict) (vs : List Verdict) → v ≢ Silent → panel_size (v ∷ vs) ≡ 1
size_first Approved vs loud = refl
size_first Mismatch vs loud = refl
size_first Untrusted vs loud = refl
size_first Invalid vs loud = refl
size_first Silent vs loud = absurd (loud refl)

-- the first judge of a list is always asked
size_some : (v : Verdict) (vs : List Verdict) → 1 ≤ panel_size (v ∷ vs)
size_some Approved vs = omega arith
size_some Mismatch vs = omega arith
size_some Untrusted vs = omega arith
size_some Invalid vs = omega arith
size_some Silent vs = omega arith

-- the panel's answer at its place
pub answer_found : (said now : List Verdict) (i : ℕ) (v : Verdict) → now ≡ said → drop i now ≡ v ∷ drop (i + 1) now
    → first_said said ≡ first_said (drop i said) → v ≢ Silent → v ≡ first_said said
answer_found said now i v same at so_far loud =
    let at' : drop i said ≡ v ∷ drop (i + 1) said = rw same at at in
    sym (so_far ∙ ap first_said at' ∙ said_first v (drop (i + 1) said) loud)

-- the panel's size, found at its place
pub size_found : (said now : List Verdict) (i : ℕ) (v : Verdict) → now ≡ said → drop i now ≡ v ∷ drop (i + 1) now
    → panel_size said ≡ i + panel_size (drop i said) → v ≢ Silent → panel_size said ≡ i + 1
size_found said now i v same at so_far loud =
    let at' : drop i said ≡ v ∷ drop (i + 1) said = rw same at at in
    so_far ∙ ap (λ vs. i + panel_size vs) at' ∙ ap (λ n. i + n) (size_first v (drop (i + 1) said) loud)

-- the panel's answer after one more judge that says Silent
pub answer_more : (said now : List Verdict) (i : ℕ) (v : Verdict) → now ≡ said → drop i now ≡ v ∷ drop (i + 1) now
    → first_said said ≡ first_said (drop i said) → v ≡ Silent → first_said said ≡ first_said (drop (i + 1) said)
answer_more said now i v same at so_far silent =
    let at' : drop i said ≡ v ∷ drop (i + 1) said = rw same at at in
    so_far ∙ ap first_said at' ∙ ap (λ w. first_said (w ∷ drop (i + 1) said)) silent

-- the panel's size after one more judge that says Silent
pub size_more : (said now : List Verdict) (i : ℕ) (v : Verdict) → now ≡ said → drop i now ≡ v ∷ drop (i + 1) now
    → panel_size said ≡ i + panel_size (drop i said) → v ≡ Silent
    → panel_size said ≡ (i + 1) + panel_size (drop (i + 1) said)
size_more said now i v same at so_far silent =
    let at' : drop i said ≡ v ∷ drop (i + 1) said = rw same at at in
    let step : panel_size said ≡ i + (panel_size (drop (i + 1) said) + 1) =
    so_far ∙ ap (λ vs. i + panel_size vs) at' ∙ ap (λ w. i + panel_size (w ∷ drop (i + 1) said)) silent in
    omega arith

-- counts below a place moved, and then that at the place
pub MovedBelow-more : (Step : ℕ → ℕ → Type 0) (i : ℕ) (before middle now : List ℕ) → MovedBelow Step i before middle
    → MovedAt Step i middle now → MovedBelow Step (i + 1) before now
MovedBelow-more Step i before middle now below at = record {
  same_length = at.same_length ∙ below.same_length;
  moved = below_more _ _
      (λ k h. let same : get_or now k 0 ≡ get_or middle k 0 = sym (get_or-take i now k 0 h) ∙ ap (λ l. get_or l k 0) at.earlier ∙ get_or-take i middle k 0 h in
      rw same (below.moved k h))
      (let same : get_or middle i 0 ≡ get_or before i 0 =
      ap (λ n. get_or middle n 0) (sym (add-zero i)) ∙ sym (get_or-drop i middle 0 0) ∙ ap (λ l. get_or l 0 0) below.later ∙ get_or-drop i before 0 0 ∙ ap (λ n. get_or before n 0) (add-zero i) in
      rw same at at.moved);
  later = at.later ∙ sym (drop-drop 1 i middle) ∙ ap (λ l. drop 1 l) below.later ∙ drop-drop 1 i before;
}

-- the judge at a place that was reached was due
due : (said : List Verdict) (i : ℕ) → i < length said → panel_size said ≡ i + panel_size (drop i said)
    → i < panel_size said
due said i lt size =
    let here : 1 ≤ panel_size (drop i said) =
    rw (drop_more said i Silent lt) (size_some (get_or said i Silent) (drop (i + 1) said)) in
    omega arith

-- the judge at `i` failed
pub failed_at : (i : ℕ) (said now : List Verdict) (a b c : List ℕ) (d e f : List ℕ) → now ≡ said → i < length now
    → panel_size said ≡ i + panel_size (drop i said) → MovedBelow Counted i a b → MovedAt Counted i b c → e ≡ d
    → MovedAt Failing i e f → FailedAt i said a c d f
failed_at i said now a b c d e f same lt size below at kept failed = record {
  was_due = due said i (rw same at lt) size;
  was_asked = MovedBelow-more Counted i a b c below at;
  failed = rw kept at failed;
}

-- where all said Silent, the panel says so
pub answer_all : (said : List Verdict) (i : ℕ) → length said ≤ i → first_said said ≡ first_said (drop i said)
    → Silent ≡ first_said said
answer_all said i past so_far = sym (so_far ∙ ap first_said (drop_all i said past))

-- where all said Silent, all were asked
pub size_all : (said : List Verdict) (i : ℕ) → length said ≤ i → panel_size said ≡ i + panel_size (drop i said)
    → panel_size said ≡ i
size_all said i past size = size ∙ ap (λ vs. i + panel_size vs) (drop_all i said past) ∙ add-zero i

-- a failed ask is a fault that rose
pub SomeRose-at : (i : ℕ) (d e f : List ℕ) → i < length d → e ≡ d → MovedAt Failing i e f → SomeRose d f
SomeRose-at i d e f lt kept failed = (i, lt, rw kept at failed.moved.rose)

-- counts that moved by steps that don't fall haven't fallen
pub below_none_fell : (Step : ℕ → ℕ → Type 0) → ((a b : ℕ) → Step a b → a ≤ b) → (n : ℕ) (before now : List ℕ)
    → MovedBelow Step n before now → NoneFell before now
below_none_fell Step up n before now moved i lt =
    elim (cases_lt i n) [
      | inl below ↦ up _ _ (moved.moved i below)
      | inr past ↦
          let place : n + (i - n) ≡ i = omega arith in
          let same : get_or now i 0 ≡ get_or before i 0 =
          ap (λ k. get_or now k 0) (sym place) ∙ sym (get_or-drop n now (i - n) 0) ∙ ap (λ l. get_or l (i - n) 0) moved.later ∙ get_or-drop n before (i - n) 0 ∙ ap (λ k. get_or before k 0) place in
          omega arith
    ]

-- counts that rose by one each
pub counted_none_fell : (n : ℕ) (before now : List ℕ) → MovedBelow Counted n before now → NoneFell before now
counted_none_fell n before now moved = below_none_fell Counted (λ a b step. step.later) n before now moved

-- counts that stand
pub same_none_fell : (before now : List ℕ) → now ≡ before → NoneFell before now
same_none_fell before now same i lt = rw same (omega arith)

-- counts of which one rose
pub failing_none_fell : (i : ℕ) (before middle now : List ℕ) → middle ≡ before → MovedAt Failing i middle now
    → NoneFell before now
failing_none_fell i before middle now kept failed = below_none_fell (λ a b. a ≤ b) (λ a b le. le) (i + 1) before now (rw kept at (MovedBelow-more (λ a b. a ≤ b) i middle middle now (standing i middle) (weaker i middle now failed)))
  where
    standing : (i : ℕ) (l : List ℕ) → MovedBelow (λ a b. a ≤ b) i l l
    standing i l = record { same_length = refl; moved = λ k h. omega arith; later = refl }

    weaker : (i : ℕ) (before now : List ℕ) → MovedAt Failing i before now → MovedAt (λ a b. a ≤ b) i before now
    weaker i before now at =
        record { same_length = at.same_length; earlier = at.earlier; moved = at.moved.later; later = at.later }

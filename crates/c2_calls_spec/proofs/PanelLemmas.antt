-- What a call does to its judges, put together from what the calls below it do.
use Rattle.std.proofs.Common.{◌≡◌, ◌≢◌, ℕ, ◌<◌, List, [], ◌∷◌, ◌++◌, length, map, Option, Some, Result, Ok, Err, IfErr, OnOk, option_to_list, vec_len, refl, sym, ap, ◌∙◌, subst, arith}
use Rattle.std.proofs.lemmas.List.{length-map}
use Rattle.std.specs.declared.alloc.Global.{Global}
use Rattle.std.specs.declared.vec.Vec.{Vec}
use Rattle.c2_base.specs.declared.values.Question.{Question}
use Rattle.c2_spec.specs.declared.panel.Verdict.{Verdict}
use Rattle.c2_spec.specs.Judges.Panel.{AsksJudges, Judges, LeavesJudges, NoneFell, judges_of, panel_says}
use Rattle.c2_rules.specs.Asking.{HasHeard, HasHeardSoFar, HaveAsked, HaveAskedPrefix, HaveFailed, HearsPanel, Heard, IsJudgeCause, all, broken, part}
use Rattle.c2_rules.proofs.AskingLemmas.{asked_append, asked_some, failed_append, failed_more, failed_some, front_all, front_append, front_more, front_none, leaves_err, leaves_ok, stays}
use Rattle.c2_calls_spec.specs.Asks.{AsksThese}

-- ---- judges that nobody asked

-- nothing is asked where there are no questions
pub asked_none : (said : List (Question → Verdict)) (qs : List Question) (now : List ℕ) → qs ≡ []
    → HaveAsked said qs now now
asked_none said qs now none = subst (λ (ps : List Question). HaveAsked said ps now now) (sym none) refl

-- a call that has an answer, and had nothing to ask
pub hears_nobody : {J T E : Type 0} (says : J → Question → Verdict) (times faults : J → ℕ) (heard : E → Heard) (Asks : (Question → Verdict) → List Question → Type 0) (js : Vec J Global) (x : T)
    → ((qs : List Question) → Asks (panel_says (map says js.items)) qs → qs ≡ [])
    → HearsPanel {E = E} says times faults heard Asks js js (Ok x)
hears_nobody {J} {T} {E} says times faults heard Asks js x none = record {
  stays = stays (judges_of says times faults js.items) (Ok x);
  len = refl;
  cause = tt;
  asked = λ qs asks. asked_none (map says js.items) qs (map times js.items) (none qs asks);
  unasked = λ _. refl;
}

-- a call that broke off before it asked anybody
pub hears_early : {J T E : Type 0} (says : J → Question → Verdict) (times faults : J → ℕ) (heard : E → Heard) (Asks : (Question → Verdict) → List Question → Type 0) (js : Vec J Global) (e : E)
    → part ≡ heard e → HearsPanel {T = T} says times faults heard Asks js js (Err e)
hears_early {J} {T} {E} says times faults heard Asks js e is = record {
  stays = stays (judges_of says times faults js.items) (Err e);
  len = refl;
  cause = subst (IsJudgeCause (map faults js.items) (map faults js.items)) is tt;
  asked =
      λ qs _. subst (λ (h : Heard). HasHeardSoFar h qs (judges_of says times faults js.items) (judges_of says times faults js.items)) is (front_none (map says js.items) qs (map times js.items));
  unasked = λ _. refl;
}

-- ---- one question

-- a panel that is asked one question, where there is one
pub hears_one :
    {J T E F : Type 0} (says : J → Question → Verdict) (times faults : J → ℕ) (heard : F → Heard)
    (old new : Vec J Global) (o : Option Question) (q : Question) (v : Verdict) (x : T)
    → o ≡ Some q
    → AsksJudges {E = E} q (judges_of says times faults old.items) (judges_of says times faults new.items) (Ok v)
    → LeavesJudges {T = Verdict} {E = E} (judges_of says times faults old.items) (judges_of says times faults new.items) (Ok v)
    → vec_len new ≡ vec_len old
    → HearsPanel {E = F} says times faults heard (AsksThese (option_to_list o)) old new (Ok x)
hears_one {J} {T} {E} {F} says times faults heard old new o q v x is asks leaves many = record {
  stays = leaves_ok (judges_of says times faults old.items) (judges_of says times faults new.items) v (Ok x) leaves;
  len = many;
  cause = tt;
  asked = λ qs same. subst (λ (ps : List Question). HaveAsked (map says old.items) ps (map times old.items) (map times new.items)) (sym same)
      (asked_some (map says old.items) o q (map times old.items) (map times new.items) is asks.asked);
  unasked = λ none. absurd (let no : [] ≡ q ∷ [] = none ∙ ap option_to_list is in cc (no));
}

-- a panel that is asked one question, where a judge failed
pub hears_failed :
    {J T E F : Type 0} (says : J → Question → Verdict) (times faults : J → ℕ) (heard : F → Heard)
    (old new : Vec J Global) (o : Option Question) (q : Question) (e : E) (f : F)
    → o ≡ Some q → broken ≡ heard f
    → AsksJudges {E = E} q (judges_of says times faults old.items) (judges_of says times faults new.items) (Err e)
    → LeavesJudges {T = Verdict} {E = E} (judges_of says times faults old.items) (judges_of says times faults new.items) (Err e)
    → vec_len new ≡ vec_len old
    → HearsPanel {T = T} says times faults heard (AsksThese (option_to_list o)) old new (Err f)
hears_failed {J} {T} {E} {F} says times faults heard old new o q e f is broke asks leaves many = record {
  stays = leaves_err (judges_of says times faults old.items) (judges_of says times faults new.items) e f leaves;
  len = many;
  cause = subst (IsJudgeCause (map faults old.items) (map faults new.items)) broke asks.cause;
  asked = λ qs same. subst (λ (h : Heard). HasHeardSoFar h qs (judges_of says times faults old.items) (judges_of says times faults new.items)) broke
      (subst (λ (ps : List Question). HaveFailed (map says old.items) ps (map times old.items) (map times new.items) (map faults old.items) (map faults new.items)) (sym same)
      (failed_some (map says old.items) o q (map times old.items) (map times new.items) (map faults old.items) (map faults new.items) is asks.failed));
  unasked = λ none. absurd (let no : [] ≡ q ∷ [] = none ∙ ap option_to_list is in cc (no));
}

-- ---- what a call below has asked

-- a call with the answer of the one below, which asked these questions
pub hears_same : {J T E : Type 0} (says : J → Question → Verdict) (times faults : J → ℕ) (heard : E → Heard) (Asks Below : (Question → Verdict) → List Question → Type 0) (old new : Vec J Global) (r : Result T E)
    → ((qs : List Question) → Asks (panel_says (map says old.items)) qs → Below (panel_says (map says old.items)) qs)
    → HearsPanel says times faults heard Below old new r → HearsPanel says times faults heard Asks old new r
hears_same says times faults heard Asks Below old new r among h = record {
  stays = h.stays;
  len = h.len;
  cause = h.cause;
  asked = λ qs asks. h.asked qs (among qs asks);
  unasked = λ none. h.unasked (among [] none);
}

-- a call whose answer comes after the one below asked all: whatever it is, no judge fails any more
pub hears_later : {J T U E F : Type 0} (says : J → Question → Verdict) (times faults : J → ℕ) (heard : E → Heard) (heard_too : F → Heard) (Asks Below : (Question → Verdict) → List Question → Type 0) (old new : Vec J Global) (x : T) (r : Result U F)
    → IfErr r (λ f. heard_too f ≢ broken)
    → ((qs : List Question) → Asks (panel_says (map says old.items)) qs → Below (panel_says (map says old.items)) qs)
    → HearsPanel says times faults heard Below old new (Ok x) → HearsPanel says times faults heard_too Asks old new r
hears_later {J} {T} {U} {E} {F} says times faults heard heard_too Asks Below old new x (Ok y) never among h = record {
  stays = leaves_ok (judges_of says times faults old.items) (judges_of says times faults new.items) x (Ok y) h.stays;
  len = h.len;
  cause = tt;
  asked = λ qs asks. h.asked qs (among qs asks);
  unasked = λ none. h.unasked (among [] none);
}
hears_later {J} {T} {U} {E} {F} says times faults heard heard_too Asks Below old new x (Err f) never among h = record {
  stays = leaves_ok (judges_of says times faults old.items) (judges_of says times faults new.items) x (Err f) h.stays;
  len = h.len;
  cause = rose (heard_too f) never;
  asked = λ qs asks. so_far qs (heard_too f) never (h.asked qs (among qs asks));
  unasked = λ none. h.unasked (among [] none);
}
  where
    rose : (w : Heard) → w ≢ broken → IsJudgeCause (map faults old.items) (map faults new.items) w
    rose all other = h.stays.ok
    rose part other = tt
    rose broken other = absurd (other refl)

    so_far : (qs : List Question) (w : Heard) → w ≢ broken
        → HaveAsked (map says old.items) qs (map times old.items) (map times new.items)
        → HasHeardSoFar w qs (judges_of says times faults old.items) (judges_of says times faults new.items)
    so_far qs all other asked = asked
    so_far qs part other asked = front_all (map says old.items) qs (map times old.items) (map times new.items) asked
    so_far qs broken other asked = absurd (other refl)

-- a call that hands up an error of the one below, as one that tells the same of the questions
pub hears_error : {J T U E F : Type 0} (says : J → Question → Verdict) (times faults : J → ℕ) (heard : E → Heard) (heard_too : F → Heard) (Asks Below : (Question → Verdict) → List Question → Type 0) (old new : Vec J Global) (e : E) (f : F)
    → heard e ≡ heard_too f
    → ((qs : List Question) → Asks (panel_says (map says old.items)) qs → Below (panel_says (map says old.items)) qs)
    → HearsPanel {T = T} says times faults heard Below old new (Err e)
    → HearsPanel {T = U} says times faults heard_too Asks old new (Err f)
hears_error {J} {T} {U} {E} {F} says times faults heard heard_too Asks Below old new e f is among h = record {
  stays = leaves_err (judges_of says times faults old.items) (judges_of says times faults new.items) e f h.stays;
  len = h.len;
  cause = subst (IsJudgeCause (map faults old.items) (map faults new.items)) is h.cause;
  asked =
      λ qs asks. subst (λ (w : Heard). HasHeardSoFar w qs (judges_of says times faults old.items) (judges_of says times faults new.items)) is (h.asked qs (among qs asks));
  unasked = λ none. h.unasked (among [] none);
}

-- ---- one call after another

-- no count fell, and then no count fell again
later : (a b c : List ℕ) → length b ≡ length a → NoneFell a b → NoneFell b c → NoneFell a c
later a b c same p q i lt = omega (arith, p i lt, q i (subst (λ (n : ℕ). i < n) (sym same) lt))

-- as many judges are there who say the same
same_length : {J : Type 0} (says : J → Question → Verdict) (count : J → ℕ) (xs ys : List J) → map says ys ≡ map says xs
    → length (map count ys) ≡ length (map count xs)
same_length {J} says count xs ys same =
    length-map ys count ∙ sym (length-map ys says) ∙ ap length same ∙ length-map xs says ∙ sym (length-map xs count)

-- what a call leaves of judges whom an earlier one asked
pub leaves_next :
    {J T U E F : Type 0} (says : J → Question → Verdict) (times faults : J → ℕ) (xs ys zs : List J) (x : T)
    (r : Result U F)
    → LeavesJudges {T = T} {E = E} (judges_of says times faults xs) (judges_of says times faults ys) (Ok x)
    → LeavesJudges (judges_of says times faults ys) (judges_of says times faults zs) r
    → LeavesJudges (judges_of says times faults xs) (judges_of says times faults zs) r
leaves_next {J} {T} {U} {E} {F} says times faults xs ys zs x r h k = record {
  same = k.same ∙ h.same;
  asked_later =
      later (map times xs) (map times ys) (map times zs) (same_length says times xs ys h.same) h.asked_later
      k.asked_later;
  faults_later =
      later (map faults xs) (map faults ys) (map faults zs) (same_length says faults xs ys h.same) h.faults_later
      k.faults_later;
  ok = subst (λ (ns : List ℕ). OnOk r (map faults zs ≡ ns)) h.ok k.ok;
}

-- lists that are empty together are empty
pub append_none : (xs ys : List Question) → [] ≡ xs ++ ys → ([] ≡ xs) × ([] ≡ ys)
append_none [] ys none = (refl, none)
append_none (x ∷ xs) ys none = absurd (cc (none))

-- a judge's count of faults rose after the counts stood
pub cause_next : {T E : Type 0} (heard : E → Heard) (before between now : List ℕ) (r : Result T E) → between ≡ before
    → IfErr r (λ e. IsJudgeCause between now (heard e)) → IfErr r (λ e. IsJudgeCause before now (heard e))
cause_next {T} {E} heard before between now r same h =
    subst (λ (ns : List ℕ). IfErr r (λ e. IsJudgeCause ns now (heard e))) same h

-- the first questions were all asked, and then the others, as far as the later call came
so_far_next : (w : Heard) (ps qs : List Question) (old between new : Judges) → between.said ≡ old.said
    → between.faults ≡ old.faults → HaveAsked old.said ps old.asked between.asked → HasHeardSoFar w qs between new
    → HasHeardSoFar w (ps ++ qs) old new
so_far_next all ps qs old between new same kept h k =
    asked_append old.said ps qs old.asked between.asked new.asked h
    (subst (λ (x : List (Question → Verdict)). HaveAsked x qs between.asked new.asked) same k)
so_far_next part ps qs old between new same kept h k =
    front_append old.said ps qs old.asked between.asked new.asked h
    (subst (λ (x : List (Question → Verdict)). HaveAskedPrefix x qs between.asked new.asked) same k)
so_far_next broken ps qs old between new same kept h k =
    failed_append old.said ps qs old.asked between.asked new.asked old.faults new.faults h
    (subst (λ (x : List ℕ). HaveFailed old.said qs between.asked new.asked x new.faults) kept (subst (λ (x : List (Question → Verdict)). HaveFailed x qs between.asked new.asked between.faults new.faults) same k))

-- by the answer of the later call
pub heard_next : {T E : Type 0} (heard : E → Heard) (ps qs : List Question) (old between new : Judges) (r : Result T E)
    → between.said ≡ old.said → between.faults ≡ old.faults → HaveAsked old.said ps old.asked between.asked
    → HasHeard heard qs between new r
    → HasHeard heard (ps ++ qs) old new r
heard_next {T} {E} heard ps qs old between new (Ok x) same kept h k =
    so_far_next all ps qs old between new same kept h k
heard_next {T} {E} heard ps qs old between new (Err e) same kept h k =
    so_far_next (heard e) ps qs old between new same kept h k

-- A call that asks some questions, all of which an answer follows, and then one that asks others: together they ask the first and then
-- the others, as far as the later one came.
pub hears_next : {J T U E F : Type 0} (says : J → Question → Verdict) (times faults : J → ℕ) (heard : E → Heard) (heard_too : F → Heard) (ps qs : List Question) (old between new : Vec J Global) (x : T) (r : Result U F)
    → HearsPanel {E = E} says times faults heard (AsksThese ps) old between (Ok x)
    → HearsPanel says times faults heard_too (AsksThese qs) between new r
    → HearsPanel says times faults heard_too (AsksThese (ps ++ qs)) old new r
hears_next {J} {T} {U} {E} {F} says times faults heard heard_too ps qs old between new x r h k = record {
  stays = leaves_next says times faults old.items between.items new.items x r h.stays k.stays;
  len = k.len ∙ h.len;
  cause =
      cause_next heard_too (map faults old.items) (map faults between.items) (map faults new.items) r h.stays.ok
      k.cause;
  asked = λ rs is. subst (λ (xs : List Question). HasHeard heard_too xs (judges_of says times faults old.items) (judges_of says times faults new.items) r) (sym is)
      (heard_next heard_too ps qs (judges_of says times faults old.items) (judges_of says times faults between.items) (judges_of says times faults new.items) r h.stays.same h.stays.ok (h.asked ps refl) (k.asked qs refl));
  unasked = λ none. let both = append_none ps qs none in k.unasked both.1 ∙ h.unasked both.0;
}

-- more questions would have followed, had the call not broken off
so_far_more : (w : Heard) (ps qs : List Question) (old new : Judges) → w ≢ all → HasHeardSoFar w ps old new
    → HasHeardSoFar w (ps ++ qs) old new
so_far_more all ps qs old new other h = absurd (other refl)
so_far_more part ps qs old new other h = front_more old.said ps qs old.asked new.asked h
so_far_more broken ps qs old new other h = failed_more old.said ps qs old.asked new.asked old.faults new.faults h

-- a call that broke off at its questions broke off at these and any more
pub hears_more :
    {J T E : Type 0} (says : J → Question → Verdict) (times faults : J → ℕ) (heard : E → Heard) (ps qs : List Question)
    (old new : Vec J Global) (e : E)
    → heard e ≢ all
    → HearsPanel {T = T} says times faults heard (AsksThese ps) old new (Err e)
    → HearsPanel {T = T} says times faults heard (AsksThese (ps ++ qs)) old new (Err e)
hears_more {J} {T} {E} says times faults heard ps qs old new e other h = record {
  stays = h.stays;
  len = h.len;
  cause = h.cause;
  asked = λ rs is. subst (λ (xs : List Question). HasHeardSoFar (heard e) xs (judges_of says times faults old.items) (judges_of says times faults new.items)) (sym is)
      (so_far_more (heard e) ps qs (judges_of says times faults old.items) (judges_of says times faults new.items) other (h.asked ps refl));
  unasked = λ none. h.unasked (append_none ps qs none).0;
}

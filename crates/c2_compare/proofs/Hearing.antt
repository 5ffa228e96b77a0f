-- What judges hear in a comparison, call by call.
use Rattle.c2_validate.proofs.TheLaws.{one_check_answer}
use Rattle.c2_compare_spec.proofs.TheLaws.{accepted_is_valid_accepted}
use Rattle.std.proofs.Common.{◌≡◌, ◌≢◌, inl, inr, ℕ, false, List, [], ◌++◌, append-nil, map, Option, Some, Result, Ok, Err, IfErr, refl, sym, ap, ◌∙◌, subst}
use Rattle.std.specs.Prelude.{⊤}
use Rattle.std.specs.declared.alloc.Global.{Global}
use Rattle.std.specs.declared.vec.Vec.{Vec}
use Rattle.c2_base.specs.Source.{IsKnownWhereDue}
use Rattle.c2_base.specs.declared.values.Question.{Question}
use Rattle.c2_spec.specs.Judges.Panel.{Judges, judges_of, panel_says}
use Rattle.c2_spec.specs.declared.digest.Alg.{Alg}
use Rattle.c2_spec.specs.declared.panel.Verdict.{Verdict}
use Rattle.c2_rules.specs.Asking.{HasHeard, HasHeardSoFar, HaveAsked, HearsPanel, IsJudgeCause, broken}
use Rattle.c2_rules.specs.CheckList.{StoreReading}
use Rattle.c2_rules.specs.Validated.{CheckAsks}
use Rattle.c2_rules.specs.declared.answer.Answer.{Answer}
use Rattle.c2_rules.specs.declared.answer.Answer.TheVariants as answer
use Rattle.c2_rules.proofs.AskingLemmas.{failed_more, front_more, stays}
use Rattle.c2_calls_spec.proofs.PanelLemmas.{append_none, asked_none, cause_next, heard_next, hears_early, hears_error, hears_later, leaves_next}
use Rattle.c2_opening.specs.Opened.{IsOpeningCause}
use Rattle.c2_opening.specs.declared.error.ValidateError.{ValidateError}
use Rattle.c2_opening.specs.declared.error.ValidateError.TheVariants as error
use Rattle.c2_compare_spec.specs.Accepted.{IsAccepted, summary_in}
use Rattle.c2_compare_spec.specs.Comparison.{CompareAsks, IsRefusedFirst, SecondAsks, is_valid}
use Rattle.c2_compare_spec.specs.declared.compared.Compared.{Compared}
use Rattle.c2_compare_spec.specs.declared.compared.Side.{Side}
use Rattle.c2_compare_spec.specs.declared.compared.Side.TheVariants.{First}
use Rattle.c2_compare_evidence.specs.Causes.{IsUnjudged}
use Rattle.c2_compare_evidence.specs.declared.error.CompareError.{CompareError}
use Rattle.c2_compare_evidence.specs.declared.error.CompareError.TheVariants.{ReadFault, WriteFault, JudgeFault, NoMemory}
use Rattle.c2_validate.specs.Checked.{validate_heard}
use Rattle.c2_compare.specs.Accepting.{AsksChecked, IsEnded, IsUnaccepted, IsUnopened, IsUnread, ended_as, ended_heard, fault_of}
use Rattle.c2_compare.specs.Comparing.{AsksCompared, IsNotAccepted, compare_heard}
use Rattle.c2_compare.specs.declared.accepting.Unaccepted.{Unaccepted}
use Rattle.c2_compare.specs.declared.accepting.Unaccepted.TheVariants.{Refused, Failed}
use Rattle.c2_compare.proofs.Files.{asks_nobody, not_refused}

-- ---- questions of two files

-- nothing is asked of the second where the first isn't accepted
second_none :
    (hash : Alg → List ℕ → List ℕ) (said : Question → Verdict) (second : List ℕ) (a b : Answer) (qs : List Question)
    → a ≡ b → is_valid b ≡ false
    → SecondAsks hash said second a qs → qs ≡ []
second_none hash said second a b qs same invalid h = by b invalid (subst (λ (x : Answer). SecondAsks hash said second x qs) same h)
  where
    by : (c : Answer) → is_valid c ≡ false → SecondAsks hash said second c qs → qs ≡ []
    by (answer.Valid summary) no' k = absurd (cc (no'))
    by (answer.Failing failing) no' k = k
    by (answer.Refused reason number) no' k = k
    by answer.NoStore no' k = k

-- the first file's questions are all where its check refuses it
all_first :
    (hash : Alg → List ℕ → List ℕ) (said : Question → Verdict) (file second : List ℕ) (a : Answer) (qs : List Question)
    → IsRefusedFirst hash said file a
    → (k : CompareAsks hash said file second qs) → qs ≡ k.of_first
all_first hash said file second a qs is k =
    k.are
    ∙ ap (λ (x : List Question). k.of_first ++ x)
    (second_none hash said second k.answer a k.of_second (one_check_answer hash said file k.answer a k.is_answer is.is_answer) is.invalid k.second_asks)
    ∙ append-nil k.of_first

-- all of the second's questions are asked where the first is accepted
second_all : (hash : Alg → List ℕ → List ℕ) (said : Question → Verdict) (file second : List ℕ) (s : StoreReading)
    → IsAccepted hash said file s → (qs : List Question)
    → (k : CompareAsks hash said file second qs) → CheckAsks hash said second k.of_second
second_all hash said file second s h qs k =
    subst (λ (x : Answer). SecondAsks hash said second x k.of_second)
    (one_check_answer hash said file k.answer (answer.Valid (summary_in file s h.opened)) k.is_answer (accepted_is_valid_accepted hash said file s h))
    k.second_asks

-- the bytes of a second source that is due are known
pub told_where_due : (hash : Alg → List ℕ → List ℕ) (said : Question → Verdict) (file : List ℕ) (s : StoreReading)
    → IsAccepted hash said file s → (known : Option (List ℕ)) (second : List ℕ)
    → IsKnownWhereDue known (IsNotAccepted hash said file) second → known ≡ Some second
told_where_due hash said file s h known second (inl told) = told
told_where_due hash said file s h known second (inr refused) = not_refused hash said file s h refused.0 refused.1

-- what the first file's check asks is asked first
first_asked :
    (hash : Alg → List ℕ → List ℕ) (first second : Option (List ℕ)) (said : Question → Verdict) (qs : List Question)
    → (k : AsksCompared hash first second said qs) → AsksChecked hash first said k.asks.of_first
first_asked hash first second said qs k = record { file = k.file; is_file = k.is_file; asks = k.asks.first_asks }

-- nothing is, where the comparison asks nothing
first_unasked : (hash : Alg → List ℕ → List ℕ) (first second : Option (List ℕ)) (said : Question → Verdict)
    → AsksCompared hash first second said [] → AsksChecked hash first said []
first_unasked hash first second said k =
    subst (AsksChecked hash first said) (sym (append_none k.asks.of_first k.asks.of_second k.asks.are).0)
    (first_asked hash first second said [] k)

-- ---- how far a call came

-- a check's error says as much as the comparison's
heard_as : (e : ValidateError) → validate_heard e ≡ compare_heard (fault_of e)
heard_as error.ReadFault = refl
heard_as error.JudgeFault = refl
heard_as error.NoMemory = refl

-- a check's error came before its last answer, so no question after it was asked
heard_more : (e : ValidateError) (qs rs : List Question) (old new : Judges)
    → HasHeardSoFar (validate_heard e) qs old new → HasHeardSoFar (compare_heard (fault_of e)) (qs ++ rs) old new
heard_more error.ReadFault qs rs old new h = front_more old.said qs rs old.asked new.asked h
heard_more error.JudgeFault qs rs old new h = failed_more old.said qs rs old.asked new.asked old.faults new.faults h
heard_more error.NoMemory qs rs old new h = front_more old.said qs rs old.asked new.asked h

-- a call that asks nobody breaks off at no judge
unbroken : {T : Type 0} (r : Result T CompareError) → IfErr r IsUnjudged → IfErr r (λ e. compare_heard e ≢ broken)
unbroken (Ok x) h = tt
unbroken (Err ReadFault) h = λ is. cc (is)
unbroken (Err WriteFault) h = λ is. cc (is)
unbroken (Err JudgeFault) h = absurd h
unbroken (Err NoMemory) h = λ is. cc (is)

-- ---- calls that ask nobody

-- an error of a call that asks nobody
abbrev pub IsUnasked : Unaccepted → Type 0
IsUnasked (Refused a) = ⊤
IsUnasked (Failed error.ReadFault) = ⊤
IsUnasked (Failed error.JudgeFault) = ⊥
IsUnasked (Failed error.NoMemory) = ⊤

-- as when a store is looked for
pub unasked_found : (before now : ℕ) (u : Unaccepted) → IsEnded IsOpeningCause before now u → IsUnasked u
unasked_found before now (Refused a) h = tt
unasked_found before now (Failed error.ReadFault) h = tt
unasked_found before now (Failed error.JudgeFault) h = h
unasked_found before now (Failed error.NoMemory) h = tt

-- nobody was asked where a store isn't read
pub unasked_read : (u : Unaccepted) → IsUnread u → IsUnasked u
unasked_read (Refused a) h = tt
unasked_read (Failed e) h = subst (λ (x : ValidateError). IsUnasked (Failed x)) (sym h) tt

-- ---- a panel

module _ {J : Type 0} {says : J → Question → Verdict} {times faults : J → ℕ} where
  -- nobody is asked of a file that is opened as no store
  pub hears_unopened : {T : Type 0} (hash : Alg → List ℕ → List ℕ) (known : Option (List ℕ)) (v : Vec J Global)
      (u : Unaccepted) → IsUnasked u
      → ((file : List ℕ) → known ≡ Some file → IsUnopened file u)
      → HearsPanel {T = T} says times faults ended_heard (AsksChecked hash known) v v (Err u)
  hears_unopened {T} hash known v (Refused a) quiet is = record {
    stays = stays {T = T} (judges_of says times faults v.items) (Err (Refused a));
    len = refl;
    cause = refl;
    asked =
        λ qs k. asked_none (map says v.items) qs (map times v.items) (asks_nobody hash (panel_says (map says v.items)) k.file a qs (is k.file k.is_file) k.asks);
    unasked = λ none. refl;
  }
  hears_unopened {T} hash known v (Failed error.ReadFault) quiet is =
      hears_early {T = T} says times faults ended_heard (AsksChecked hash known) v (Failed error.ReadFault) refl
  hears_unopened {T} hash known v (Failed error.JudgeFault) quiet is = absurd quiet
  hears_unopened {T} hash known v (Failed error.NoMemory) quiet is =
      hears_early {T = T} says times faults ended_heard (AsksChecked hash known) v (Failed error.NoMemory) refl

  -- ---- the comparison ends before it writes

  -- at the first file
  pub hears_first :
      {T : Type 0} (hash : Alg → List ℕ → List ℕ) (first second : Option (List ℕ)) (old new : Vec J Global)
      (u : Unaccepted) (r : Result Compared CompareError)
      → r ≡ ended_as First u
      → ((file : List ℕ) → first ≡ Some file → IsUnaccepted hash (panel_says (map says old.items)) file u)
      → HearsPanel {T = T} says times faults ended_heard (AsksChecked hash first) old new (Err u)
      → HearsPanel says times faults compare_heard (AsksCompared hash first second) old new r
  hears_first {T} hash first second old new u r same is h = subst (HearsPanel says times faults compare_heard (AsksCompared hash first second) old new) (sym same) (by u is h)
    where
      by : (u : Unaccepted)
          → ((file : List ℕ) → first ≡ Some file → IsUnaccepted hash (panel_says (map says old.items)) file u)
          → HearsPanel {T = T} says times faults ended_heard (AsksChecked hash first) old new (Err u)
          → HearsPanel says times faults compare_heard (AsksCompared hash first second) old new (ended_as First u)
      by (Refused a) is h = record {
        stays =
            record
            { same = h.stays.same; asked_later = h.stays.asked_later; faults_later = h.stays.faults_later; ok = h.cause };
        len = h.len;
        cause = tt;
        asked = λ qs k. subst (λ (x : List Question). HaveAsked (map says old.items) x (map times old.items) (map times new.items)) (sym (all_first hash (panel_says (map says old.items)) k.file k.other a qs (is k.file k.is_file) k.asks))
            (h.asked k.asks.of_first (first_asked hash first second (panel_says (map says old.items)) qs k));
        unasked = λ k. h.unasked (first_unasked hash first second (panel_says (map says old.items)) k);
      }
      by (Failed e) is h = record {
        stays =
            record
            { same = h.stays.same; asked_later = h.stays.asked_later; faults_later = h.stays.faults_later; ok = tt };
        len = h.len;
        cause = subst (IsJudgeCause (map faults old.items) (map faults new.items)) (heard_as e) h.cause;
        asked = λ qs k. subst (λ (x : List Question). HasHeardSoFar (compare_heard (fault_of e)) x (judges_of says times faults old.items) (judges_of says times faults new.items)) (sym k.asks.are)
            (heard_more e k.asks.of_first k.asks.of_second (judges_of says times faults old.items) (judges_of says times faults new.items) (h.asked k.asks.of_first (first_asked hash first second (panel_says (map says old.items)) qs k)));
        unasked = λ k. h.unasked (first_unasked hash first second (panel_says (map says old.items)) k);
      }

  -- at the second
  pub hears_second :
      {T : Type 0} {Asks : (Question → Verdict) → List Question → Type 0} (side : Side) (old new : Vec J Global)
      (u : Unaccepted) (r : Result Compared CompareError)
      → r ≡ ended_as side u
      → HearsPanel {T = T} says times faults ended_heard Asks old new (Err u)
      → HearsPanel says times faults compare_heard Asks old new r
  hears_second {T} {Asks} side old new u r same h = subst (HearsPanel says times faults compare_heard Asks old new) (sym same) (by u h)
    where
      by : (u : Unaccepted) → HearsPanel {T = T} says times faults ended_heard Asks old new (Err u)
          → HearsPanel says times faults compare_heard Asks old new (ended_as side u)
      by (Refused a) h = record {
        stays =
            record
            { same = h.stays.same; asked_later = h.stays.asked_later; faults_later = h.stays.faults_later; ok = h.cause };
        len = h.len;
        cause = tt;
        asked = h.asked;
        unasked = h.unasked;
      }
      by (Failed e) h =
          hears_error {T = T} {U = Compared} says times faults ended_heard compare_heard Asks Asks old new (Failed e)
          (fault_of e) (heard_as e) (λ qs asks. asks) h

  -- for want of memory
  pub hears_memory : {Asks : (Question → Verdict) → List Question → Type 0} (v : Vec J Global)
      → HearsPanel {T = Compared} says times faults compare_heard Asks v v (Err NoMemory)
  hears_memory {Asks} v = hears_early {T = Compared} says times faults compare_heard Asks v NoMemory refl

  -- ---- it goes on

  -- both files are accepted, and nobody is asked any more
  pub hears_on :
      {T : Type 0} {Asks : (Question → Verdict) → List Question → Type 0} (old new : Vec J Global) (x : T)
      (r : Result Compared CompareError)
      → IfErr r IsUnjudged
      → HearsPanel {T = T} says times faults ended_heard Asks old new (Ok x)
      → HearsPanel says times faults compare_heard Asks old new r
  hears_on {T} {Asks} old new x r quiet h =
      hears_later says times faults ended_heard compare_heard Asks Asks old new x r (unbroken r quiet) (λ qs asks. asks)
      h

  module _ {T : Type 0} (hash : Alg → List ℕ → List ℕ) (first second : Option (List ℕ)) (old between new : Vec J Global) (x : T)
      (is : (file : List ℕ) → first ≡ Some file → (s : StoreReading) × IsAccepted hash (panel_says (map says old.items)) file s) (h : HearsPanel {T = T} says times faults ended_heard (AsksChecked hash first) old between (Ok x)) where
    -- what the comparison asks behind the first file's questions is what the second's check asks
    second_asked : (qs : List Question) → (k : AsksCompared hash first second (panel_says (map says old.items)) qs)
        → AsksChecked hash second (panel_says (map says between.items)) k.asks.of_second
    second_asked qs k =
        let s = is k.file k.is_file in
        record {
          file = k.other;
          is_file = told_where_due hash (panel_says (map says old.items)) k.file s.0 s.1 second k.other k.is_other;
          asks =
              subst (λ (said : List (Question → Verdict)). CheckAsks hash (panel_says said) k.other k.asks.of_second)
              (sym h.stays.same)
              (second_all hash (panel_says (map says old.items)) k.file k.other s.0 s.1 qs k.asks);
        }

    -- the first file is accepted, and then the second is looked at
    pub hears_both : (r : Result Compared CompareError)
        → HearsPanel says times faults compare_heard (AsksChecked hash second) between new r
        → HearsPanel says times faults compare_heard (AsksCompared hash first second) old new r
    hears_both r j = record {
      stays = leaves_next says times faults old.items between.items new.items x r h.stays j.stays;
      len = j.len ∙ h.len;
      cause =
          cause_next compare_heard (map faults old.items) (map faults between.items) (map faults new.items) r h.stays.ok
          j.cause;
      asked = λ qs k. subst (λ (all : List Question). HasHeard compare_heard all (judges_of says times faults old.items) (judges_of says times faults new.items) r) (sym k.asks.are)
          (heard_next compare_heard k.asks.of_first k.asks.of_second (judges_of says times faults old.items)
          (judges_of says times faults between.items) (judges_of says times faults new.items) r h.stays.same h.stays.ok
          (h.asked k.asks.of_first (first_asked hash first second (panel_says (map says old.items)) qs k))
          (j.asked k.asks.of_second (second_asked qs k)));
      unasked =
          λ k. j.unasked (subst (AsksChecked hash second (panel_says (map says between.items))) (sym (append_none k.asks.of_first k.asks.of_second k.asks.are).1) (second_asked [] k))
          ∙ h.unasked (first_unasked hash first second (panel_says (map says old.items)) k);
    }

  -- ---- sources that were read before

  -- a first source still has its bytes
  pub hears_of_first :
      (hash : Alg → List ℕ → List ℕ) (first before second : Option (List ℕ)) (old new : Vec J Global)
      (r : Result Compared CompareError)
      → first ≡ before
      → HearsPanel says times faults compare_heard (AsksCompared hash first second) old new r
      → HearsPanel says times faults compare_heard (AsksCompared hash before second) old new r
  hears_of_first hash first before second old new r same h =
      subst
      (λ (known : Option (List ℕ)). HearsPanel says times faults compare_heard (AsksCompared hash known second) old new r)
      same h

  -- the questions of a second source that still has its bytes are those of the bytes before
  pub hears_of_second :
      (hash : Alg → List ℕ → List ℕ) (second before : Option (List ℕ)) (old new : Vec J Global)
      (r : Result Compared CompareError)
      → second ≡ before
      → HearsPanel says times faults compare_heard (AsksChecked hash second) old new r
      → HearsPanel says times faults compare_heard (AsksChecked hash before) old new r
  hears_of_second hash second before old new r same h =
      subst (λ (known : Option (List ℕ)). HearsPanel says times faults compare_heard (AsksChecked hash known) old new r)
      same h

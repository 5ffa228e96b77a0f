-- What is asked behind stages: what the value of each asks; one list where each stage comes to one thing; and a list where each
-- comes to something.
use Rattle.std.proofs.Common.{Err, List, Ok, Result, [], refl, subst, sym, ◌∙◌, ◌≡◌}
use Rattle.c2_lemmas.specs.Stages.{After, AskedBehind, AsksThen, Then}
use Rattle.c2_lemmas.proofs.Stages.{IsOne}

-- ---- behind one stage

-- what is asked behind a stage that passed is what its value asks
pub asks_behind : {A E Q : Type 0} (First : Result A E → Type 0) (Asks : A → List Q → Type 0) (a : A) (qs : List Q)
    → IsOne First → First (Ok a) → AsksThen First Asks qs → Asks a qs
asks_behind {A} {E} {Q} First Asks a qs one is h =
    subst (λ (r : Result A E). AskedBehind r Asks qs) (one h.first (Ok a) h.is_first is) h.asks

-- nothing is asked behind a stage that refuses
pub asks_none : {A E Q : Type 0} (First : Result A E → Type 0) (Asks : A → List Q → Type 0) (e : E) (qs : List Q)
    → IsOne First → First (Err e) → AsksThen First Asks qs → qs ≡ []
asks_none {A} {E} {Q} First Asks e qs one is h =
    subst (λ (r : Result A E). AskedBehind r Asks qs) (one h.first (Err e) h.is_first is) h.asks

-- ---- one list

-- there is one list of this
abbrev pub IsOneList : {Q : Type 0} → (List Q → Type 0) → Type 0
IsOneList {Q} Asks = (ps qs : List Q) → Asks ps → Asks qs → ps ≡ qs

-- what is asked behind one thing is one list
one_behind : {A E Q : Type 0} (First : Result A E → Type 0) (Asks : A → List Q → Type 0)
    → ((a : A) → First (Ok a) → IsOneList (Asks a)) → (first : Result A E) → First first
    → IsOneList (AskedBehind first Asks)
one_behind First Asks one (Ok a) is ps qs h k = one a is ps qs h k
one_behind First Asks one (Err e) is ps qs h k = h ∙ sym k

-- what is asked behind a stage that has one outcome is one list
pub one_asked : {A E Q : Type 0} (First : Result A E → Type 0) (Asks : A → List Q → Type 0) → IsOne First
    → ((a : A) → First (Ok a) → IsOneList (Asks a)) → IsOneList (AsksThen First Asks)
one_asked {A} {E} {Q} First Asks first one ps qs h k =
    one_behind First Asks one k.first k.is_first ps qs
    (subst (λ (r : Result A E). AskedBehind r Asks ps) (first h.first k.first h.is_first k.is_first) h.asks)
    k.asks

-- ---- a list

-- there is a list of this
abbrev pub SomeList : {Q : Type 0} → (List Q → Type 0) → Type 0
SomeList {Q} Asks = (qs : List Q) × Asks qs

-- where a stage comes to something, with more behind it, a list is asked behind it if one is behind each thing
pub some_asked : {A B E Q : Type 0} (First : Result A E → Type 0) (Next : A → Result B E → Type 0)
    (Asks : A → List Q → Type 0) (r : Result B E)
    → Then First Next r → ((a : A) (x : Result B E) → First (Ok a) → Next a x → SomeList (Asks a))
    → SomeList (AsksThen First Asks)
some_asked {A} {B} {E} {Q} First Next Asks r h over = by h.first h.is_first h.next
  where
    by : (first : Result A E) → First first → After Next first r → SomeList (AsksThen First Asks)
    by (Ok a) is next = let some = over a r is next in (some.0, record { first = Ok a; is_first = is; asks = some.1 })
    by (Err e) is next = ([], record { first = Err e; is_first = is; asks = refl })

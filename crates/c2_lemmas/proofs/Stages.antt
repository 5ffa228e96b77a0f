-- Stages, which pass on what is read, or what refuses it under a name of their own; and stages one after the other.
use Rattle.std.proofs.Common.{Err, List, None, Ok, Option, Result, Some, [], ap, refl, subst, sym, ◌∙◌, ◌∷◌, ◌≡◌}
use Rattle.std.specs.Result.{result_map_both}
use Rattle.c2_lemmas.specs.Stages.{After, Then, Unless, UnlessSome}

-- ---- what is read

-- a stage comes to one thing where one thing is read
pub one_stage : {X Y : Type 0} (f : X → Y) (Is : X → Type 0) → ((a b : X) → Is a → Is b → a ≡ b) → (r s : Y)
    → ((x : X) × Is x × (r ≡ f x)) → ((x : X) × Is x × (s ≡ f x)) → r ≡ s
one_stage f Is one r s h k = h.2 ∙ ap f (one h.0 k.0 h.1 k.1) ∙ sym k.2

-- a stage comes to something where something is read
pub some_stage : {X Y : Type 0} (f : X → Y) (Is : X → Type 0) → ((x : X) × Is x)
    → (r : Y) × ((x : X) × Is x × (r ≡ f x))
some_stage f Is some = (f some.0, (some.0, some.1, refl))

-- the value that a stage comes to was read
pub stage_value : {A E F : Type 0} (name : F → E) (Is : Result A F → Type 0) (a : A)
    → ((r : Result A F) × Is r × (Ok a ≡ result_map_both (λ (x : A). x) name r)) → Is (Ok a)
stage_value {A} {E} {F} name Is a h = by h.0 h.1 h.2
  where
    by : (r : Result A F) → Is r → Ok a ≡ result_map_both (λ (x : A). x) name r → Is (Ok a)
    by (Ok x) is e = let same : x ≡ a = cc (e) in subst (λ (y : A). Is (Ok y)) same is
    by (Err f) is e = absurd (cc (e))

-- what a stage refuses was refused as it was read
pub stage_error : {A E F : Type 0} (name : F → E) (Is : Result A F → Type 0) (e : E)
    → ((r : Result A F) × Is r × (Err e ≡ result_map_both (λ (x : A). x) name r))
    → (f : F) × Is (Err f) × (e ≡ name f)
stage_error {A} {E} {F} name Is e h = by h.0 h.1 h.2
  where
    by : (r : Result A F) → Is r → Err e ≡ result_map_both (λ (x : A). x) name r
        → (f : F) × Is (Err f) × (e ≡ name f)
    by (Ok a) is q = absurd (cc (q))
    by (Err f) is q = (f, is, cc (q))

-- a stage refuses nothing where nothing that is read is refused
pub stage_never : {A E F : Type 0} (name : F → E) (Is : Result A F → Type 0) → ((f : F) → Is (Err f) → ⊥) → (e : E)
    → ((r : Result A F) × Is r × (Err e ≡ result_map_both (λ (x : A). x) name r)) → ⊥
stage_never {A} {E} {F} name Is never e h = by h.0 h.1 h.2
  where
    by : (r : Result A F) → Is r → Err e ≡ result_map_both (λ (x : A). x) name r → ⊥
    by (Ok a) is q = cc (q)
    by (Err f) is q = never f is

-- ---- one thing

-- what comes to one thing
abbrev pub IsOne : {A E : Type 0} → (Result A E → Type 0) → Type 0
IsOne {A} {E} Is = (r s : Result A E) → Is r → Is s → r ≡ s

-- what comes after one thing is one
one_after : {A B E : Type 0} (Next : A → Result B E → Type 0) → ((a : A) → IsOne (Next a))
    → (first : Result A E) (r s : Result B E) → After Next first r → After Next first s → r ≡ s
one_after Next one (Ok a) r s h k = one a r s h k
one_after Next one (Err e) r s h k = h ∙ sym k

-- two stages come to one thing where each does
pub one_then : {A B E : Type 0} (First : Result A E → Type 0) (Next : A → Result B E → Type 0) → IsOne First
    → ((a : A) → IsOne (Next a)) → IsOne (Then First Next)
one_then {A} {B} {E} First Next first next r s h k =
    one_after Next next k.first r s
    (subst (λ (a : Result A E). After Next a r) (first h.first k.first h.is_first k.is_first) h.next)
    k.next

-- what is refused first, and what comes where nothing is, come to one thing
pub one_unless : {A E : Type 0} (es : List E) (Next : Result A E → Type 0) → IsOne Next → IsOne (Unless es Next)
one_unless [] Next one r s h k = one r s h k
one_unless (e ∷ es) Next one r s h k = h ∙ sym k

-- tests, and what comes after them, come to one thing
pub one_unless_some : {A E : Type 0} (o : Option E) (Next : Result A E → Type 0) → IsOne Next
    → IsOne (UnlessSome o Next)
one_unless_some None Next one r s h k = one r s h k
one_unless_some (Some e) Next one r s h k = h ∙ sym k

-- a value is one
pub one_value : {A E : Type 0} (a : A) → IsOne (λ (r : Result A E). r ≡ Ok a)
one_value a r s h k = h ∙ sym k

-- ---- something

-- something that a stage comes to
abbrev pub Something : {A E : Type 0} → (Result A E → Type 0) → Type 0
Something {A} {E} Is = (r : Result A E) × Is r

-- two stages come to something where the first does, and the second after it
pub some_then : {A B E : Type 0} (First : Result A E → Type 0) (Next : A → Result B E → Type 0) → Something First
    → ((a : A) → First (Ok a) → Something (Next a)) → Something (Then First Next)
some_then {A} {B} {E} First Next some next = by some.0 some.1
  where
    by : (first : Result A E) → First first → Something (Then First Next)
    by (Ok a) h = let n = next a h in (n.0, record { first = Ok a; is_first = h; next = n.1 })
    by (Err e) h = (Err e, record { first = Err e; is_first = h; next = refl })

-- the first of what is refused, and else what comes where nothing is
pub some_unless : {A E : Type 0} (es : List E) (Next : Result A E → Type 0) → (es ≡ [] → Something Next)
    → Something (Unless es Next)
some_unless [] Next some = some refl
some_unless (e ∷ es) Next some = (Err e, refl)

-- tests, and what comes after them where none fails
pub some_unless_some : {A E : Type 0} (o : Option E) (Next : Result A E → Type 0) → (o ≡ None → Something Next)
    → Something (UnlessSome o Next)
some_unless_some None Next some = some refl
some_unless_some (Some e) Next some = (Err e, refl)

-- ---- what was passed

-- the first stage passed, where both did
pub record Passed {A B E : Type 0} (First : Result A E → Type 0) (Next : A → Result B E → Type 0) (b : B) : Type 0 where
  pub value : A
  pub first : First (Ok value)
  pub next : Next value (Ok b)

-- two stages that come to a value both passed
pub passed : {A B E : Type 0} (First : Result A E → Type 0) (Next : A → Result B E → Type 0) (b : B)
    → Then First Next (Ok b) → Passed First Next b
passed {A} {B} {E} First Next b h = by h.first h.is_first h.next
  where
    by : (first : Result A E) → First first → After Next first (Ok b) → Passed First Next b
    by (Ok a) f n = record { value = a; first = f; next = n }
    by (Err e) f n = absurd (cc (n))

-- where a list of what is refused comes to a value, it is empty
pub unless_passed : {A E : Type 0} (es : List E) (Next : Result A E → Type 0) (a : A) → Unless es Next (Ok a)
    → (es ≡ []) × Next (Ok a)
unless_passed [] Next a h = (refl, h)
unless_passed (e ∷ es) Next a h = absurd (cc (h))

-- tests before a value all passed
pub unless_some_passed : {A E : Type 0} (o : Option E) (Next : Result A E → Type 0) (a : A)
    → UnlessSome o Next (Ok a) → (o ≡ None) × Next (Ok a)
unless_some_passed None Next a h = (refl, h)
unless_some_passed (Some e) Next a h = absurd (cc (h))

-- ---- what comes of stages

-- what the first stage refuses, both do
pub then_first : {A B E : Type 0} (First : Result A E → Type 0) (Next : A → Result B E → Type 0) (e : E)
    → First (Err e) → Then First Next (Err e)
then_first First Next e h = record { first = Err e; is_first = h; next = refl }

-- what comes behind a stage that passed
pub then_next : {A B E : Type 0} (First : Result A E → Type 0) (Next : A → Result B E → Type 0) (a : A)
    (r : Result B E)
    → First (Ok a) → Next a r → Then First Next r
then_next First Next a r h k = record { first = Ok a; is_first = h; next = k }

-- the first of a list is what refuses
pub unless_first : {A E : Type 0} (es : List E) (Next : Result A E → Type 0) (refusal : E) (others : List E)
    → es ≡ refusal ∷ others → Unless es Next (Err refusal)
unless_first {A} {E} es Next refusal others is =
    subst (λ (xs : List E). Unless {A = A} {E = E} xs Next (Err refusal)) (sym is) refl

-- what comes behind a list of what is refused, which is empty
pub unless_passes : {A E : Type 0} (es : List E) (Next : Result A E → Type 0) (r : Result A E) → es ≡ [] → Next r
    → Unless es Next r
unless_passes {A} {E} es Next r h n = subst (λ (xs : List E). Unless {A = A} {E = E} xs Next r) (sym h) n

-- what a test refuses
pub unless_some_fails : {A E : Type 0} (o : Option E) (Next : Result A E → Type 0) (e : E) → o ≡ Some e
    → UnlessSome o Next (Err e)
unless_some_fails {A} {E} o Next e h =
    subst (λ (p : Option E). UnlessSome {A = A} {E = E} p Next (Err e)) (sym h) refl

-- what comes behind tests that pass is the outcome
pub unless_some_passes : {A E : Type 0} (o : Option E) (Next : Result A E → Type 0) (r : Result A E) → o ≡ None
    → Next r → UnlessSome o Next r
unless_some_passes {A} {E} o Next r h n =
    subst (λ (p : Option E). UnlessSome {A = A} {E = E} p Next r) (sym h) n

-- ---- no refusal

-- what comes to no refusal
abbrev pub NeverRefuses : {A E : Type 0} → (Result A E → Type 0) → Type 0
NeverRefuses {A} {E} Is = (e : E) → Is (Err e) → ⊥

-- two stages refuse nothing where neither does
pub then_never : {A B E : Type 0} (First : Result A E → Type 0) (Next : A → Result B E → Type 0) → NeverRefuses First
    → ((a : A) → First (Ok a) → NeverRefuses (Next a)) → NeverRefuses (Then First Next)
then_never {A} {B} {E} First Next first next e h = by h.first h.is_first h.next
  where
    by : (r : Result A E) → First r → After Next r (Err e) → ⊥
    by (Ok a) f n = next a f e n
    by (Err x) f n = first x f

-- an empty list refuses nothing, where what comes behind it doesn't
pub unless_never : {A E : Type 0} (es : List E) (Next : Result A E → Type 0) → es ≡ [] → NeverRefuses Next
    → NeverRefuses (Unless es Next)
unless_never {A} {E} es Next none next e h =
    next e (subst (λ (xs : List E). Unless {A = A} {E = E} xs Next (Err e)) none h)

-- tests that pass refuse nothing, where what comes behind them doesn't
pub unless_some_never : {A E : Type 0} (o : Option E) (Next : Result A E → Type 0) → o ≡ None → NeverRefuses Next
    → NeverRefuses (UnlessSome o Next)
unless_some_never {A} {E} o Next none next e h =
    next e (subst (λ (p : Option E). UnlessSome {A = A} {E = E} p Next (Err e)) none h)

-- a value is no refusal
pub value_never : {A E : Type 0} (a : A) → NeverRefuses (λ (r : Result A E). r ≡ Ok a)
value_never a e h = cc (h)

-- what comes to something, and refuses nothing, comes to a value
pub comes_out : {A E : Type 0} (Is : Result A E → Type 0) (r : Result A E) → Is r → NeverRefuses Is
    → (a : A) × Is (Ok a)
comes_out Is (Ok a) h never = (a, h)
comes_out Is (Err e) h never = absurd (never e h)

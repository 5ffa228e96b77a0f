-- Stages one after the other: each comes to a value or to a refusal, and what is refused stays refused.
use Rattle.std.specs.Prelude.{◌≡◌, List, [], ◌∷◌}
use Rattle.std.specs.declared.option.Option.{Option}
use Rattle.std.specs.declared.option.Option.TheVariants.{Some, None}
use Rattle.std.specs.declared.result.Result.{Result}
use Rattle.std.specs.declared.result.Result.TheVariants.{Ok, Err}

-- what comes after a stage: what was refused stays refused
abbrev pub After : {A B E : Type 0} → (A → Result B E → Type 0) → Result A E → Result B E → Type 0
After Next (Ok a) r = Next a r
After Next (Err e) r = r ≡ Err e

-- A stage comes to something, and what comes after it to this.
pub record Then {A B E : Type 0} (First : Result A E → Type 0) (Next : A → Result B E → Type 0) (r : Result B E) : Type 0 where
  pub first : Result A E
  pub is_first : First first
  pub next : After Next first r

-- what comes after a list of what is refused: the first of it is answered
abbrev pub Unless : {A E : Type 0} → List E → (Result A E → Type 0) → Result A E → Type 0
Unless [] Next r = Next r
Unless (e ∷ es) Next r = r ≡ Err e

-- what comes after tests: the first of them that fails refuses
abbrev pub UnlessSome : {A E : Type 0} → Option E → (Result A E → Type 0) → Result A E → Type 0
UnlessSome None Next r = Next r
UnlessSome (Some e) Next r = r ≡ Err e

-- ---- what is asked

-- nothing is asked behind a stage that refuses
abbrev pub AskedBehind : {A E Q : Type 0} → Result A E → (A → List Q → Type 0) → List Q → Type 0
AskedBehind (Ok a) Asks qs = Asks a qs
AskedBehind (Err e) Asks qs = qs ≡ []

-- A stage comes to something, and what is asked behind it is this.
pub record AsksThen {A E Q : Type 0} (First : Result A E → Type 0) (Asks : A → List Q → Type 0) (qs : List Q) : Type 0 where
  pub first : Result A E
  pub is_first : First first
  pub asks : AskedBehind first Asks qs

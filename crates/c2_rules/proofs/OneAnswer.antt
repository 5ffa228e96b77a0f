-- What is read or opened in one way alone.
use Rattle.c2_rules.proofs.BindingLaws.{one_binding}
use Rattle.c2_rules.specs.Binding.{Binding, IsLabelledBinding, Media}
use Rattle.c2_rules.specs.Opened.{Opens}
use Rattle.c2_rules.specs.Readings.{IsMessageOf, Reading}
use Rattle.c2_rules.specs.Rules.{label_kind}
use Rattle.c2_spec.specs.C2pa.Sign1.{SignParts, SpellsMessage}
use Rattle.c2_spec.specs.Cbor.Item.{Item}
use Rattle.c2_spec.specs.Located.{Opening, absent, here, refused}
use Rattle.c2_spec.specs.declared.assertion.FieldError.{FieldError}
use Rattle.std.proofs.Common.{List, None, Option, Result, Some, ap, get_or, length, refl, slice_get, sym, ℕ, ◌<◌, ◌∙◌, ◌≡◌}
use Rattle.std.proofs.lemmas.Option.{slice_get-get_or}

-- what is read as a message has bytes that spell it
pub message_of : (o : Option (List ℕ)) (p : SignParts) → IsMessageOf o (Some p)
    → (bytes : List ℕ) × (o ≡ Some bytes) × SpellsMessage bytes p
message_of None p h = absurd h
message_of (Some bytes) p h = (bytes, refl, h)

-- a label and an item have one binding
pub one_labelled : (m : Media) (label : Option (List ℕ)) (item : Option Item) (a b : Option (Result Binding FieldError))
    → IsLabelledBinding m label item a → IsLabelledBinding m label item b → a ≡ b
one_labelled m None item a b p q = p ∙ sym q
one_labelled m (Some l) None a b p q = p ∙ sym q
one_labelled m (Some l) (Some v) None b p q = absurd p
one_labelled m (Some l) (Some v) (Some x) None p q = absurd q
one_labelled m (Some l) (Some v) (Some x) (Some y) p q = ap Some (one_binding m (label_kind l) v x y p q)

-- what was located is opened as one thing at most, if a store in its range is
pub one_opens : {A B : Type 0} (Is : ℕ → ℕ → A → Opening B → Type 0)
    → ((start len : ℕ) (a : A) (x y : Opening B) → Is start len a x → Is start len a y → x ≡ y)
    → (o : Opening A) (x y : Opening B) → Opens Is o x → Opens Is o y → x ≡ y
one_opens Is once (refused reason number) x y h k = h ∙ sym k
one_opens Is once absent x y h k = h ∙ sym k
one_opens Is once (here start len a) x y h k = once start len a x y h k

-- a manifest that is fetched by an index within the store is the one at that place
pub there : (rs all : List Reading) (i : ℕ) (r : Reading) → i < length rs → all ≡ rs → r ≡ get_or all i r
    → slice_get rs i ≡ Some r
there rs all i r lt same at =
    slice_get-get_or rs i r lt ∙ ap (λ (xs : List Reading). Some (get_or xs i r)) (sym same) ∙ ap Some (sym at)

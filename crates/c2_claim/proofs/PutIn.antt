-- What a map in which a value is put is found to have under a text.
use Rattle.std.proofs.Common.{◌≡◌, ℕ, bytes_eq, true, false, cond, List, Some, None, refl, sym, ap, ◌∙◌}
use Rattle.std.specs.Option.{option_and_then}
use Rattle.std.proofs.lemmas.Slice.Eq.{bytes_eq-Decides}
use Rattle.c2_spec.specs.Cbor.Item.{Item, dict, Pairs, no_pairs, pair}
use Rattle.c2_spec.specs.Cbor.Lookup.{is_text, first_value, field_of, unless_null}
use Rattle.c2_spec.proofs.TextKeys.{text_is}
use Rattle.c2_cbor.specs.Apart.{texts_list, with_value, with_texts}

-- the value that is put in is found
first_own : (key : List ℕ) (v : Item) (ps : Pairs) → first_value key (with_value key v ps) ≡ Some v
first_own key v no_pairs = ap (λ b. cond b (Some v) None) ((bytes_eq-Decides key key).1 refl)
first_own key v (pair k w ps) =
    elim (is_text key k) as (λ b. is_text key k ≡ b → first_value key (cond b (pair k v ps) (pair k w (with_value key v ps))) ≡ Some v) [
      | true ↦ λ f. ap (λ b. cond b (Some v) (first_value key ps)) f
      | false ↦ λ f. ap (λ b. cond b (Some w) (first_value key (with_value key v ps))) f ∙ first_own key v ps
    ] refl

-- a key is another text
not_other : (key name : List ℕ) (k : Item) → bytes_eq key name ≡ false → is_text key k ≡ true → is_text name k ≡ false
not_other key name k e f = ap (is_text name) (text_is key k f) ∙ e

-- what is found under another key
first_other : (key name : List ℕ) (v : Item) (ps : Pairs) → bytes_eq key name ≡ false
    → first_value name (with_value key v ps) ≡ first_value name ps
first_other key name v no_pairs e = ap (λ b. cond b (Some v) None) e
first_other key name v (pair k w ps) e =
    elim (is_text key k) as (λ b. is_text key k ≡ b → first_value name (cond b (pair k v ps) (pair k w (with_value key v ps))) ≡ first_value name (pair k w ps)) [
      | true ↦ λ f. let other = not_other key name k e f in ap (λ b. cond b (Some v) (first_value name ps)) other ∙ sym (ap (λ b. cond b (Some w) (first_value name ps)) other)
      | false ↦ λ _. ap (λ x. cond (is_text name k) (Some w) x) (first_other key name v ps e)
    ] refl

-- the field of texts that are held apart
pub field_own : (key : List ℕ) (ts : List (List ℕ)) (ps : Pairs)
    → field_of key (with_texts key (dict ps) (Some ts)) ≡ Some (texts_list ts)
field_own key ts ps = ap (option_and_then unless_null) (first_own key (texts_list ts) ps)

-- another field
pub field_other : (key name : List ℕ) (ts : List (List ℕ)) (ps : Pairs) → bytes_eq key name ≡ false
    → field_of name (with_texts key (dict ps) (Some ts)) ≡ field_of name (dict ps)
field_other key name ts ps e = ap (option_and_then unless_null) (first_other key name (texts_list ts) ps e)

-- Texts of a map that are held apart from its item: a list of texts under one key.
use Rattle.std.specs.Prelude.{◌≡◌, ℕ, List, [], ◌∷◌, map, Bool, true, false, Option, Some, None, Result, Ok, Err, if◌then◌else◌}
use Rattle.c2_spec.specs.Cbor.Item.{Item, text, list, dict, Pairs, no_pairs, pair}
use Rattle.c2_spec.specs.Cbor.View.{items_of}
use Rattle.c2_spec.specs.Cbor.Lookup.{is_text}
use Rattle.c2_cbor_spec.specs.declared.fault.Fault.{Fault}
use Rattle.c2_cbor_spec.specs.declared.fault.ReadError.{ReadError}
use Rattle.c2_cbor_spec.specs.Reading.{Fails}

-- the list of these texts
abbrev pub texts_list : List (List ℕ) → Item
texts_list ts = list (items_of (map text ts))

-- the pairs with this value under the first key that is this text; a pair of its own, the last, where there is no such key
abbrev pub with_value : List ℕ → Item → Pairs → Pairs
with_value key v no_pairs = pair (text key) v no_pairs
with_value key v (pair k w ps) = if is_text key k then pair k v ps else pair k w (with_value key v ps)

-- the item with the list of these texts under a key, where they are held apart from it
abbrev pub with_texts : List ℕ → Item → Option (List (List ℕ)) → Item
with_texts key v None = v
with_texts key (dict ps) (Some ts) = dict (with_value key (texts_list ts) ps)
with_texts key v (Some ts) = v

-- ---- for private clauses: while the pairs are read

-- a value: its texts where they are held apart
abbrev pub whole_value : Item → Option (List (List ℕ)) → Item
whole_value v None = v
whole_value v (Some ts) = texts_list ts

-- `with_value` of listed pairs
abbrev pub put_in : List ℕ → Item → List (Item × Item) → List (Item × Item)
put_in key v [] = (text key, v) ∷ []
put_in key v (p ∷ ps) = if is_text key p.0 then (p.0, v) ∷ ps else p ∷ put_in key v ps

-- `with_texts` of listed pairs
abbrev pub pairs_with : List ℕ → Option (List (List ℕ)) → List (Item × Item) → List (Item × Item)
pairs_with key None ps = ps
pairs_with key (Some ts) ps = put_in key (texts_list ts) ps

-- the texts under this key are to be held apart: it is the one, and none are yet
abbrev pub wants : Option (List (List ℕ)) → List ℕ → Item → Bool
wants None key k = is_text key k
wants (Some ts) key k = false

-- something is there only where it is wanted
abbrev pub OnlyIf : {A : Type 0} → Bool → Option A → Type 0
OnlyIf wanted None = Unit {0}
OnlyIf wanted (Some x) = wanted ≡ true

-- of reading that may give nothing: what is given, seen by view, is what reading gives, and so is a fault
abbrev pub GivesSome : {X Y : Type 0} → (X → Y) → Result (Option X) ReadError → Result Y Fault → Type 0
GivesSome view (Ok None) read = Unit {0}
GivesSome view (Ok (Some x)) read = read ≡ Ok (view x)
GivesSome view (Err e) read = Fails e read

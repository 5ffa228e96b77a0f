-- What the items of a list are, read from the first on.
use Rattle.std.proofs.Common.{◌≡◌, ℕ, ◌+◌, ◌<◌, ◌≤◌, List, [], ◌∷◌, ◌++◌, length, drop, get_or, Option, Some, None, refl, sym, ap, ◌∙◌, append_assoc, append-nil}
use Rattle.std.specs.Option.{option_map}
use Rattle.std.proofs.lemmas.List.{drop_all, drop_more}
use Rattle.serde_json.specs.Data.{Data}
use Rattle.serde_json.specs.View.{view, items_view}
use Rattle.serde_json.specs.declared.value.Value.{Value}
use Rattle.c2_spec.specs.Cbor.Fields.{joined}
use Rattle.c2_definition.specs.Json.{each_of}

-- what values are, where all are
abbrev pub all_of : {A : Type 0} → (Data → Option A) → List Value → Option (List A)
all_of read vs = each_of read (items_view vs)

-- these, and then others where they are there
abbrev pub and_then_all : {A : Type 0} → List A → Option (List A) → Option (List A)
and_then_all front rest = option_map (λ back. front ++ back) rest

-- from a place on, the value there and those after it
all_from : {A : Type 0} (read : Data → Option A) (vs : List Value) (i : ℕ) (v : Value) → i < length vs
    → v ≡ get_or vs i v
    → all_of read (drop i vs) ≡ joined (read (view v)) (all_of read (drop (i + 1) vs))
all_from read vs i v lt at =
    let rest = all_of read (drop (i + 1) vs) in
    ap (all_of read) (drop_more vs i v lt) ∙ ap (λ w. joined (read (view w)) rest) (sym at)

-- one more in front of the rest
onto : {A : Type 0} (front : List A) (x : A) (rest : Option (List A))
    → and_then_all front (joined (Some x) rest) ≡ and_then_all (front ++ x ∷ []) rest
onto front x None = refl
onto front x (Some back) = ap Some (sym (append_assoc front (x ∷ []) back))

-- one more is read
pub each_next : {A : Type 0} (read : Data → Option A) (vs : List Value) (i : ℕ) (v : Value) (x : A) (front more : List A)
    → i < length vs → v ≡ get_or vs i v
    → each_of read (items_view vs) ≡ and_then_all front (each_of read (items_view (drop i vs))) → Some x ≡ read (view v)
    → more ≡ front ++ x ∷ []
    → each_of read (items_view vs) ≡ and_then_all more (each_of read (items_view (drop (i + 1) vs)))
each_next read vs i v x front more lt at so_far is grown =
    let rest = all_of read (drop (i + 1) vs) in
    so_far ∙ ap (and_then_all front) (all_from read vs i v lt at)
    ∙ ap (λ o. and_then_all front (joined o rest)) (sym is) ∙ onto front x rest
    ∙ ap (λ xs. and_then_all xs rest) (sym grown)

-- one is none
pub each_stops : {A : Type 0} (read : Data → Option A) (vs : List Value) (i : ℕ) (v : Value) (front : List A)
    → i < length vs → v ≡ get_or vs i v
    → each_of read (items_view vs) ≡ and_then_all front (each_of read (items_view (drop i vs))) → None ≡ read (view v)
    → ◌≡◌ {A = Option (List A)} None (each_of read (items_view vs))
each_stops read vs i v front lt at so_far is =
    let rest = all_of read (drop (i + 1) vs) in
    sym
    (so_far ∙ ap (and_then_all front) (all_from read vs i v lt at) ∙ ap (λ o. and_then_all front (joined o rest)) (sym is))

-- all are read
pub each_done : {A : Type 0} (read : Data → Option A) (vs : List Value) (i : ℕ) (front : List A) → length vs ≤ i
    → each_of read (items_view vs) ≡ and_then_all front (each_of read (items_view (drop i vs)))
    → Some front ≡ each_of read (items_view vs)
each_done read vs i front end so_far =
    sym (so_far ∙ ap (λ ws. and_then_all front (all_of read ws)) (drop_all i vs end) ∙ ap Some (append-nil front))

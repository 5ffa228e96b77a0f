-- What each item of a list is, item by item: the steps of a loop that reads a list, for the crates that read one.
use Rattle.std.proofs.Common.{◌≡◌, ℕ, ◌+◌, ◌<◌, List, [], ◌∷◌, ◌++◌, length, drop, get_or, Option, Some, None, refl, sym, ap, ◌∙◌, append_assoc, append-nil}
use Rattle.std.specs.Option.{option_map}
use Rattle.std.proofs.lemmas.List.{drop_more}
use Rattle.std.proofs.Math.Seq.{drop-length}
use Rattle.c2_spec.specs.Cbor.Item.{Item}
use Rattle.c2_spec.specs.Cbor.View.{view, items_view}
use Rattle.c2_spec.specs.Cbor.Fields.{each_of, joined}
use Rattle.c2_spec.specs.declared.cbor.Cbor.{Cbor}

-- the rest after these, where it is there
abbrev pub after : {A : Type 0} → List A → Option (List A) → Option (List A)
after found rest = option_map (λ more. found ++ more) rest

-- an item and those after it
each_here : {A : Type 0} (read : Item → Option A) (vs : List Cbor) (i : ℕ) (v : Cbor) → i < length vs
    → v ≡ get_or vs i v
    → each_of read (items_view (drop i vs)) ≡ joined (read (view v)) (each_of read (items_view (drop (i + 1) vs)))
each_here read vs i v lt at =
    ap (λ ws. each_of read (items_view ws)) (drop_more vs i v lt)
    ∙ ap (λ w. joined (read (view w)) (each_of read (items_view (drop (i + 1) vs)))) (sym at)

-- one more value after those that were read
onto : {A : Type 0} (found : List A) (x : A) (rest : Option (List A))
    → after found (joined (Some x) rest) ≡ after (found ++ x ∷ []) rest
onto found x None = refl
onto found x (Some more) = ap Some (sym (append_assoc found (x ∷ []) more))

-- a turn of the loop that reads a value
pub each_next : {A : Type 0} (read : Item → Option A) (vs : List Cbor) (i : ℕ) (v : Cbor) (x : A) (found : List A)
    → i < length vs → v ≡ get_or vs i v
    → each_of read (items_view vs) ≡ after found (each_of read (items_view (drop i vs))) → Some x ≡ read (view v)
    → each_of read (items_view vs) ≡ after (found ++ x ∷ []) (each_of read (items_view (drop (i + 1) vs)))
each_next read vs i v x found lt at so_far here =
    so_far
    ∙ ap (after found)
    (each_here read vs i v lt at ∙ ap (λ r. joined r (each_of read (items_view (drop (i + 1) vs)))) (sym here))
    ∙ onto found x (each_of read (items_view (drop (i + 1) vs)))

-- a turn that reads none
pub each_none : {A : Type 0} (read : Item → Option A) (vs : List Cbor) (i : ℕ) (v : Cbor) (found : List A)
    → i < length vs → v ≡ get_or vs i v
    → each_of read (items_view vs) ≡ after found (each_of read (items_view (drop i vs))) → None ≡ read (view v)
    → ◌≡◌ {A = Option (List A)} None (each_of read (items_view vs))
each_none read vs i v found lt at so_far here =
    sym
    (so_far ∙ ap (after found) (each_here read vs i v lt at ∙ ap (λ r. joined r (each_of read (items_view (drop (i + 1) vs)))) (sym here)))

-- the end of the loop
pub each_all : {A : Type 0} (read : Item → Option A) (vs : List Cbor) (found : List A)
    → each_of read (items_view vs) ≡ after found (each_of read (items_view (drop (length vs) vs)))
    → Some found ≡ each_of read (items_view vs)
each_all read vs found so_far =
    sym (so_far ∙ ap (λ ws. after found (each_of read (items_view ws))) (drop-length vs) ∙ ap Some (append-nil found))

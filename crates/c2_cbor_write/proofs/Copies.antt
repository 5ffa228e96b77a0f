-- Copies: what each stands for, and lists of them.
use Rattle.std.proofs.Common.{◌≡◌, ℕ, ◌+◌, List, [], ◌∷◌, ◌++◌, map, take, Result, IfOk, Vec, Box, sym, ap, subst, ◌∙◌}
use Rattle.std.specs.declared.alloc.Global.{Global}
use Rattle.std.proofs.lemmas.List.{map_push}
use Rattle.c2_spec.specs.Cbor.Item.{Item, bytes, text, list, dict, tag}
use Rattle.c2_spec.specs.Cbor.View.{view, items_view, pairs_view}
use Rattle.c2_spec.specs.declared.cbor.Cbor.{Cbor, List as List', Bytes, Text, Map, Tag}
use Rattle.c2_cbor_spec.proofs.Views.{view-Map, view-Tag, view-text}
use Rattle.c2_spec.proofs.CborViews.{view-Bytes, view-List}

-- what may be given stands for this, and so for what is equal
pub stands : {E : Type 0} (r : Result Cbor E) (v w : Item) → v ≡ w → IfOk r (λ x. view x ≡ w)
    → IfOk r (λ x. view x ≡ v)
stands r v w e h = subst (λ u. IfOk r (λ x. view x ≡ u)) (sym e) h

-- the item that a byte string is
pub bytes_seen : (x : Cbor) (b s : List ℕ) → x ≡ Bytes b → s ≡ b → view x ≡ bytes s
bytes_seen x b s is e = ap view is ∙ view-Bytes b ∙ ap bytes (sym e)

-- the item that a text is
pub text_seen : (x : Cbor) (b s : List ℕ) → x ≡ Text b → s ≡ b → view x ≡ text s
text_seen x b s is e = ap view is ∙ view-text b ∙ ap text (sym e)

-- the item that a tagged one is, by that under the tag
pub tag_seen : (x : Cbor) (n : ℕ) (v : Box Cbor Global) (w u : Cbor) → x ≡ Tag n v → w ≡ v.value → view u ≡ view w
    → view x ≡ tag n (view u)
tag_seen x n v w u is e same = ap view is ∙ view-Tag n v ∙ ap (λ y. tag n (view y)) (sym e) ∙ ap (tag n) (sym same)

-- a list of the same items is the same
pub list_copied : (x : Cbor) (v w : Vec Cbor Global) (vs : List Cbor) → x ≡ List' v → vs ≡ v.items
    → items_view w.items ≡ items_view vs → view (List' w) ≡ view x
list_copied x v w vs is e h =
    view-List w ∙ ap list (h ∙ ap items_view e) ∙ sym (ap view is ∙ view-List v)

-- a map of the same pairs is the same
pub map_copied : (x : Cbor) (v w : Vec (Cbor × Cbor) Global) (ps : List (Cbor × Cbor)) → x ≡ Map v → ps ≡ v.items
    → pairs_view w.items ≡ pairs_view ps → view (Map w) ≡ view x
map_copied x v w ps is e h =
    view-Map w ∙ ap dict (h ∙ ap pairs_view e) ∙ sym (ap view is ∙ view-Map v)

-- one more copy
pub copied_on : {A B : Type 0} (f : A → B) (xs done later : List A) (i : ℕ) (x y : A)
    → take (i + 1) xs ≡ take i xs ++ x ∷ [] → later ≡ done ++ y ∷ [] → f y ≡ f x → map f done ≡ map f (take i xs)
    → map f later ≡ map f (take (i + 1) xs)
copied_on f xs done later i x y here put same h =
    ap (map f) put ∙ map_push f done y ∙ ap (λ l. l ++ f y ∷ []) h ∙ ap (λ z. map f (take i xs) ++ z ∷ []) same
    ∙ sym (ap (map f) here ∙ map_push f (take i xs) x)

-- What a value of CBOR is as an item.
use Rattle.std.proofs.Common.{◌≡◌, ℕ, List, Vec, rules}
use Rattle.std.specs.declared.alloc.Global.{Global}
use Rattle.c2_spec.specs.Cbor.Item.{bytes, list}
use Rattle.c2_spec.specs.Cbor.View.{items_view, view}
use Rattle.c2_spec.specs.declared.cbor.Cbor.{Bytes, Cbor, List as List', the_lemmas}

-- a byte string
pub view-Bytes : (b : List ℕ) → view (Bytes b) ≡ bytes b
view-Bytes b = search (rules, the_lemmas)

-- a list is the list of its items
pub view-List : (v : Vec Cbor Global) → view (List' v) ≡ list (items_view v.items)
view-List v = search (rules, the_lemmas)

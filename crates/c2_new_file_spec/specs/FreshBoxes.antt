-- Boxes as they are written (JUMBF, ISO/IEC 19566-5), as trees: with 4-byte lengths, and with labels under which they may be requested.
use Rattle.std.specs.Prelude.{ℕ, false, List, codes}
use Rattle.std.specs.Int.{w32, from_be_bytes}
use Rattle.c2_spec.specs.C2pa.Manifest.{type_uuid}
use Rattle.c2_spec.specs.Jumbf.Boxes.{node, any_contents}
use Rattle.c2_spec.specs.Jumbf.Tree.{Tree, Trees, leaf, super, none, more}
use Rattle.c2_spec.specs.Jumbf.Writing.{fresh_description}

-- a box of this kind whose payload is bytes, with a 4-byte length
abbrev pub fresh_leaf : List ℕ → List ℕ → Tree
fresh_leaf kind bytes = leaf (record { kind = from_be_bytes w32 kind; wide = false; payload = bytes })

-- a superbox of this type with this label, requestable, with a 4-byte length
abbrev pub fresh_box : List ℕ → List ℕ → Trees → Tree
fresh_box name label boxes = super false (fresh_description (type_uuid name) label) boxes

-- one of which the only content box is an item of CBOR
abbrev pub item_box : List ℕ → List ℕ → List ℕ → Tree
item_box name label bytes = fresh_box name label (more (fresh_leaf (codes "cbor") bytes) none)

-- the contents of a box, of which a reference gives the digest
abbrev pub contents_of : Tree → List ℕ
contents_of t = any_contents (node t)

-- boxes, and one more behind them
abbrev pub trees_then : Trees → Tree → Trees
trees_then none last = more last none
trees_then (more t ts) last = more t (trees_then ts last)

-- a store of these boxes and a last manifest
abbrev pub store_box : Trees → Tree → Tree
store_box carried manifest = fresh_box (codes "c2pa") (codes "c2pa") (trees_then carried manifest)

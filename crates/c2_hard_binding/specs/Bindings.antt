-- For private clauses: the binding of a manifest, by the item in its box.
use Rattle.std.specs.Prelude.{ℕ, Bool, true, false, List, Option, Some, None, length, is_none, option_and_then, if◌then◌else◌}
use Rattle.c2_spec.specs.C2pa.Manifest.{Manifest}
use Rattle.c2_spec.specs.Cover.{bad_range, data_text, excluded_positions}
use Rattle.c2_spec.specs.declared.assertion.DataHash.{DataHash}
use Rattle.c2_spec.specs.declared.assertion.Kind.{Kind}
use Rattle.c2_spec.specs.declared.assertion.Kind.TheVariants as kinds
use Rattle.c2_spec.specs.declared.cbor.Ref.{Ref}
use Rattle.c2_rules.specs.Binding.{Binding}
use Rattle.c2_rules.specs.Chains.{entry_label}
use Rattle.c2_rules.specs.Readings.{ReadBox, Reading}
use Rattle.c2_rules.specs.Rules.{label_kind, is_binding, box_with}

-- the label of an entry of a manifest, where it is that of a binding of a kind that is known
abbrev pub binding_entry : Manifest → Ref → Option (List ℕ)
binding_entry m e =
    option_and_then (λ (label : List ℕ). if is_binding (label_kind label) then Some label else None)
    (entry_label m e)

-- the item's bytes in the box with this label
abbrev pub item_with : Reading → List ℕ → Option (List ℕ)
item_with r label = option_and_then (λ (b : ReadBox). b.boxed.item) (box_with r label)

-- a binding of a data hash to these bytes
abbrev pub data_binding_of : List ℕ → DataHash → Binding
data_binding_of file d = record {
  alg = d.alg;
  hash = d.hash;
  in_order = is_none (bad_range (length file) d.exclusions);
  excluded = excluded_positions d.exclusions (length file);
  text = data_text d.exclusions file;
}

-- a BMFF hash
abbrev pub is_bmff_kind : Kind → Bool
is_bmff_kind kinds.BmffHash = true
is_bmff_kind kind = false

-- What laws of c2_cbor and c2_sigstruct say, as lemmas here take it: each law function calls those laws and hands on what they say.
use Rattle.c2_cbor_spec.proofs.TheLaws.{each_list_is_an_item_or_not_one, each_list_is_an_item_or_not_some}
use Rattle.std.proofs.Common.{◌⊎◌, ℕ, List}
use Rattle.c2_spec.specs.Cbor.Item.{Item}
use Rattle.c2_spec.specs.Cbor.Fields.{HasItem, IsUnread}
use Rattle.c2_spec.specs.declared.cbor.CborError.{CborError}
use Rattle.c2_spec.proofs.OneMessage.{OneItem}
use Rattle.c2_read_manifests.specs.Existing.{IsHeld}
use Rattle.c2_cbor_spec.proofs.PlainBack.{one_item}

-- a list that a program can hold is one item or is none for a cause, and never both
pub record ItemLaws : Type 0 where
  pub one_item : OneItem
  pub each_list : (s : List ℕ) → IsHeld s → ((v : Item) × HasItem s v) ⊎ ((e : CborError) × IsUnread s e)
  pub never_both : (s : List ℕ) → IsHeld s → (v : Item) (e : CborError) → HasItem s v → IsUnread s e → ⊥

-- they hold
pub item_laws : ItemLaws
item_laws =
    record {
      one_item = one_item;
      each_list = λ s h. each_list_is_an_item_or_not_some s h.bytes h.short;
      never_both = λ s h. each_list_is_an_item_or_not_one s h.bytes h.short;
    }

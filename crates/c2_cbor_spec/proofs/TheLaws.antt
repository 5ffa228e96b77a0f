-- The laws of this crate, for the proofs of the crates above it.
use Rattle.c2_cbor_spec.proofs.Fine.{fine}
use Rattle.c2_cbor_spec.proofs.Lengths.{sorted_length}
use Rattle.c2_cbor_spec.proofs.Plain.{read_back}
use Rattle.c2_cbor_spec.proofs.PlainBack.{reads_plain}
use Rattle.c2_cbor_spec.proofs.Rising.{sorted_rise, sorted_stay}
use Rattle.c2_cbor_spec.proofs.Unique.{one_spelling}
use Rattle.c2_cbor_spec.proofs.Whole.{each_list, never_both}
use Rattle.c2_spec.specs.Cbor.Answers.{BeginsWith}
use Rattle.c2_spec.specs.Cbor.Deterministic.{KeysRise, deterministic, each_sorted, pairs_with, preferred, sorted, sorted_pairs}
use Rattle.c2_spec.specs.Cbor.Fields.{HasItem, IsUnread}
use Rattle.c2_spec.specs.Cbor.Item.{Item, Pairs, no_pairs}
use Rattle.c2_spec.specs.Cbor.Legal.{IsLegal}
use Rattle.c2_spec.specs.Cbor.Plain.{IsPlain}
use Rattle.c2_spec.specs.Cbor.Spelling.{Spells}
use Rattle.c2_spec.specs.declared.cbor.CborError.{CborError}
use Rattle.std.proofs.Common.{[], refl, sym}
use Rattle.std.proofs.lemmas.List.{append-nil}
use Rattle.std.specs.Prelude.{All, List, length, ℕ, ◌++◌, ◌<◌, ◌^◌, ◌↔◌, ◌≡◌, ◌⊎◌}

-- no spelling of an item is a proper prefix of another spelling
pub no_proper_prefix : (v w : Item) (s r : List ℕ) → Spells v s → Spells w (s ++ r) → r ≡ []
no_proper_prefix v w s r p q = (one_spelling v w s (s ++ r) r [] p q (sym (append-nil (s ++ r)))).1

-- the deterministic bytes of a plain item that has a spelling, whatever follows them, are read as the sorted item, to their end
pub round_trip : (v : Item) (s r : List ℕ) → Spells v s → length s < 2 ^ 64 → IsPlain v
    → BeginsWith (deterministic v ++ r) (sorted v) (length (deterministic v))
round_trip v s r p lt plain = read_back v r (fine v s lt p) plain

-- the deterministic bytes of a legal item that has a spelling are an item's exactly where the item is plain
pub plain_items_are_read_back : (v : Item) (s : List ℕ) → Spells v s → length s < 2 ^ 64 → IsLegal v
    → ((w : Item) × HasItem (deterministic v) w) ↔ IsPlain v
plain_items_are_read_back v s p lt legal = reads_plain v (deterministic v) (fine v s lt p) legal refl

-- sorting changes no length
pub sorting_keeps_the_length : (v : Item) → length (deterministic v) ≡ length (preferred v)
sorting_keeps_the_length = sorted_length

-- bytes as a whole are a legal item, or are none for a cause, and never both
pub each_list_is_an_item_or_not_some : (s : List ℕ) → All (λ b. b < 2 ^ 8) s → length s < 2 ^ 64
    → ((v : Item) × HasItem s v) ⊎ ((e : CborError) × IsUnread s e)
each_list_is_an_item_or_not_some s h lt = each_list s h lt

-- bytes as a whole are a legal item, or are none for a cause, and never both
pub each_list_is_an_item_or_not_one : (s : List ℕ) → All (λ b. b < 2 ^ 8) s → length s < 2 ^ 64
    → (v : Item) (e : CborError) → HasItem s v → IsUnread s e → ⊥
each_list_is_an_item_or_not_one s h lt v e has unread = never_both s h lt v e has unread

-- the sorted pairs of a map rise by their keys' bytes
pub sorted_pairs_rise_rise : (ps : Pairs) → KeysRise (sorted_pairs ps no_pairs)
sorted_pairs_rise_rise ps = sorted_rise ps no_pairs tt

-- the sorted pairs of a map rise by their keys' bytes
pub sorted_pairs_rise_stay : (ps : Pairs) (b : List ℕ)
    → pairs_with b (sorted_pairs ps no_pairs) ≡ pairs_with b (each_sorted ps)
sorted_pairs_rise_stay ps b = sorted_stay b ps no_pairs tt

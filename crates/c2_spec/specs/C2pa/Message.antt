-- A signed message as it is written: with its tag (RFC 9052, section 4.2), in deterministic bytes, and with entries of padding in
-- its unprotected header (C2PA Technical Specification 2.x, on signing a claim).
use Rattle.std.specs.Prelude.{◌≡◌, ◌≢◌, ℕ, Bool, false, ◌||◌, ◌≤◌, List, codes, if◌then◌else◌}
use Rattle.std.specs.Str.{bytes_eq}
use Rattle.c2_base.specs.declared.limits.TheConstants.{MAX_HEADER_ENTRIES}
use Rattle.c2_spec.specs.Cbor.Item.{Item, text, dict, tag, Pairs, no_pairs, pair, pairs_len}
use Rattle.c2_spec.specs.Cbor.Plain.{IsPlain}
use Rattle.c2_spec.specs.Cbor.Deterministic.{sorted, deterministic}
use Rattle.c2_spec.specs.C2pa.Sign1.{SignParts, message_list}

-- the message with the tag 18
abbrev pub tagged_message : SignParts → Item
tagged_message p = tag 18 (message_list p)

-- the message with its tag, in deterministic bytes: no padding is added
abbrev pub bare_bytes : SignParts → List ℕ
bare_bytes p = deterministic (tagged_message p)

-- what is written of the message is read as the same message
abbrev pub IsPlainMessage : SignParts → Type 0
IsPlainMessage p = IsPlain (tagged_message p)

-- ---- padding

-- these pairs, and then more
abbrev pub pairs_then : Pairs → Pairs → Pairs
pairs_then no_pairs more = more
pairs_then (pair k v ps) more = pair k v (pairs_then ps more)

-- a map with more entries behind its own
abbrev pub with_entries : Item → Pairs → Item
with_entries (dict ps) more = dict (pairs_then ps more)
with_entries v more = v

-- the message with more entries in its unprotected header
abbrev pub padded : SignParts → Pairs → SignParts
padded p more = record { protected = p.protected; unprotected = with_entries p.unprotected more; signature = p.signature }

-- the message with its tag and these entries, in deterministic bytes
abbrev pub padded_bytes : SignParts → Pairs → List ℕ
padded_bytes p more = deterministic (tagged_message (padded p more))

-- no entry has this text as its key
abbrev pub HasNoText : List ℕ → Pairs → Type 0
HasNoText key no_pairs = Unit {0}
HasNoText key (pair k v ps) = (k ≢ text key) × HasNoText key ps

-- A message that can be padded: its header is a map of these entries, few enough that two more don't make the map's head longer,
-- none of which has a key of padding; and the message is plain.
pub record CanBePadded (p : SignParts) (entries : Pairs) : Type 0 where
  pub map : p.unprotected ≡ dict entries
  pub plain : IsPlainMessage p
  pub few : pairs_len entries ≤ MAX_HEADER_ENTRIES
  pub no_pad : HasNoText (codes "pad") entries
  pub no_pad2 : HasNoText (codes "pad2") entries

-- ---- what is read of a padded message

-- the parts that are read of it: its header is sorted
abbrev pub padded_read : SignParts → Pairs → SignParts
padded_read p more = record { protected = p.protected; unprotected = sorted (with_entries p.unprotected more); signature = p.signature }

-- the key is one of padding
abbrev pub is_padding : Item → Bool
is_padding (text t) = bytes_eq t (codes "pad") || bytes_eq t (codes "pad2")
is_padding v = false

-- the entries without those of padding
abbrev pub without_padding : Pairs → Pairs
without_padding no_pairs = no_pairs
without_padding (pair k v ps) = if is_padding k then without_padding ps else pair k v (without_padding ps)

-- a map without its entries of padding
abbrev pub header_without_padding : Item → Item
header_without_padding (dict ps) = dict (without_padding ps)
header_without_padding v = v

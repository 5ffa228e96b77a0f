-- A message with padding is plain, has the length that is wanted, and is read as the message but for the padding.
use Rattle.std.proofs.Common.{◌≡◌, ◌≢◌, inl, inr, ℕ, ◌+◌, ◌-◌, ◌<◌, ◌≤◌, List, [], ◌++◌, length, codes, Option, Some, None, refl, sym, ap, subst, ◌∙◌, arith, lit<, lit≤}
use Rattle.std.proofs.lemmas.List.{length-append, take_at}
use Rattle.std.proofs.lemmas.Bool.{lt-ltb}
use Rattle.c2_spec.specs.Cbor.Item.{Item, bytes, text, list, dict, tag, simple, no_items, item, Pairs, no_pairs, pair, pairs_len}
use Rattle.c2_spec.specs.Cbor.Deterministic.{shortest_head, preferred, preferred_pairs, sorted, sorted_pairs, deterministic}
use Rattle.c2_spec.specs.Cbor.Legal.{pairs_depth, IsNew, PairsHaveDistinctKeys, PairsHaveBadSimple, IsLegal}
use Rattle.c2_spec.specs.Cbor.Plain.{DiffersFrom, PairsHavePlainKeys}
use Rattle.c2_spec.specs.Cbor.Spelling.{Spells}
use Rattle.c2_spec.specs.Cbor.Answers.{BeginsWith}
use Rattle.c2_spec.specs.C2pa.Sign1.{SignParts, message_list, SpellsMessage}
use Rattle.c2_spec.specs.C2pa.Message.{tagged_message, bare_bytes, IsPlainMessage, pairs_then, padded, padded_bytes, padded_read, HasNoText, CanBePadded}
use Rattle.c2_pad.specs.declared.types.Fill.{Fill}
use Rattle.c2_pad.specs.Fill.{zeros_before, fill_pairs, fill_cost}
use Rattle.c2_sigstruct.proofs.Entries.{then_count, then_bytes, then_depth, then_bad, AreApart, then_distinct, then_plain}
use Rattle.c2_sigstruct.proofs.Texts.{other_bytes}

-- ---- the entries of padding

-- the entries of two numbers of zero bytes
unfoldable pub entries : Option ℕ → Option ℕ → Pairs
entries o q = zeros_before (codes "pad") o (zeros_before (codes "pad2") q no_pairs)

-- the entries of padding have distinct keys
entries_distinct : (o q : Option ℕ) → PairsHaveDistinctKeys (entries o q)
unfolding entries
entries_distinct None None = tt
entries_distinct None (Some n) = (tt, tt, tt, tt)
entries_distinct (Some n) None = (tt, tt, tt, tt)
entries_distinct (Some n) (Some m) = (tt, tt, ((λ e. cc (e)), tt), (tt, tt, tt, tt))

-- the entries of padding have plain keys
entries_plain : (o q : Option ℕ) → PairsHavePlainKeys (entries o q)
unfolding entries
entries_plain None None = tt
entries_plain None (Some n) = (tt, tt, tt, tt)
entries_plain (Some n) None = (tt, tt, tt, tt)
entries_plain (Some n) (Some m) =
    (tt, tt, (other_bytes (text (codes "pad")) (codes "pad2") (lit< tt) (λ e. cc (e)), tt), (tt, tt, tt, tt))

-- nothing is inside them
entries_depth : (o q : Option ℕ) → pairs_depth (entries o q) ≤ 1
unfolding entries
entries_depth None None = lit≤ tt
entries_depth None (Some n) = lit≤ tt
entries_depth (Some n) None = lit≤ tt
entries_depth (Some n) (Some m) = lit≤ tt

-- the entries of padding have no bad Simple
entries_fine : (o q : Option ℕ) → PairsHaveBadSimple (entries o q) → ⊥
unfolding entries
entries_fine None None h = h
entries_fine None (Some n) (inl h) = h
entries_fine None (Some n) (inr (inl h)) = h
entries_fine None (Some n) (inr (inr h)) = h
entries_fine (Some n) None (inl h) = h
entries_fine (Some n) None (inr (inl h)) = h
entries_fine (Some n) None (inr (inr h)) = h
entries_fine (Some n) (Some m) (inl h) = h
entries_fine (Some n) (Some m) (inr (inl h)) = h
entries_fine (Some n) (Some m) (inr (inr (inl h))) = h
entries_fine (Some n) (Some m) (inr (inr (inr (inl h)))) = h
entries_fine (Some n) (Some m) (inr (inr (inr (inr h)))) = h

-- there are at most two
pub entries_count : (o q : Option ℕ) → pairs_len (entries o q) ≤ 2
unfolding entries
entries_count None None = lit≤ tt
entries_count None (Some n) = lit≤ tt
entries_count (Some n) None = lit≤ tt
entries_count (Some n) (Some m) = lit≤ tt

-- another key than theirs is new to them, and so are its bytes
key_apart : (k : Item) (o q : Option ℕ) → k ≢ text (codes "pad") → k ≢ text (codes "pad2")
    → IsNew k (entries o q) × DiffersFrom k (entries o q)
unfolding entries
key_apart k None None a b = (tt, tt)
key_apart k None (Some n) a b = ((b, tt), (other_bytes k (codes "pad2") (lit< tt) b, tt))
key_apart k (Some n) None a b = ((a, tt), (other_bytes k (codes "pad") (lit< tt) a, tt))
key_apart k (Some n) (Some m) a b =
    ((a, (b, tt)), (other_bytes k (codes "pad") (lit< tt) a, (other_bytes k (codes "pad2") (lit< tt) b, tt)))

-- entries without these keys are apart from them
all_apart : (ps : Pairs) (f : Fill) → HasNoText (codes "pad") ps → HasNoText (codes "pad2") ps
    → AreApart ps (fill_pairs f)
unfolding entries
all_apart no_pairs f a b = tt
all_apart (pair k v ps) f a b = let own = key_apart k f.pad f.pad2 a.0 b.0 in (own.0, own.1, all_apart ps f a.1 b.1)

-- ---- a padded message is plain

-- a message with this map as its header
unfoldable pub with_map : SignParts → Pairs → SignParts
with_map p ps = record { protected = p.protected; unprotected = dict ps; signature = p.signature }

-- the item of a message with this header
abbrev pub with_header : SignParts → Item → Item
with_header p v = tagged_message (record { protected = p.protected; unprotected = v; signature = p.signature })

-- a message that can be padded is one
pub is_with_map : (p : SignParts) (ps : Pairs) → p.unprotected ≡ dict ps → p ≡ with_map p ps
unfolding with_map
is_with_map p ps e = ap (λ v. record { protected = p.protected; unprotected = v; signature = p.signature }) e

-- with a fill it is legal
legal_map : (p : SignParts) (ps : Pairs) (f : Fill) → CanBePadded (with_map p ps) ps
    → IsLegal (tagged_message (padded (with_map p ps) (fill_pairs f)))
unfolding with_map entries
legal_map p ps f can =
    let old = can.plain.legal in
    let low : pairs_depth (fill_pairs f) ≤ 1 = entries_depth f.pad f.pad2 in
    let deep : pairs_depth (pairs_then ps (fill_pairs f)) ≤ 61 =
    then_depth ps (fill_pairs f) 61 (omega (arith, old.shallow)) (omega (arith, low)) in
    record {
      shallow = omega (arith, deep);
      distinct =
          (tt, (then_distinct ps (fill_pairs f) old.distinct.1.0 (entries_distinct f.pad f.pad2) (all_apart ps f can.no_pad can.no_pad2), old.distinct.1.1));
      no_bad_simple = λ h. elim h [
        | inl g ↦ old.no_bad_simple (inl g)
        | inr (inl g) ↦ elim (then_bad ps (fill_pairs f) g) [ inl b ↦ old.no_bad_simple (inr (inl b)) | inr b ↦ entries_fine f.pad f.pad2 b ]
        | inr (inr g) ↦ old.no_bad_simple (inr (inr g))
      ];
    }

-- with a fill it is plain
plain_map : (p : SignParts) (ps : Pairs) (f : Fill) → CanBePadded (with_map p ps) ps
    → IsPlainMessage (padded (with_map p ps) (fill_pairs f))
unfolding with_map entries
plain_map p ps f can =
    let old = can.plain.plain in
    record {
      legal = legal_map p ps f can;
      plain =
          (tt, (then_plain ps (fill_pairs f) old.1.0 (entries_plain f.pad f.pad2) (all_apart ps f can.no_pad can.no_pad2), old.1.1));
    }

-- a message that can be padded is plain with each fill
pub padded_plain : (p : SignParts) (ps : Pairs) (f : Fill) → CanBePadded p ps → IsPlainMessage (padded p (fill_pairs f))
padded_plain p ps f can =
    let is : p ≡ with_map p ps = is_with_map p ps can.map in
    subst (λ q. IsPlainMessage (padded q (fill_pairs f))) (sym is)
    (plain_map p ps f (subst (λ q. CanBePadded q ps) is can))

-- ---- its length

-- a head of a number below 24 has one byte
short_head : (m n : ℕ) → n < 24 → length (shortest_head m n) ≡ 1
unfolding shortest_head
short_head m n few = rw (lt-ltb n 24 few) refl

-- a map of fewer than 24 pairs has one byte before them
short_map : (ps : Pairs) → pairs_len ps < 24 → length (preferred (dict ps)) ≡ 1 + length (preferred_pairs ps)
short_map ps few =
    omega (arith, short_head 5 (pairs_len ps) few, length-append (shortest_head 5 (pairs_len ps)) (preferred_pairs ps))

-- a message has one length around its header
around : (p : SignParts) (v : Item)
    → length (preferred (tagged_message (record { protected = p.protected; unprotected = v; signature = p.signature })))
    ≡ length
    (preferred (tag 18 (list (item (bytes p.protected) (item (simple 22) (item (simple 22) (item (bytes p.signature) no_items)))))))
    + length (preferred v) - 1
around p v =
    let rest : List ℕ = preferred (simple 22) ++ (preferred (bytes p.signature) ++ []) in
    omega (
      arith,
      length-append (shortest_head 6 18) (preferred (message_list (record { protected = p.protected; unprotected = v; signature = p.signature }))),
      length-append (shortest_head 4 4) (preferred (bytes p.protected) ++ (preferred v ++ rest)),
      length-append (preferred (bytes p.protected)) (preferred v ++ rest),
      length-append (preferred v) rest,
      length-append (shortest_head 6 18) (preferred (message_list (record { protected = p.protected; unprotected = simple 22; signature = p.signature }))),
      length-append (shortest_head 4 4) (preferred (bytes p.protected) ++ (preferred (simple 22) ++ rest)),
      length-append (preferred (bytes p.protected)) (preferred (simple 22) ++ rest),
      length-append (preferred (simple 22)) rest,
    )

-- with a map that has few entries it is longer by what the fill costs
length_map : ((v : Item) → length (deterministic v) ≡ length (preferred v)) → (p : SignParts) (ps : Pairs) (f : Fill)
    → pairs_len ps ≤ 20
    → length (padded_bytes (with_map p ps) (fill_pairs f)) ≡ length (bare_bytes (with_map p ps)) + fill_cost f
unfolding with_map entries
length_map keeps p ps f few =
    let all : Pairs = pairs_then ps (fill_pairs f) in
    let two : pairs_len (fill_pairs f) ≤ 2 = entries_count f.pad f.pad2 in
    let big = short_map all (omega (arith, then_count ps (fill_pairs f), two, few)) in
    let own = short_map ps (omega (arith, few)) in
    let total : length (preferred (tagged_message (with_map p all))) ≡ length (preferred (tagged_message (with_map p ps))) + fill_cost f =
    omega (arith, around p (dict all), around p (dict ps), big, own, then_bytes ps (fill_pairs f)) in
    keeps (tagged_message (with_map p all)) ∙ total
    ∙ ap (λ k. k + fill_cost f) (sym (keeps (tagged_message (with_map p ps))))

-- each message that can be padded is longer by what the fill costs
pub padded_length : ((v : Item) → length (deterministic v) ≡ length (preferred v))
    → (p : SignParts) (ps : Pairs) (f : Fill) → CanBePadded p ps
    → length (padded_bytes p (fill_pairs f)) ≡ length (bare_bytes p) + fill_cost f
padded_length keeps p ps f can =
    subst (λ q. length (padded_bytes q (fill_pairs f)) ≡ length (bare_bytes q) + fill_cost f)
    (sym (is_with_map p ps can.map)) (length_map keeps p ps f can.few)

-- ---- what is read of it

-- bytes that begin with the sorted message, and end with it, spell the message
read_map : (p : SignParts) (ps : Pairs) (f : Fill) (b : List ℕ)
    → BeginsWith (b ++ []) (sorted (tagged_message (padded (with_map p ps) (fill_pairs f)))) (length b)
    → SpellsMessage b (padded_read (with_map p ps) (fill_pairs f))
unfolding with_map
read_map p ps f b read = record {
  message = sorted (tagged_message (padded (with_map p ps) (fill_pairs f)));
  legal = read.legal;
  spelled =
      subst (Spells (sorted (tagged_message (padded (with_map p ps) (fill_pairs f))))) (take_at b [] (length b) refl)
      read.spelled;
  is = record { header = (sorted_pairs (pairs_then ps (fill_pairs f)) no_pairs, refl); form = inr refl };
}

-- bytes that begin with a sorted message that can be padded, and end with it, spell the message
pub read_padded : (p : SignParts) (ps : Pairs) (f : Fill) (b : List ℕ) → CanBePadded p ps
    → BeginsWith (b ++ []) (sorted (tagged_message (padded p (fill_pairs f)))) (length b)
    → SpellsMessage b (padded_read p (fill_pairs f))
read_padded p ps f b can read =
    let is : p ≡ with_map p ps = is_with_map p ps can.map in
    subst (λ q. SpellsMessage b (padded_read q (fill_pairs f))) (sym is)
    (read_map p ps f b (subst (λ q. BeginsWith (b ++ []) (sorted (tagged_message (padded q (fill_pairs f)))) (length b)) is read))

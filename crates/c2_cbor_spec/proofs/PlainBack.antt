-- An item whose sorted form has distinct keys is plain.
use Rattle.std.proofs.Common.{◌≡◌, ◌↔◌, ℕ, List, [], length, refl, sym, subst}
use Rattle.std.specs.Ordering.{nat_cmp, match_ordering}
use Rattle.std.specs.declared.cmp.Ordering.{Ordering}
use Rattle.std.specs.declared.cmp.Ordering.TheVariants.{Less, Equal, Greater}
use Rattle.std.specs.Cmp.Lexicographic.{slice_cmp}
use Rattle.c2_spec.specs.Cbor.Item.{Item, uint, nint, bytes, text, list, dict, tag, simple, half, single, double, Items, no_items, item, Pairs, no_pairs, pair}
use Rattle.c2_spec.specs.Cbor.Deterministic.{preferred, insert_pair, sorted, sorted_items, sorted_pairs, deterministic}
use Rattle.std.proofs.lemmas.List.{take_at}
use Rattle.c2_spec.specs.Cbor.Fields.{HasItem}
use Rattle.c2_spec.specs.Cbor.Legal.{IsLegal, IsNew, HasDistinctKeys, ItemsHaveDistinctKeys, PairsHaveDistinctKeys}
use Rattle.c2_spec.specs.Cbor.Spelling.{Spells}
use Rattle.c2_spec.specs.Cbor.Plain.{IsPlain, DiffersFrom, HasPlainKeys, ItemsHavePlainKeys, PairsHavePlainKeys}
use Rattle.c2_cbor_spec.specs.Fine.{Fine, FineItems, FinePairs}
use Rattle.c2_cbor_spec.proofs.Plain.{fine_sorted, read_back}
use Rattle.c2_cbor_spec.proofs.Unique.{preferred_spells, one_spelling}

-- bytes spell one item
pub one_item : (v w : Item) (s : List ℕ) → Spells v s → Spells w s → v ≡ w
one_item v w s p q = (one_spelling v w s s [] [] p q refl).0

-- what holds wherever a pair was put
from_place : (P : Pairs → Type 0) (Q : Type 0) (o : Ordering) (a b : Pairs) → (P a → Q) → (P b → Q)
    → P (match_ordering o a b b) → Q
from_place P Q Less a b f g h = f h
from_place P Q Equal a b f g h = g h
from_place P Q Greater a b f g h = g h

-- a key that is new once a pair was put in is not that pair's, and was new before
new_back : (l : Item) (ps : Pairs) (k v : Item) → IsNew l (insert_pair ps k v) → (l ≡ k → ⊥) × IsNew l ps
new_back l no_pairs k v h = (h.0, tt)
new_back l (pair m w ps) k v h =
    from_place (IsNew l) ((l ≡ k → ⊥) × IsNew l (pair m w ps)) (slice_cmp nat_cmp (preferred k) (preferred m))
    (pair k v (pair m w ps)) (pair m w (insert_pair ps k v))
    (λ g. (g.0, g.1)) (λ g. let more = new_back l ps k v g.1 in (more.0, (g.0, more.1))) h

-- keys that are distinct once a pair was put in were so before, and the pair's key is new to them
distinct_back : (ps : Pairs) (k v : Item) → PairsHaveDistinctKeys (insert_pair ps k v)
    → HasDistinctKeys k × HasDistinctKeys v × IsNew k ps × PairsHaveDistinctKeys ps
distinct_back no_pairs k v h = (h.0, h.1, tt, tt)
distinct_back (pair l w ps) k v h =
    from_place PairsHaveDistinctKeys
    (HasDistinctKeys k × HasDistinctKeys v × IsNew k (pair l w ps) × PairsHaveDistinctKeys (pair l w ps))
    (slice_cmp nat_cmp (preferred k) (preferred l)) (pair k v (pair l w ps)) (pair l w (insert_pair ps k v))
    (λ g. g)
    (λ g. let more = distinct_back ps k v g.3 in let new = new_back l ps k v g.2 in (more.0, more.1, ((λ e. new.0 (sym e)), more.2), (g.0, g.1, new.1, more.3))) h

-- no sorted key of ps is a key of before
abbrev Apart : Pairs → Pairs → Type 0
Apart no_pairs before = Unit {0}
Apart (pair k v ps) before = IsNew (sorted k) before × Apart ps before

-- items with the same deterministic bytes are the same, sorted
same_sorted : (k l : Item) → Fine k → Fine l → deterministic k ≡ deterministic l → sorted k ≡ sorted l
same_sorted k l f g e =
    one_item (sorted k) (sorted l) (deterministic k) (preferred_spells (sorted k) (fine_sorted k f))
    (subst (Spells (sorted l)) (sym e) (preferred_spells (sorted l) (fine_sorted l g)))

-- keys apart from those before and one more differ from it in their bytes, and are apart from those before
apart_back : (ps before : Pairs) (k v : Item) → Fine k → FinePairs ps → Apart ps (insert_pair before (sorted k) v)
    → DiffersFrom k ps × Apart ps before
apart_back no_pairs before k v f fs h = (tt, tt)
apart_back (pair l w ps) before k v f fs h =
    let new = new_back (sorted l) before (sorted k) v h.0 in
    let more = apart_back ps before k v f fs.2 h.1 in
    (((λ e. new.0 (sym (same_sorted k l f fs.0 e))), more.0), (new.1, more.1))

mutual
  -- an item whose sorted form has distinct keys has plain keys
  pub plain_back : (v : Item) → Fine v → HasDistinctKeys (sorted v) → HasPlainKeys v
  plain_back (uint n) f h = tt
  plain_back (nint n) f h = tt
  plain_back (bytes b) f h = tt
  plain_back (text t) f h = tt
  plain_back (list vs) f h = plain_back_items vs f.1 h
  plain_back (dict ps) f h = (plain_back_pairs ps no_pairs f.1 h).0
  plain_back (tag n v) f h = plain_back v f.1 h
  plain_back (simple a) f h = tt
  plain_back (half n) f h = tt
  plain_back (single n) f h = tt
  plain_back (double n) f h = tt

  -- the same of items one after the other
  plain_back_items : (vs : Items) → FineItems vs → ItemsHaveDistinctKeys (sorted_items vs) → ItemsHavePlainKeys vs
  plain_back_items no_items f h = tt
  plain_back_items (item v vs) f h = (plain_back v f.0 h.0, plain_back_items vs f.1 h.1)

  -- the same of pairs that are sorted among others
  plain_back_pairs : (ps before : Pairs) → FinePairs ps → PairsHaveDistinctKeys (sorted_pairs ps before)
      → PairsHavePlainKeys ps × PairsHaveDistinctKeys before × Apart ps before
  plain_back_pairs no_pairs before f h = (tt, h, tt)
  plain_back_pairs (pair k v ps) before f h =
      let more = plain_back_pairs ps (insert_pair before (sorted k) (sorted v)) f.2 h in
      let put = distinct_back before (sorted k) (sorted v) more.1 in
      let apart = apart_back ps before k (sorted v) f.0 f.2 more.2 in
      ((plain_back k f.0 put.0, plain_back v f.1 put.1, apart.0, more.0), put.3, (put.2, apart.1))

-- a legal item is plain where what is written of it is an item
plain_of : (v w : Item) → Fine v → IsLegal v → HasItem (deterministic v) w → IsPlain v
plain_of v w f legal h =
    let same : w ≡ sorted v =
    one_item w (sorted v) (deterministic v) h.spelled (preferred_spells (sorted v) (fine_sorted v f)) in
    record { legal = legal; plain = plain_back v f (subst HasDistinctKeys same h.legal.distinct) }

-- what is written of a plain item is that item, sorted
item_of : (v : Item) → Fine v → IsPlain v → HasItem (deterministic v) (sorted v)
item_of v f p =
    let read = read_back v [] f p in
    record
    { legal = read.legal; spelled = subst (Spells (sorted v)) (take_at (deterministic v) [] (length (deterministic v)) refl) read.spelled }

-- what is written of a legal item is an item exactly where that item is plain
pub reads_plain : (v : Item) (s : List ℕ) → Fine v → IsLegal v → s ≡ deterministic v
    → ((w : Item) × HasItem s w) ↔ IsPlain v
reads_plain v s f legal e =
    subst (λ t. ((w : Item) × HasItem t w) ↔ IsPlain v) (sym e)
    ((λ h. plain_of v h.0 f legal h.1), (λ p. (sorted v, item_of v f p)))

-- bytes as a whole are one item at most
pub same_item : (s : List ℕ) (v w : Item) → HasItem s v → HasItem s w → v ≡ w
same_item s v w p q = one_item v w s p.spelled q.spelled

-- Texts that are held apart, while the pairs of their map are read.
use Rattle.std.proofs.Common.{◌≡◌, ℕ, Bool, true, false, cond, List, [], ◌∷◌, ◌++◌, map, ◌-◌, ◌<◌, suc, length, Option, Some, None, Result, Ok, Err, refl, sym, ap, subst, ◌∙◌}
use Rattle.std.specs.Option.{option_or}
use Rattle.c2_spec.specs.Cbor.Item.{Item, text, list, dict, pair}
use Rattle.c2_spec.specs.Cbor.View.{view, items_of, pairs_of}
use Rattle.c2_spec.specs.Cbor.Lookup.{is_text}
use Rattle.c2_spec.specs.Cbor.Deterministic.{preferred}
use Rattle.c2_spec.specs.declared.cbor.Cbor.{Cbor}
use Rattle.c2_spec.proofs.TextKeys.{text_is}
use Rattle.c2_cbor.specs.Apart.{texts_list, with_value, with_texts, whole_value, put_in, pairs_with, wants, OnlyIf, GivesSome}
use Rattle.c2_cbor_spec.specs.declared.fault.Fault.{Fault}
use Rattle.c2_cbor_spec.specs.declared.fault.ReadError.{ReadError}
use Rattle.c2_cbor_spec.specs.declared.fault.ReadError.TheVariants as errors
use Rattle.c2_cbor_spec.specs.declared.head.Count.{Count}
use Rattle.c2_cbor_spec.specs.declared.head.Head.TheVariants as heads
use Rattle.c2_cbor_spec.specs.Reading.{Read, ◌>>=◌, Fails, is_known, with_key, pairs_seen, head_at, items, pairs, item_at}
use Rattle.c2_cbor_spec.specs.Tracking.{spelled, known_after, keys_of}
use Rattle.c2_cbor_spec.proofs.Keys.{known_new, known_stays}
use Rattle.c2_cbor.proofs.Loops.{item_at-step}

-- one of the keys is this text
abbrev pub has_key : List ℕ → List (Item × Item) → Bool
has_key key [] = false
has_key key (p ∷ ps) = cond (is_text key p.0) true (has_key key ps)

-- the key of texts that are held apart is among the pairs
abbrev pub IsThere : List ℕ → Option (List (List ℕ)) → List (Item × Item) → Type 0
IsThere key None ps = Unit {0}
IsThere key (Some ts) ps = has_key key ps ≡ true

-- ---- one more pair

-- a key that is there stays so
there_before : (key : List ℕ) (ps : List (Item × Item)) (q : Item × Item) → has_key key ps ≡ true
    → has_key key (ps ++ q ∷ []) ≡ true
there_before key [] q e = absurd cc
there_before key (p ∷ ps) q e =
    elim (is_text key p.0) as
    (λ b. cond b true (has_key key ps) ≡ true → cond b true (has_key key (ps ++ q ∷ [])) ≡ true)
    [ true ↦ λ _. refl | false ↦ λ h. there_before key ps q h ] e

-- the last is there
there_last : (key : List ℕ) (ps : List (Item × Item)) (k w : Item) → is_text key k ≡ true
    → has_key key (ps ++ (k, w) ∷ []) ≡ true
there_last key [] k w f = ap (λ b. cond b true false) f
there_last key (p ∷ ps) k w f =
    elim (is_text key p.0) as (λ b. cond b true (has_key key (ps ++ (k, w) ∷ [])) ≡ true)
    [ true ↦ refl | false ↦ there_last key ps k w f ]

-- one more behind the value that is put in
put_before : (key : List ℕ) (v : Item) (ps : List (Item × Item)) (q : Item × Item) → has_key key ps ≡ true
    → put_in key v (ps ++ q ∷ []) ≡ put_in key v ps ++ q ∷ []
put_before key v [] q e = absurd cc
put_before key v (p ∷ ps) q e =
    elim (is_text key p.0) as (λ b. cond b true (has_key key ps) ≡ true → cond b ((p.0, v) ∷ ps ++ q ∷ []) (p ∷ put_in key v (ps ++ q ∷ [])) ≡ cond b ((p.0, v) ∷ ps) (p ∷ put_in key v ps) ++ q ∷ []) [
      | true ↦ λ _. refl
      | false ↦ λ h. ap (λ (ys : List (Item × Item)). p ∷ ys) (put_before key v ps q h)
    ] e

-- the value is put in at the last
put_last : (key : List ℕ) (v k w : Item) (ps : List (Item × Item)) → has_key key ps ≡ false → is_text key k ≡ true
    → put_in key v (ps ++ (k, w) ∷ []) ≡ ps ++ (k, v) ∷ []
put_last key v k w [] e f =
    let one : List (Item × Item) = (k, v) ∷ [] in
    let other : List (Item × Item) = (k, w) ∷ (text key, v) ∷ [] in
    ap (λ b. cond b one other) f
put_last key v k w (p ∷ ps) e f =
    elim (is_text key p.0) as (λ b. cond b true (has_key key ps) ≡ false → cond b ((p.0, v) ∷ ps ++ (k, w) ∷ []) (p ∷ put_in key v (ps ++ (k, w) ∷ [])) ≡ p ∷ ps ++ (k, v) ∷ []) [
      | true ↦ λ h. absurd cc
      | false ↦ λ h. ap (λ (ys : List (Item × Item)). p ∷ ys) (put_last key v k w ps h f)
    ] e

-- ---- a new key isn't there

-- what is known stays known
stays_after : (x : List ℕ) (seen ks : List (List ℕ)) → is_known x seen ≡ true → is_known x (known_after seen ks) ≡ true
stays_after x seen [] e = e
stays_after x seen (k ∷ ks) e = stays_after x (with_key seen k) ks (known_stays x k seen e)

-- a key that is there is known
known_there : (key : List ℕ) (ps : List (Cbor × Cbor)) (seen : List (List ℕ)) → has_key key (pairs_seen ps) ≡ true
    → is_known (preferred (text key)) (known_after seen (spelled ps)) ≡ true
known_there key [] seen e = absurd cc
known_there key (p ∷ ps) seen e =
    let k : Item = view p.0 in
    let x : List ℕ = preferred (text key) in
    let later : List (List ℕ) = with_key seen (preferred k) in
    elim (is_text key k) as (λ b. is_text key k ≡ b → cond b true (has_key key (pairs_seen ps)) ≡ true → is_known x (known_after later (spelled ps)) ≡ true) [
      | true ↦ λ f _. stays_after x later (spelled ps) (subst (λ v. is_known x (with_key seen (preferred v)) ≡ true) (sym (text_is key k f)) (known_new x seen))
      | false ↦ λ _ h. known_there key ps later h
    ] refl e

-- a key that is new isn't there
not_there : (key : List ℕ) (k : Item) (found : List (Cbor × Cbor)) → is_text key k ≡ true
    → is_known (preferred k) (keys_of found) ≡ false → has_key key (pairs_seen found) ≡ false
not_there key k found f fresh =
    elim (has_key key (pairs_seen found)) as (λ b. has_key key (pairs_seen found) ≡ b → b ≡ false) [
      | true ↦ λ e. let known : is_known (preferred k) (keys_of found) ≡ true = subst (λ v. is_known (preferred v) (keys_of found) ≡ true) (sym (text_is key k f)) (known_there key found [] e) in sym known ∙ fresh
      | false ↦ λ _. refl
    ] refl

-- ---- a turn

-- the pairs with one more, whose key is new
pub apart_on :
    (key : List ℕ) (k w : Item) (found : List (Cbor × Cbor)) (texts apart : Option (List (List ℕ))) (wanted : Bool)
    → wanted ≡ wants texts key k → OnlyIf wanted apart
    → IsThere key texts (pairs_seen found) → is_known (preferred k) (keys_of found) ≡ false
    → pairs_with key (option_or texts apart) (pairs_seen found ++ (k, w) ∷ []) ≡ pairs_with key texts (pairs_seen found) ++ (k, whole_value w apart) ∷ []
apart_on key k w found None None wanted is only there fresh = refl
apart_on key k w found None (Some ts) wanted is only there fresh =
    let f : is_text key k ≡ true = sym is ∙ only in
    put_last key (texts_list ts) k w (pairs_seen found) (not_there key k found f fresh) f
apart_on key k w found (Some us) None wanted is only there fresh =
    put_before key (texts_list us) (pairs_seen found) (k, w) there
apart_on key k w found (Some us) (Some ts) wanted is only there fresh = let both : false ≡ true = sym is ∙ only in absurd cc

-- the key of the texts that are held apart is still there
pub there_on :
    (key : List ℕ) (k w : Item) (found : List (Cbor × Cbor)) (texts apart : Option (List (List ℕ))) (wanted : Bool)
    → wanted ≡ wants texts key k → OnlyIf wanted apart
    → IsThere key texts (pairs_seen found) → IsThere key (option_or texts apart) (pairs_seen found ++ (k, w) ∷ [])
there_on key k w found None None wanted is only there = tt
there_on key k w found None (Some ts) wanted is only there = there_last key (pairs_seen found) k w (sym is ∙ only)
there_on key k w found (Some us) None wanted is only there = there_before key (pairs_seen found) (k, w) there
there_on key k w found (Some us) (Some ts) wanted is only there = there_before key (pairs_seen found) (k, w) there

-- ---- a map

-- a value put into listed pairs is put into the pairs of the map
put_pairs : (key : List ℕ) (v : Item) (ps : List (Item × Item))
    → pairs_of (put_in key v ps) ≡ with_value key v (pairs_of ps)
put_pairs key v [] = refl
put_pairs key v (p ∷ ps) =
    elim (is_text key p.0) as (λ b. pairs_of (cond b ((p.0, v) ∷ ps) (p ∷ put_in key v ps)) ≡ cond b (pair p.0 v (pairs_of ps)) (pair p.0 p.1 (with_value key v (pairs_of ps)))) [
      | true ↦ refl
      | false ↦ ap (λ qs. pair p.0 p.1 qs) (put_pairs key v ps)
    ]

-- a map of pairs of which texts are held apart
pub map_apart : (key : List ℕ) (texts : Option (List (List ℕ))) (ps : List (Item × Item))
    → dict (pairs_of (pairs_with key texts ps)) ≡ with_texts key (dict (pairs_of ps)) texts
map_apart key None ps = refl
map_apart key (Some ts) ps = ap dict (put_pairs key (texts_list ts) ps)

-- what is given
pub some_gives : {X Y : Type 0} (view : X → Y) (found : Option X) (x : X) (read : Result Y Fault) → found ≡ Some x
    → GivesSome view (Ok found) read → read ≡ Ok (view x)
some_gives view found x read is h = subst (λ o. GivesSome view (Ok o) read) is h

-- a fault of what follows a head is that of the item
goes_wrong : {A : Type 0} (e : ReadError) (read : Read A) (more : A × List ℕ → Read Item) → Fails e read
    → Fails e (read >>= more)
goes_wrong errors.Memory read more h = tt
goes_wrong (errors.Fault f) read more h = ap (λ r. r >>= more) h

module _ (levels : ℕ) (s r : List ℕ) (c : Count) (left : 0 < levels) where
  -- a list of texts is an item
  pub texts_item : {X : Type 0} (f : X → List (List ℕ)) (g : X → List ℕ) (res : Result (Option X) ReadError)
      → head_at s ≡ Ok (heads.List c, r)
      → GivesSome (λ x. (map text (f x), g x)) res (items (item_at is_known (levels - 1)) (suc (length r)) c r)
      → GivesSome (λ x. (texts_list (f x), g x)) res (item_at is_known levels s)
  texts_item f g (Ok None) e h = tt
  texts_item f g (Ok (Some x)) e h =
      item_at-step is_known levels s r (heads.List c) left e ∙ ap (λ q. q >>= λ p. Ok (list (items_of p.0), p.1)) h
  texts_item f g (Err errors.Memory) e h = tt
  texts_item f g (Err (errors.Fault x)) e h =
      item_at-step is_known levels s r (heads.List c) left e ∙ ap (λ q. q >>= λ p. Ok (list (items_of p.0), p.1)) h

  -- the pairs of a map are an item
  pub fields_item : (key : List ℕ) (texts : Option (List (List ℕ))) (ps : List (Item × Item)) (after : List ℕ)
      → head_at s ≡ Ok (heads.Map c, r)
      → pairs is_known (item_at is_known (levels - 1)) (suc (length r)) c [] r ≡ Ok (pairs_with key texts ps, after)
      → item_at is_known levels s ≡ Ok (with_texts key (dict (pairs_of ps)) texts, after)
  fields_item key texts ps after e h =
      item_at-step is_known levels s r (heads.Map c) left e ∙ ap (λ q. q >>= λ p. Ok (dict (pairs_of p.0), p.1)) h
      ∙ ap (λ v. Ok (v, after)) (map_apart key texts ps)

  -- a fault of theirs is that of the item
  pub fields_wrong : (e : ReadError) → head_at s ≡ Ok (heads.Map c, r)
      → Fails e (pairs is_known (item_at is_known (levels - 1)) (suc (length r)) c [] r)
      → Fails e (item_at is_known levels s)
  fields_wrong e is h =
      subst (Fails e) (sym (item_at-step is_known levels s r (heads.Map c) left is))
      (goes_wrong e _ (λ p. Ok (dict (pairs_of p.0), p.1)) h)

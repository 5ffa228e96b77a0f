-- The new store of a content at a split: its size, what it meets by its content, and what the file meets.
use Rattle.std.proofs.Common.{◌≡◌, inl, inr, ℕ, ◌≤◌, List, [], ◌∷◌, length, map, refl, sym, ap, subst, arith, lit<}
use Rattle.std.specs.List.{AllZip}
use Rattle.c2_base.specs.declared.limits.TheConstants.{MAX_STORE_LEN}
use Rattle.c2_base.specs.declared.values.Question.{Question}
use Rattle.c2_spec.specs.Jpeg.Segments.{place_after}
use Rattle.c2_spec.specs.Jumbf.Tree.{Tree, Trees, tree_bytes}
use Rattle.c2_spec.specs.declared.digest.Alg.{Alg}
use Rattle.c2_rules.specs.Readings.{AreReadings}
use Rattle.c2_definition.specs.declared.types.NewAssertion.{NewAssertion}
use Rattle.c2_new_file_spec.specs.Built.{HasDigestLen}
use Rattle.c2_new_file_spec.specs.Fresh.{IsFresh, MeetsTheRules}
use Rattle.c2_new_file_spec.specs.Manifests.{manifest_of, supers_in}
use Rattle.c2_new_file_spec.specs.Store.{Content, NewIngredient, new_alg, new_manifest, new_store}
use Rattle.c2_new_file_spec.specs.Unbound.{IsKnownBinding, MeetsUnbound}
use Rattle.c2_new_file_spec.specs.Written.{AreIngredients, CanBeCarried, CanBeWritten}
use Rattle.c2_new_file_spec.proofs.BuiltLemmas.{packet_store}
use Rattle.c2_rules.proofs.Conditions.{all_hold}
use Rattle.c2_new_file_spec.proofs.Ingredients.{no_ingredients}
use Rattle.c2_new_file_spec.specs.Carrying.{CanStandOver, IsCarried, RedactionsPass}
use Rattle.c2_new_file_spec.proofs.BmffLaws.{a_new_bmff_store_has_one_length_store}
use Rattle.c2_new_file_spec.proofs.Building.{boxed_store}
use Rattle.c2_new_file_spec.proofs.ParentLaws.{a_valid_store_is_carried_carried}
use Rattle.c2_new_file_spec.proofs.StoreLaws.{a_new_store_has_one_length}
use Rattle.c2_new_content_spec.specs.Taken.{IsRoot, IsTakenFrom}
use Rattle.c2_new_content_spec.specs.Contents.{CanPutAt, ContentFileMeets, ContentSizeIsFixed, FreshContentMeets, GatheredContentMeets, OverContentMeets, content_binding, content_len, content_question, content_size, content_store}
use Rattle.c2_new_content_spec.specs.Splits.{CanHold, HasRoomFor, IsSplitStore, Split, binding_at, of_boxes, of_segments, split_binding, split_file, split_len, split_start, split_text}
use Rattle.c2_new_content_spec.proofs.ContentLaws.{a_gathered_store_meets_the_rules_meets}
use Rattle.c2_new_content_spec.proofs.Meeting.{split_meets}
use Rattle.c2_new_content_spec.proofs.OverLaws.{a_succeeding_store_meets_the_rules}
use Rattle.c2_rules.proofs.OpenedStore.{IsOpenedStore, opened_store}

-- ---- the store at a split

-- the store at a split has one length
pub size_fixed : ContentSizeIsFixed
size_fixed hash c (of_segments front back number) len digest message sized long =
    a_new_store_has_one_length hash c (place_after front) len digest message sized long
size_fixed hash c (of_boxes front back) len digest message sized long =
    a_new_bmff_store_has_one_length_store hash c digest message sized long

-- the binding at a split is of a kind that is known
known_at : (alg : Alg) (s : Split) (len : ℕ) (digest : List ℕ) → IsKnownBinding (split_binding alg s len digest)
known_at alg (of_segments front back number) len digest = record { label = inl refl; item = refl }
known_at alg (of_boxes front back) len digest = record { label = inr refl; item = refl }

-- a new store that isn't too large can be put in
pub stored_at : (hash : List ℕ → List ℕ) (c : Content) (binding : NewAssertion) (message : List ℕ) (s : Split)
    → length (tree_bytes (new_store hash c binding message)) ≤ MAX_STORE_LEN
    → IsSplitStore s (tree_bytes (new_store hash c binding message))
stored_at hash c binding message (of_segments front back number) small =
    packet_store c.carried (new_manifest hash c binding message) small
stored_at hash c binding message (of_boxes front back) small =
    boxed_store c.carried (new_manifest hash c binding message) small

-- the size of a new store at a split
pub store_size : (hash : List ℕ → List ℕ) (c : Content) (message base : List ℕ) (s : Split)
    → HasDigestLen (new_alg c.definition) hash
    → length (tree_bytes (content_store hash c message base s)) ≡ content_size s c (length message)
store_size hash c message base s sized =
    let len : ℕ = content_len s c (length message) in
    size_fixed hash c s len (hash (split_text base s len)) message sized (sized (split_text base s len))

-- where there is room for the content, the file can hold the store
pub can_hold : (hash : List ℕ → List ℕ) (c : Content) (message base : List ℕ) (s : Split)
    → HasDigestLen (new_alg c.definition) hash
    → CanPutAt c (length message) base s → CanHold base s (tree_bytes (content_store hash c message base s))
can_hold hash c message base s sized can =
    let size = store_size hash c message base s sized in
    record {
      room = subst (HasRoomFor base s) (sym size) can.room;
      free = can.free;
      stored =
          stored_at hash c (content_binding hash c (length message) base s) message s
          (omega (arith, size, can.room.small));
    }

-- ---- the file

-- what holds of the content and of the split gives what holds of the file
pub content_meets : ContentFileMeets
content_meets hash c message base piece s parts older digests content can put =
    let alg : Alg = new_alg c.definition in
    let h : List ℕ → List ℕ = hash alg in
    let sized : HasDigestLen alg h = λ text. (digests alg text).sized in
    let len : ℕ = content_len s c (length message) in
    let t : Tree = content_store h c message base s in
    let qs : List Question = content_question h c (length message) base s parts ∷ older in
    let size : length (tree_bytes t) ≡ content_size s c (length message) = store_size h c message base s sized in
    let known : IsKnownBinding (content_binding h c (length message) base s) =
    known_at alg s len (h (split_text base s len)) in
    let unbound : MeetsUnbound hash t (binding_at h alg base s len) qs =
    content (content_binding h c (length message) base s) known (omega (arith, size, can.room.small)) in
    let same : split_len s (length (tree_bytes t)) ≡ len = ap (split_len s) size in
    subst (λ n. MeetsTheRules hash (split_file base s piece) (split_start s) n t qs) same
    (split_meets hash alg t base piece s qs digests (can_hold h c message base s sized can) put
    (subst (λ n. MeetsUnbound hash t (binding_at h alg base s n) qs) (sym same) unbound))

-- ---- the contents

-- over a valid media file with a store
pub over_content : OverContentMeets
over_content hash said media start len old r d c message parts can w is spells =
    let o : IsOpenedStore old = opened_store media start len old can.opened in
    let over : CanStandOver hash said d old r = record {
      legal = o.legal;
      store = o.accepted;
      reads = can.reads.reads.each;
      valid = can.valid;
      label = can.label;
      redactions = can.redactions;
    } in
    let carried : IsCarried hash c r.readings =
    a_valid_store_is_carried_carried hash said d old r c over can.few is in
    λ binding known small.
    a_succeeding_store_meets_the_rules hash c is.parent binding message parts r.readings carried.readings
    is.ingredients
    (subst CanBeWritten (sym is.definition) w) known small spells carried.over (carried.last is.parent is.is_parent)

-- with ingredients
pub gathered_content : GatheredContentMeets
gathered_content hash c message parts roots rs ss over = λ binding known small.
    a_gathered_store_meets_the_rules_meets hash c binding message parts roots rs ss (record {
      written = over.written;
      ingredients = over.ingredients;
      known = known;
      fits = small;
      spells = over.spells;
      taken = over.taken;
      named = over.named;
    })

-- a store of a definition alone takes over no boxes, from no roots
takes_none : (hash : Alg → List ℕ → List ℕ) (c : Content) → IsFresh c → IsTakenFrom hash c.definition c.carried [] [] []
takes_none hash c is = record {
  can_be = subst (CanBeCarried c.definition.label) (sym is.carried)
      (record { legal = tt; distinct = tt; new = tt; manifests = tt; few = lit< tt });
  reads = subst (λ (boxes : Trees). AreReadings (map manifest_of (supers_in boxes)) []) (sym is.carried) tt;
  less = tt;
  rooted =
      record
      { differ = λ i j r s e. absurd (cc (e)); kinds = λ i r e. absurd (cc (e)); within = tt; holds = λ i r e. absurd (cc (e)) };
  can = record {
    kinds = λ i r e. absurd (cc (e));
    reached = λ i r label e. absurd (cc (e));
    listed = λ i r label e. absurd (cc (e));
    signed = λ i r e. absurd (cc (e));
  };
  redactions = subst (RedactionsPass c.definition.label) (sym is.redact) (all_hold [] tt);
}

-- a store of a definition alone has no ingredients and no further questions
pub fresh_content : FreshContentMeets
fresh_content hash c message parts is w spells = gathered_content hash c message parts [] [] [] (record {
  written = w;
  ingredients = subst AreIngredients (sym is.ingredients) no_ingredients;
  spells = spells;
  taken = takes_none hash c is;
  named =
      subst (λ (gs : List NewIngredient). AllZip (λ (g : NewIngredient) root. IsRoot [] [] g.of root) gs [])
      (sym is.ingredients) tt;
})

-- The laws of a store over an older one and of the file that holds it follow from that of every new store: its one root is the last
-- manifest of the older store.
use Rattle.std.proofs.Common.{◌≡◌, ℕ, suc, ◌-◌, ◌<◌, Bool, cond, List, [], ◌∷◌, length, slice_get, sym, ap, ◌∙◌, subst, arith}
use Rattle.std.proofs.Math.Path.{fun_ext}
use Rattle.std.specs.List.{AllZip}
use Rattle.std.proofs.lemmas.Option.{same_Some, slice_get_within}
use Rattle.c2_base.specs.declared.values.Question.{Question}
use Rattle.c2_spec.specs.C2pa.Sign1.{question_of}
use Rattle.c2_spec.specs.declared.digest.Alg.{Alg}
use Rattle.c2_rules.specs.Chains.{LabelsDiffer, label_in}
use Rattle.c2_rules.specs.CheckList.{questions, questions_of}
use Rattle.c2_rules.specs.Readings.{Reading}
use Rattle.c2_rules.specs.Tests.{downward}
use Rattle.c2_chain_spec.specs.Rooted.{ReadsKinds, last_roots}
use Rattle.c2_chain_spec.proofs.ChainLaws.{a_store_is_rooted_at_its_last_manifest}
use Rattle.c2_chain_spec.proofs.Rooting.{last_active}
use Rattle.c2_new_file_spec.specs.Store.{Content, NamedManifest, NewIngredient, new_alg, new_claim, new_store, parent_ingredient}
use Rattle.c2_new_file_spec.specs.Unbound.{MeetsUnbound}
use Rattle.c2_new_file_spec.specs.Written.{AreIngredients}
use Rattle.c2_new_file_spec.proofs.Ingredients.{parent_alone}
use Rattle.c2_new_file_spec.specs.Carrying.{IsLast, IsTakenOver}
use Rattle.c2_new_file_spec.specs.Less.{AreLess, CanRedactBy}
use Rattle.c2_new_file_spec.proofs.Places.{LessAt, less_at, less_label}
use Rattle.c2_new_file_spec.proofs.Stores.{store_differs}
use Rattle.c2_new_content_spec.specs.Gathered.{IsOverRoots}
use Rattle.c2_new_content_spec.specs.Taken.{IsRoot, IsTakenFrom, questions_from}
use Rattle.c2_new_content_spec.specs.Over.{SucceedingStoreMeets}
use Rattle.c2_new_content_spec.proofs.ContentLaws.{a_gathered_store_meets_the_rules_meets}
use Rattle.c2_lemmas.proofs.Each.{contains_at, member_of}

-- ---- what is taken over

-- labels of older manifests differ, where those of what is carried do
old_differ : (redacts : List (List ℕ)) (rs ss : List Reading) → AreLess redacts rs ss → LabelsDiffer ss
    → LabelsDiffer rs
old_differ redacts rs ss less differ i j r s e f g =
    let a : LessAt redacts rs ss i = less_at redacts rs ss i less (slice_get_within rs i r e) in
    let b : LessAt redacts rs ss j = less_at redacts rs ss j less (slice_get_within rs j s f) in
    differ i j a.new b.new a.is_new b.is_new
    (less_label redacts a.old a.new a.less ∙ ap label_in (same_Some a.old r (sym a.is_old ∙ e)) ∙ g ∙ sym (ap label_in (same_Some b.old s (sym b.is_old ∙ f))) ∙ sym (less_label redacts b.old b.new b.less))

-- an older store that is taken over is a chain that is taken over from its last manifest
taken_from : (hash : Alg → List ℕ → List ℕ) (c : Content) (rs ss : List Reading)
    → IsTakenOver hash c rs ss → IsTakenFrom hash c.definition c.carried (last_roots rs) rs ss
taken_from hash c rs ss h = record {
  can_be = h.carried;
  reads = h.reads;
  less = h.less;
  rooted = a_store_is_rooted_at_its_last_manifest hash rs
      (old_differ c.definition.redact rs ss h.less (store_differs c.carried ss h.reads h.carried.manifests h.carried.distinct))
      (λ i r is. member_of ReadsKinds rs r h.kinds (contains_at rs i r is)) h.holds;
  can = subst (λ (f : ℕ → Bool). CanRedactBy f c.definition.redact rs) (fun_ext (λ i. last_active rs i)) h.can;
  redactions = h.redactions;
}

-- ---- the store

-- the last root
pub last_place : (rs : List Reading) → 0 < length rs → last_roots rs ≡ (length rs - 1) ∷ []
last_place [] h = absurd (omega (arith, h))
last_place (r ∷ rs) h = ap (λ n. n ∷ []) (let e : length rs ≡ suc (length rs) - 1 = omega arith in e)

-- the parent is the root
parent_root : (p : NamedManifest) (rs ss : List Reading) → IsLast p rs ss → IsRoot rs ss p (length rs - 1)
parent_root p rs ss last =
    let some : 0 < length rs = last.some in
    record
    { place = last.place; within = omega (arith, some); named = last.active; is_named = last.is_active; contents = last.contents; signed = last.signed; label = last.label; names = last.names }

-- what is asked of a store is what is asked from its last manifest
asked_from : (rs : List Reading) → questions_from rs (last_roots rs) ≡ questions rs
asked_from rs =
    ap (λ (f : ℕ → Bool). downward (λ i. cond (f i) (questions_of (slice_get rs i)) []) (length rs))
    (fun_ext (λ i. sym (last_active rs i)))

-- a new store with the last manifest of an older one as its parent meets the rules
pub over_last : SucceedingStoreMeets
over_last hash c parent binding message p rs ss has w known small spells over last =
    let h : List ℕ → List ℕ = hash (new_alg c.definition) in
    let named : AllZip (λ (g : NewIngredient) r. IsRoot rs ss g.of r) (parent_ingredient parent ∷ []) (last_roots rs) =
    subst (AllZip (λ (g : NewIngredient) r. IsRoot rs ss g.of r) (parent_ingredient parent ∷ []))
    (sym (last_place rs last.some)) (parent_root parent rs ss last, tt) in
    let over_roots : IsOverRoots hash c binding message p (last_roots rs) rs ss = record {
      written = w;
      ingredients = subst AreIngredients (sym has) (parent_alone parent);
      known = known;
      fits = small;
      spells = spells;
      taken = taken_from hash c rs ss over;
      named = subst
          (λ (gs : List NewIngredient). AllZip (λ (g : NewIngredient) r. IsRoot rs ss g.of r) gs (last_roots rs))
          (sym has) named;
    } in
    subst
    (λ (qs : List Question). MeetsUnbound hash (new_store h c binding message) binding (question_of p (new_claim h c binding) ∷ qs))
    (asked_from rs) (a_gathered_store_meets_the_rules_meets hash c binding message p (last_roots rs) rs ss over_roots)

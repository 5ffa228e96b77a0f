-- The boxes that are carried of a store.
use Rattle.std.specs.Prelude.{unwrap_or, ◌==◌}
use Rattle.std.proofs.lemmas.Bool.{eqb-true}
use Rattle.std.proofs.Common.{◌≡◌, ℕ, suc, ◌≤◌, Bool, true, false, cond, List, [], ◌∷◌, length, Option, Some, None, refl, sym, ap, ◌∙◌, arith}
use Rattle.c2_spec.specs.Jumbf.Boxes.{AnyBox, node, any_bytes, any_label, box_at}
use Rattle.c2_spec.specs.Jumbf.Tree.{Tree, Trees, leaf, super, none, more, trees_bytes}
use Rattle.c2_spec.proofs.JumbfBoxes.{any_size}
use Rattle.c2_rules.specs.Chains.{passes_some}
use Rattle.c2_new_file_spec.specs.Manifests.{is_assertion_store}
use Rattle.c2_new_file_spec.specs.Redacting.{boxes_in, redacted_box, redacted_boxes, takes_out, thin_boxes, thin_store, without}
use Rattle.c2_parent.specs.Boxes.{changed, name_in, redacted_any}
use Rattle.c2_parent.specs.Named.{AreNamed, is_among}
use Rattle.c2_parent.specs.declared.named.Named.{Named}
use Rattle.c2_parent.proofs.Contents.{boxes_size}
use Rattle.c2_parent.proofs.NamedLemmas.{taken_is}
use Rattle.c2_parent.proofs.Walking.{root_box}
use Rattle.c2_collect_spec.proofs.Lengths.{boxes_less}

-- a manifest less what is named of it is the manifest less what is redacted
pub redacted_named : (redacts : List (List ℕ)) (named : Named) (b : AnyBox) → AreNamed redacts named
    → changed (thin_boxes (is_among named (name_in b))) b ≡ redacted_any redacts b
redacted_named redacts named b h =
    ap (λ (out : List ℕ → Bool). changed (thin_boxes out) b) (taken_is redacts named (name_in b) h)

-- all that is carried is no longer than the store
pub carried_bound : (redacts : List (List ℕ)) (t : Tree)
    → length (trees_bytes (redacted_boxes redacts (boxes_in t))) ≤ length (any_bytes (box_at t 0).box)
carried_bound redacts t =
    let root = ap (λ (b : AnyBox). length (any_bytes b)) (root_box t) in
    omega (arith, root, boxes_less redacts (boxes_in t), boxes_size (node t), any_size (node t))

-- ---- without redactions

-- nothing is taken out where nothing is redacted
kept : (m : List ℕ) (ts : Trees) → without (takes_out [] m) ts ≡ ts
kept m none = refl
kept m (more t ts) = go (any_label (node t)) ∙ ap (more t) (kept m ts)
  where
    go : (o : Option (List ℕ))
        → cond (passes_some (takes_out [] m) o) (without (takes_out [] m) ts) (more t (without (takes_out [] m) ts)) ≡ more t (without (takes_out [] m) ts)
    go None = refl
    go (Some l) = refl

-- an assertion store stays whole then
whole_store : (m : List ℕ) (t : Tree) → thin_store (takes_out [] m) t ≡ t
whole_store m (leaf b) = refl
whole_store m (super wide d us) = ap (super wide d) (kept m us)

-- the boxes of a manifest stay whole where nothing is redacted
whole_boxes : (m : List ℕ) (ts : Trees) → thin_boxes (takes_out [] m) ts ≡ ts
whole_boxes m none = refl
whole_boxes m (more t ts) = go (is_assertion_store t) (whole_boxes m ts)
  where
    go : (b : Bool) → thin_boxes (takes_out [] m) ts ≡ ts
        → cond b (more (thin_store (takes_out [] m) t) ts) (more t (thin_boxes (takes_out [] m) ts)) ≡ more t ts
    go true h = ap (λ (u : Tree). more u ts) (whole_store m t)
    go false h = ap (more t) h

-- without redactions all boxes are carried as they stand
pub all_whole : (ts : Trees) → redacted_boxes [] ts ≡ ts
all_whole none = refl
all_whole (more t ts) = ap (λ (u : Tree). more u (redacted_boxes [] ts)) (whole t) ∙ ap (more t) (all_whole ts)
  where
    whole : (u : Tree) → redacted_box [] u ≡ u
    whole (leaf b) = refl
    whole (super wide d us) = ap (super wide d) (whole_boxes (unwrap_or d.label []) us)

-- without redactions the bytes of all boxes are those that are carried
pub whole_carried : (redacts : List (List ℕ)) (t : Tree) → redacts ≡ []
    → trees_bytes (boxes_in t) ≡ trees_bytes (redacted_boxes redacts (boxes_in t))
whole_carried redacts t e =
    ap trees_bytes (sym (ap (λ (x : List (List ℕ)). redacted_boxes x (boxes_in t)) e ∙ all_whole (boxes_in t)))

-- no text is in an empty list of them
pub none_there : (redacts texts : List (List ℕ)) (b : Bool) → texts ≡ redacts → b ≡ (length texts == 0) → b ≡ true
    → redacts ≡ []
none_there redacts texts b e f is = sym e ∙ go texts (sym f ∙ is)
  where
    go : (xs : List (List ℕ)) → (length xs == 0) ≡ true → xs ≡ []
    go [] h = refl
    go (x ∷ xs) h = let z : suc (length xs) ≡ 0 = eqb-true (suc (length xs)) 0 h in absurd (omega (arith, z))

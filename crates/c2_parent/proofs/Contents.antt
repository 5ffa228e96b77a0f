-- The bytes of a box whose boxes are others, and their number.
use Rattle.std.proofs.Common.{◌≡◌, ℕ, ◌+◌, ◌≤◌, Bool, true, false, cond, List, ◌++◌, length, refl, sym, ap, ◌∙◌, append_assoc, append-nil, length-append, arith}
use Rattle.std.proofs.lemmas.List.{drop_at}
use Rattle.std.specs.Prelude.{drop}
use Rattle.std.specs.Int.{w32, w64, to_be_bytes}
use Rattle.c2_spec.specs.declared.kinds.TheConstants.{JUMB}
use Rattle.c2_spec.specs.Jumbf.Tree.{Tree, Trees, leaf, super, none, more, boxed, head_len, head_bytes, description_bytes, description_payload, tree_bytes, trees_bytes}
use Rattle.c2_spec.specs.Jumbf.Boxes.{AnyBox, node, described, any_bytes, any_contents, any_kind, any_label, any_wide}
use Rattle.c2_rules.specs.Chains.{passes_some}
use Rattle.c2_spec.proofs.JumbfBoxes.{any_size}
use Rattle.c2_parent.specs.Boxes.{any_boxes, changed, front_bytes, lost, lost_in_store}
use Rattle.c2_new_file_spec.specs.Manifests.{is_assertion_store}
use Rattle.c2_new_file_spec.specs.Redacting.{without, thin_store, thin_boxes, boxes_in}

-- behind its header a box has its front and its boxes
pub contents_split : (b : AnyBox) → any_contents b ≡ front_bytes b ++ trees_bytes (any_boxes b)
contents_split (node (leaf b)) = sym (append-nil b.payload)
contents_split (node (super wide d us)) = refl
contents_split (described d) = sym (append-nil (description_payload d))

-- behind its header a box with other boxes in it has its front and those boxes
pub changed_split : (change : Trees → Trees) (b : AnyBox) → change none ≡ none
    → any_contents (changed change b) ≡ front_bytes b ++ trees_bytes (change (any_boxes b))
changed_split change (node (leaf b)) e = sym (append-nil b.payload) ∙ ap (λ ts. b.payload ++ trees_bytes ts) (sym e)
changed_split change (node (super wide d us)) e = refl
changed_split change (described d) e =
    sym (append-nil (description_payload d)) ∙ ap (λ ts. description_payload d ++ trees_bytes ts) (sym e)

-- a box with other boxes in it keeps the form of its header
changed_bytes : (change : Trees → Trees) (b : AnyBox)
    → any_bytes (changed change b) ≡ head_bytes (any_kind b) (any_wide b) (length (any_contents (changed change b))) ++ any_contents (changed change b)
changed_bytes change (node (leaf b)) = refl
changed_bytes change (node (super wide d us)) = refl
changed_bytes change (described d) = refl

-- a box is its header and its contents
pub box_bytes : (b : AnyBox) (out o1 o2 : List ℕ)
    → o1 ≡ out ++ head_bytes (any_kind b) (any_wide b) (length (any_contents b)) → o2 ≡ o1 ++ any_contents b
    → o2 ≡ out ++ any_bytes b
box_bytes b out o1 o2 e f =
    f ∙ ap (λ x. x ++ any_contents b) e
    ∙ append_assoc out (head_bytes (any_kind b) (any_wide b) (length (any_contents b))) (any_contents b)
    ∙ ap (λ x. out ++ x) (sym (whole b))
  where
    whole : (x : AnyBox)
        → any_bytes x ≡ head_bytes (any_kind x) (any_wide x) (length (any_contents x)) ++ any_contents x
    whole (node (leaf y)) = refl
    whole (node (super wide d us)) = refl
    whole (described d) = refl

-- a box with other boxes, appended as its header, its front and these boxes
pub changed_appended : (change : Trees → Trees) (b : AnyBox) (len : ℕ) (out o1 o2 o3 : List ℕ) → change none ≡ none
    → len ≡ length (any_contents (changed change b)) → o1 ≡ out ++ head_bytes (any_kind b) (any_wide b) len
    → o2 ≡ o1 ++ front_bytes b
    → o3 ≡ o2 ++ trees_bytes (change (any_boxes b)) → o3 ≡ out ++ any_bytes (changed change b)
changed_appended change b len out o1 o2 o3 e size h f g =
    let head = head_bytes (any_kind b) (any_wide b) in
    let boxes = trees_bytes (change (any_boxes b)) in
    g ∙ ap (λ x. x ++ boxes) (f ∙ ap (λ x. x ++ front_bytes b) h)
    ∙ append_assoc (out ++ head len) (front_bytes b) boxes ∙ append_assoc out (head len) (front_bytes b ++ boxes)
    ∙ ap (λ x. out ++ x)
    (ap (λ x. head len ++ x) (sym (changed_split change b e)) ∙ ap (λ n. head n ++ any_contents (changed change b)) size ∙ sym (changed_bytes change b))

-- ---- lengths

-- the length of a box by that of its contents
head_size : (kind : ℕ) (wide : Bool) (s r : List ℕ) (n : ℕ) → length s + n ≡ length r
    → length (boxed kind wide s) + n ≡ length (boxed kind wide r)
head_size kind true s r n e = omega (arith, e)
head_size kind false s r n e = omega (arith, e)

-- what isn't left is lost
pub length-without : (out : List ℕ → Bool) (ts : Trees)
    → length (trees_bytes (without out ts)) + lost out ts ≡ length (trees_bytes ts)
length-without out none = refl
length-without out (more t ts) = go (passes_some out (any_label (node t))) refl (length-without out ts)
  where
    all : length (tree_bytes t ++ trees_bytes ts) ≡ length (tree_bytes t) + length (trees_bytes ts)
    all = length-append (tree_bytes t) (trees_bytes ts)

    go : (b : Bool) → passes_some out (any_label (node t)) ≡ b
        → length (trees_bytes (without out ts)) + lost out ts ≡ length (trees_bytes ts)
        → length (trees_bytes (cond b (without out ts) (more t (without out ts)))) + (cond b (length (tree_bytes t)) 0 + lost out ts) ≡ length (tree_bytes t ++ trees_bytes ts)
    go true e h = omega (arith, all, h)
    go false e h = omega (arith, all, length-append (tree_bytes t) (trees_bytes (without out ts)), h)

-- an assertion store less what is lost
pub length-store : (out : List ℕ → Bool) (t : Tree)
    → length (tree_bytes (thin_store out t)) + lost out (boxes_in t) ≡ length (tree_bytes t)
length-store out (leaf b) = omega arith
length-store out (super wide d us) =
    head_size JUMB wide (description_bytes d ++ trees_bytes (without out us)) (description_bytes d ++ trees_bytes us)
    (lost out us)
    (omega (arith, length-append (description_bytes d) (trees_bytes (without out us)), length-append (description_bytes d) (trees_bytes us), length-without out us))

-- a manifest's boxes less what is lost
pub length-thin : (out : List ℕ → Bool) (ts : Trees)
    → length (trees_bytes (thin_boxes out ts)) + lost_in_store out ts ≡ length (trees_bytes ts)
length-thin out none = refl
length-thin out (more t ts) = go (is_assertion_store t) refl (length-thin out ts)
  where
    all : length (tree_bytes t ++ trees_bytes ts) ≡ length (tree_bytes t) + length (trees_bytes ts)
    all = length-append (tree_bytes t) (trees_bytes ts)

    go : (b : Bool) → is_assertion_store t ≡ b
        → length (trees_bytes (thin_boxes out ts)) + lost_in_store out ts ≡ length (trees_bytes ts)
        → length (trees_bytes (cond b (more (thin_store out t) ts) (more t (thin_boxes out ts)))) + cond b (lost out (boxes_in t)) (lost_in_store out ts) ≡ length (tree_bytes t ++ trees_bytes ts)
    go true e h = omega (arith, all, length-append (tree_bytes (thin_store out t)) (trees_bytes ts), length-store out t)
    go false e h = omega (arith, all, length-append (tree_bytes t) (trees_bytes (thin_boxes out ts)), h)

-- a box with other boxes, by how much these are shorter
pub changed_size : (change : Trees → Trees) (b : AnyBox) (n : ℕ) → change none ≡ none
    → length (trees_bytes (change (any_boxes b))) + n ≡ length (trees_bytes (any_boxes b))
    → length (any_contents (changed change b)) + n ≡ length (any_contents b)
changed_size change b n e h =
    omega
    (arith, h, ap length (changed_split change b e), ap length (contents_split b), length-append (front_bytes b) (trees_bytes (change (any_boxes b))), length-append (front_bytes b) (trees_bytes (any_boxes b)))

-- the whole length of a box with other boxes, by how much these are shorter
pub changed_total : (change : Trees → Trees) (b : AnyBox) (n : ℕ) → change none ≡ none
    → length (trees_bytes (change (any_boxes b))) + n ≡ length (trees_bytes (any_boxes b))
    → length (any_bytes (changed change b)) + n ≡ length (any_bytes b)
changed_total change b n e h = omega (arith, changed_size change b n e h, any_size b, any_size (changed change b), wide b)
  where
    wide : (x : AnyBox) → head_len (any_wide (changed change x)) ≡ head_len (any_wide x)
    wide (node (leaf y)) = refl
    wide (node (super w d us)) = refl
    wide (described d) = refl

-- no more bytes are in a box's boxes than in the box
pub boxes_size : (b : AnyBox) → length (trees_bytes (any_boxes b)) ≤ length (any_contents b)
boxes_size b = omega (arith, ap length (contents_split b), length-append (front_bytes b) (trees_bytes (any_boxes b)))

-- no more bytes are in a box's front than in the box
pub front_size : (b : AnyBox) → length (front_bytes b) ≤ length (any_contents b)
front_size b = omega (arith, ap length (contents_split b), length-append (front_bytes b) (trees_bytes (any_boxes b)))

-- what is lost is no longer than the box
pub lost_bound : (out : List ℕ → Bool) (b : AnyBox) → lost out (any_boxes b) ≤ length (any_bytes b)
lost_bound out b = omega (arith, length-without out (any_boxes b), boxes_size b, any_size b)

-- behind its front a box has its boxes
pub boxes_behind : (b : AnyBox) → drop (length (front_bytes b)) (any_contents b) ≡ trees_bytes (any_boxes b)
boxes_behind b =
    ap (drop (length (front_bytes b))) (contents_split b)
    ∙ drop_at (front_bytes b) (trees_bytes (any_boxes b)) (length (front_bytes b)) refl

-- a wide header, as it is appended
pub wide_appended : (kind len : ℕ) (wide : Bool) (out o1 o2 o3 one name long : List ℕ) → wide ≡ true
    → one ≡ to_be_bytes w32 1 → name ≡ to_be_bytes w32 kind → long ≡ to_be_bytes w64 (16 + len)
    → o1 ≡ out ++ one → o2 ≡ o1 ++ name → o3 ≡ o2 ++ long → o3 ≡ out ++ head_bytes kind wide len
wide_appended kind len wide out o1 o2 o3 one name long is e f g h k m =
    m ∙ ap (λ x. x ++ long) (k ∙ ap (λ x. x ++ name) h) ∙ append_assoc (out ++ one) name long
    ∙ append_assoc out one (name ++ long)
    ∙ ap (λ x. out ++ (x ++ (name ++ long))) e ∙ ap (λ x. out ++ (to_be_bytes w32 1 ++ (x ++ long))) f
    ∙ ap (λ x. out ++ (to_be_bytes w32 1 ++ (to_be_bytes w32 kind ++ x))) g
    ∙ ap (λ w. out ++ head_bytes kind w len) (sym is)

-- a box with other boxes, appended as its header and its contents
pub changed_whole : (change : Trees → Trees) (b : AnyBox) (len : ℕ) (out o1 o2 : List ℕ)
    → len ≡ length (any_contents (changed change b)) → o1 ≡ out ++ head_bytes (any_kind b) (any_wide b) len
    → o2 ≡ o1 ++ any_contents (changed change b) → o2 ≡ out ++ any_bytes (changed change b)
changed_whole change b len out o1 o2 size h f =
    let head = head_bytes (any_kind b) (any_wide b) in
    f ∙ ap (λ x. x ++ any_contents (changed change b)) h ∙ append_assoc out (head len) (any_contents (changed change b))
    ∙ ap (λ x. out ++ x) (ap (λ n. head n ++ any_contents (changed change b)) size ∙ sym (changed_bytes change b))

-- Each list of bytes is a tree, or has a first failing test.
use Rattle.std.proofs.Common.{◌≡◌, ◌≢◌, ◌⊎◌, inl, inr, ⊎_elim, ℕ, zero, suc, ◌+◌, ◌-◌, ◌^◌, ◌<◌, ◌≤◌, Bool, true, false, List, [], ◌∷◌, ◌++◌, length, take, drop, Option, Some, None, refl, sym, ap, ◌∙◌, subst, append_assoc, arith, length-append}
use Rattle.std.proofs.lemmas.List.{append-nil}
use Rattle.std.proofs.lemmas.Bool.{cases_lt, cases_eq}
use Rattle.std.proofs.lemmas.Slice.Eq.{bytes_eq-Decides}
use Rattle.std.specs.List.{All, AllByRecursion}
use Rattle.std.specs.Str.{bytes_eq}
use borrow.Author.Tests.{both_ways}
use Rattle.c2_spec.specs.declared.kinds.TheConstants.{JUMB, JUMD}
use Rattle.c2_spec.specs.declared.jumbf.JumbfError.{JumbfError}
use Rattle.c2_spec.specs.declared.jumbf.JumbfError.TheVariants.{NoDescription, BadDescription, DuplicateLabel, TooDeep, Trailing}
use Rattle.c2_spec.specs.Jumbf.Tree.{Description, description_payload, description_bytes, FitsHead, head_len, boxed, Tree, Trees, leaf, super, none, tree_bytes, trees_bytes, tree_label, tree_labels, IsNewLabel, IsLegalTree, AreLegalTrees, AreDistinctLabels, SpellsTree}
use Rattle.c2_spec.specs.Jumbf.Faults.{tells_wide, told_total, told_kind, told_payload, box_head_fault, IsSuperbox, OpensSuperbox, TreeFault, JumbfFault}
use Rattle.c2_spec.specs.Jumbf.Boxes.{node}
use Rattle.c2_spec.proofs.JumbfHeads.{good_at}
use Rattle.c2_jumbf.specs.Flat.{ChildFault}
use Rattle.c2_jumbf.specs.Heads.{IsHead}
use Rattle.c2_jumbf.proofs.HeadLaws.{payload_size, front_whole}
use Rattle.c2_lemmas.proofs.Bytes.{AreBytes, are_bytes, bytes-drop, bytes-take}
use Rattle.c2_jumbf.proofs.Trees.{push_tree, spelled-push, labels-push, legal-push}
use Rattle.c2_jumbf.proofs.DistinctLabels.{distinct-push}
use Rattle.c2_spec.proofs.JumbfBoxes.{any_least, head_size}
use Rattle.c2_jumbf.proofs.EachDescription.{good_or, told, told_head, told_fits, FieldsOr, described, undescribed, bytes_back, fields_or}

-- a label is new, or it isn't
new_or : (o : Option (List ℕ)) (earlier : List (Option (List ℕ))) → IsNewLabel o earlier ⊎ (IsNewLabel o earlier → ⊥)
new_or None earlier = inl tt
new_or (Some t) earlier = go earlier
  where
    differ : (o : Option (List ℕ)) → (o ≡ Some t) ⊎ (o ≢ Some t)
    differ None = inr (λ e. cc (e))
    differ (Some u) = test (bytes_eq u t) refl
      where
        test : (b : Bool) → bytes_eq u t ≡ b → (Some u ≡ Some t) ⊎ (Some u ≢ Some t)
        test true is = inl (ap Some ((bytes_eq-Decides u t).0 is))
        test false is = inr (λ e. both_ways _ is ((bytes_eq-Decides u t).1 (cc (e))))

    go : (os : List (Option (List ℕ))) → AllByRecursion (λ o. o ≢ Some t) os ⊎ (AllByRecursion (λ o. o ≢ Some t) os → ⊥)
    go [] = inl tt
    go (o ∷ os) =
        ⊎_elim (λ same. inr (λ h. h.0 same)) (λ other. ⊎_elim (λ h. inl (other, h)) (λ n. inr (λ h. n h.1)) (go os))
        (differ o)

-- A region begins with a tree, or a test of it fails.
data TreeOr (earlier : List (Option (List ℕ))) (depth at : ℕ) (region : List ℕ) : Type 0 where
  spelled : (t : Tree) (rest : List ℕ) → IsLegalTree depth t → IsNewLabel (tree_label t) earlier
      → region ≡ tree_bytes t ++ rest → TreeOr earlier depth at region
  failing : (e : JumbfError) → TreeFault earlier depth at region e → TreeOr earlier depth at region

-- Trees fill a payload, or a test of one fails.
data TreesOr (depth at : ℕ) (payload : List ℕ) : Type 0 where
  filling : (ts : Trees) → AreLegalTrees depth ts → AreDistinctLabels (tree_labels ts) → payload ≡ trees_bytes ts
      → TreesOr depth at payload
  broken : (e : JumbfError) → ChildFault depth at payload e → TreesOr depth at payload

-- a tree has bytes
fewer : (t : Tree) (region rest : List ℕ) → region ≡ tree_bytes t ++ rest → length rest < length region
fewer t region rest split = let n : length region ≡ length (tree_bytes t) + length rest = ap length split ∙ length-append (tree_bytes t) rest in omega (arith, n, any_least (node t))

-- Trees are taken from the start of a payload by a reader of trees.
fill : (m n depth at : ℕ) (payload : List ℕ)
    → ((earlier : List (Option (List ℕ))) (place : ℕ) (region : List ℕ) → length region < n → AreBytes region → TreeOr earlier depth place region)
    → length payload < n → AreBytes payload → (taken : Trees) (rest : List ℕ) → length rest < m
    → AreLegalTrees depth taken → AreDistinctLabels (tree_labels taken) → payload ≡ trees_bytes taken ++ rest
    → TreesOr depth at payload
fill zero n depth at payload reader small all taken rest less legal distinct split = absurd (omega arith)
fill (suc m) n depth at payload reader small all taken [] less legal distinct split =
    filling taken legal distinct (split ∙ append-nil (trees_bytes taken))
fill (suc m) n depth at payload reader small all taken (x ∷ xs) less legal distinct split =
    go (λ ts more l k d e. fill m n depth at payload reader small all ts more l k d e)
    (reader (tree_labels taken) (at + length payload - length (x ∷ xs)) (x ∷ xs) (omega (arith, sizes, small)) (bytes_back payload (trees_bytes taken) (x ∷ xs) all split))
  where
    sizes : length payload ≡ length (trees_bytes taken) + length (x ∷ xs)
    sizes = ap length split ∙ length-append (trees_bytes taken) (x ∷ xs)

    go : ((ts : Trees) (more : List ℕ) → length more < m → AreLegalTrees depth ts → AreDistinctLabels (tree_labels ts) → payload ≡ trees_bytes ts ++ more → TreesOr depth at payload)
        → TreeOr (tree_labels taken) depth (at + length payload - length (x ∷ xs)) (x ∷ xs) → TreesOr depth at payload
    go onwards (failing e f) =
        broken e
        (record { trees = taken; rest = x ∷ xs; legal = legal; distinct = distinct; bytes = split; some = omega arith; fails = f })
    go onwards (spelled t more own new front) =
        onwards (push_tree taken t) more (omega (arith, less, fewer t (x ∷ xs) more front))
        (legal-push depth taken t legal own)
        (subst AreDistinctLabels (sym (labels-push taken t)) (distinct-push (tree_labels taken) (tree_label t) distinct new))
        (split ∙ ap (λ (y : List ℕ). trees_bytes taken ++ y) front ∙ sym (append_assoc (trees_bytes taken) (tree_bytes t) more) ∙ ap (λ (y : List ℕ). y ++ more) (sym (spelled-push taken t)))

-- A superbox whose description is read, and a reader of what stands behind that.
opened_or : (earlier : List (Option (List ℕ))) (depth at : ℕ) (region : List ℕ) → AreBytes region
    → IsHead region (told region) → (d : Description) (rest : List ℕ) → OpensSuperbox depth region d rest
    → length rest ≤ told_total region
    → ((place : ℕ) → TreesOr (depth + 1) place rest) → TreeOr earlier depth at region
opened_or earlier depth at region all k d rest o short reader = ⊎_elim (λ new. go new (reader (at + told_total region - length rest))) (λ old. failing (DuplicateLabel at) (TreeFault.same_label d rest o old)) (new_or d.label earlier)
  where
    go : IsNewLabel d.label earlier → TreesOr (depth + 1) (at + told_total region - length rest) rest
        → TreeOr earlier depth at region
    go new (broken e f) =
        let place : at + told_total region - length rest + length rest - length f.rest ≡ at + told_total region - length f.rest =
        omega (arith, short) in
        failing e (TreeFault.inside d f.trees f.rest (record { superbox = o.superbox; description = o.description; payload = o.payload ∙ ap (λ (x : List ℕ). description_bytes d ++ x) f.bytes })
        new f.legal f.distinct f.some (subst (λ p. TreeFault (tree_labels f.trees) (depth + 1) p f.rest e) place f.fails))
    go new (filling ts legal distinct split) =
        let content : told_payload region ≡ description_bytes d ++ trees_bytes ts =
        o.payload ∙ ap (λ (x : List ℕ). description_bytes d ++ x) split in
        let head : FitsHead (told_kind region) (tells_wide region) (length (told_payload region)) =
        told_fits region (told region) all k in
        let fits : FitsHead JUMB (tells_wide region) (length (description_bytes d ++ trees_bytes ts)) =
        subst (λ (x : List ℕ). FitsHead JUMB (tells_wide region) (length x)) content
        (subst (λ n. FitsHead n (tells_wide region) (length (told_payload region))) o.superbox.kind head) in
        spelled (super (tells_wide region) d ts) (drop (told region).total region)
        (o.superbox.deep, o.description, fits, legal, distinct) new
        (front_whole region (told region) all k ∙ ap (λ n. boxed n (tells_wide region) (told_payload region) ++ drop (told region).total region) o.superbox.kind ∙ ap (λ (x : List ℕ). boxed JUMB (tells_wide region) x ++ drop (told region).total region) content)

-- A superbox by its head, and a reader of what stands behind its description.
super_or : (earlier : List (Option (List ℕ))) (depth at : ℕ) (region : List ℕ) → AreBytes region
    → IsHead region (told region) → IsSuperbox depth region
    → ((place : ℕ) (rest : List ℕ) → length rest < length region → AreBytes rest → TreesOr (depth + 1) place rest)
    → TreeOr earlier depth at region
super_or earlier depth at region all k s reader = some (told_payload region) refl
  where
    inner : List ℕ
    inner = told_payload region

    inner_bytes : AreBytes inner
    inner_bytes =
        bytes-drop (head_len (tells_wide region)) (take (told_total region) region)
        (bytes-take (told_total region) region all)

    size : length inner + (told region).header ≡ (told region).total
    size = payload_size region (told region) k

    read : box_head_fault 0 inner ≡ None → told_kind inner ≡ JUMD → TreeOr earlier depth at region
    read good kind = go (fields_or (tells_wide inner) (told_payload inner) (bytes-drop (head_len (tells_wide inner)) (take (told_total inner) inner) (bytes-take (told_total inner) inner inner_bytes)))
      where
        first : IsHead inner (told inner)
        first = told_head inner good

        behind : List ℕ
        behind = drop (told inner).total inner

        go : FieldsOr (tells_wide inner) (told_payload inner) → TreeOr earlier depth at region
        go (undescribed fault) =
            failing (BadDescription (at + head_len (tells_wide region)))
            (TreeFault.bad_description s (good_at 0 at inner good) kind fault)
        go (described d wide fields content) =
            let head : FitsHead (told_kind inner) (tells_wide inner) (length (told_payload inner)) =
            told_fits inner (told inner) inner_bytes first in
            let same : FitsHead JUMD (tells_wide inner) (length (description_payload d)) =
            subst (λ (x : List ℕ). FitsHead JUMD (tells_wide inner) (length x)) content
            (subst (λ n. FitsHead n (tells_wide inner) (length (told_payload inner))) kind head) in
            let fits : FitsHead JUMD d.wide (length (description_payload d)) =
            subst (λ w. FitsHead JUMD w (length (description_payload d))) (sym wide) same in
            let whole : inner ≡ description_bytes d ++ behind =
            front_whole inner (told inner) inner_bytes first
            ∙ ap (λ n. boxed n (tells_wide inner) (told_payload inner) ++ behind) kind
            ∙ ap (λ w. boxed JUMD w (told_payload inner) ++ behind) (sym wide) ∙ ap (λ (x : List ℕ). boxed JUMD d.wide x ++ behind) content in
            let sizes : length inner ≡ length (description_bytes d) + length behind =
            ap length whole ∙ length-append (description_bytes d) behind in
            opened_or earlier depth at region all k d behind
            (record { superbox = s; description = record { fields = fields; fits = fits }; payload = whole })
            (omega (arith, sizes, size, k.total))
            (λ place. reader place behind (omega (arith, sizes, size, k.inside, k.header, head_size (tells_wide region))) (bytes-drop (told inner).total inner inner_bytes))

    some : (x : List ℕ) → inner ≡ x → TreeOr earlier depth at region
    some [] nil = failing (NoDescription at) (TreeFault.empty s nil)
    some (b ∷ bs) is = ⊎_elim
        (λ good. ⊎_elim (λ kind. read (good_at (at + head_len (tells_wide region)) 0 inner good) kind) (λ other. failing (NoDescription at) (TreeFault.no_description s (good_at (at + head_len (tells_wide region)) at inner good) other)) (cases_eq (told_kind inner) JUMD))
        (λ bad. failing bad.0 (TreeFault.child_head s (omega (arith, ap length is)) bad.1))
        (good_or (at + head_len (tells_wide region)) inner)

-- One box, and a reader of what stands behind its description.
box_or : (earlier : List (Option (List ℕ))) (depth at : ℕ) (region : List ℕ) → AreBytes region
    → ((place : ℕ) (rest : List ℕ) → length rest < length region → AreBytes rest → TreesOr (depth + 1) place rest)
    → TreeOr earlier depth at region
box_or earlier depth at region all reader = ⊎_elim (λ good. headed good (told_head region (good_at at 0 region good))) (λ bad. failing bad.0 (TreeFault.head bad.1)) (good_or at region)
  where
    headed : box_head_fault at region ≡ None → IsHead region (told region) → TreeOr earlier depth at region
    headed good k = ⊎_elim
        (λ kind. ⊎_elim (λ deep. failing (TooDeep at) (TreeFault.too_deep good kind deep)) (λ within. super_or earlier depth at region all k (record { head = k.good; kind = kind; deep = within }) reader) (cases_lt 16 depth))
        (λ other. spelled (leaf (record { kind = told_kind region; wide = tells_wide region; payload = told_payload region })) (drop (told region).total region) (told_fits region (told region) all k, other) tt (front_whole region (told region) all k))
        (cases_eq (told_kind region) JUMB)

-- each region
tree_or : (n : ℕ) (earlier : List (Option (List ℕ))) (depth at : ℕ) (region : List ℕ) → length region < n
    → AreBytes region → TreeOr earlier depth at region
tree_or zero earlier depth at region less all = absurd (omega arith)
tree_or (suc n) earlier depth at region less all = box_or earlier depth at region all
    (λ place rest fewer_bytes bytes. fill (suc (length rest)) n (depth + 1) place rest (λ labels there part l b. tree_or n labels (depth + 1) there part l b) (omega (arith, less, fewer_bytes)) bytes none rest (omega arith) tt tt refl)

-- Each list of bytes is a tree, or has a first failing test.
pub each_told : (bytes : List ℕ) → All (λ b. b < 2 ^ 8) bytes
    → ((t : Tree) × SpellsTree bytes t) ⊎ ((e : JumbfError) × JumbfFault bytes e)
each_told bytes h = go (tree_or (suc (length bytes)) [] 1 0 bytes (omega arith) (are_bytes bytes h))
  where
    go : TreeOr [] 1 0 bytes → ((t : Tree) × SpellsTree bytes t) ⊎ ((e : JumbfError) × JumbfFault bytes e)
    go (failing e f) = inr (e, JumbfFault.inside f)
    go (spelled t [] legal new split) = inl (t, record { whole = split ∙ append-nil (tree_bytes t); legal = legal })
    go (spelled t (x ∷ xs) legal new split) =
        inr (Trailing (length (tree_bytes t)), JumbfFault.trailing t (x ∷ xs) legal split (omega arith))

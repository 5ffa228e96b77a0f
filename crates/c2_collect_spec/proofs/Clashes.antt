-- Two stores clash first at one manifest, or at none.
use Rattle.std.proofs.Common.{◌≡◌, ◌⊎◌, inl, inr, ⊎_elim, ℕ, zero, suc, ◌<◌, Bool, true, false, not, ◌&&◌, bytes_eq, List, [], ◌∷◌, length, Option, Some, None, slice_get, refl, sym, ap, ◌∙◌, subst, arith}
use Rattle.std.specs.List.{AllByRecursion}
use Rattle.std.proofs.lemmas.Bool.{cases_eq, cases_lt, false≢true}
use Rattle.std.proofs.lemmas.Option.{same_Some, slice_get_within}
use Rattle.c2_spec.specs.C2pa.Manifest.{is_given}
use Rattle.c2_spec.specs.Jumbf.Tree.{Tree, tree_bytes, tree_label}
use Rattle.c2_new_file_spec.specs.Written.{IsStoreBox}
use Rattle.c2_collect_spec.specs.Sides.{ClashFirst, ClashesAt, IsClash, IsClashLabel}
use Rattle.c2_collect_spec.proofs.Stores.{label_there}
use Rattle.c2_lemmas.proofs.Bools.{and_not_true, both_true, not_true_is_false}
use Rattle.c2_lemmas.proofs.Each.{contains_at, member_of}
use Rattle.c2_spec.proofs.GivenLabels.{given_is, is_given_back}

-- ---- one

-- a clash before another is none where that is the first
not_before : (olds : List Tree) (was : ℕ → Bool) (others : List Tree) (reached : ℕ → Bool) (i j : ℕ)
    → ClashFirst olds was others reached i
    → ClashFirst olds was others reached j → i < j → ⊥
not_before olds was others reached i j a b lt = b.earlier i lt a.here

-- the first clash is at one place
one_place : (olds : List Tree) (was : ℕ → Bool) (others : List Tree) (reached : ℕ → Bool) (i j : ℕ)
    → ClashFirst olds was others reached i
    → ClashFirst olds was others reached j → i ≡ j
one_place olds was others reached i j a b =
    ⊎_elim (λ lt. absurd (not_before olds was others reached i j a b lt))
    (λ le. ⊎_elim (λ lt. absurd (not_before olds was others reached j i b a lt)) (λ ge. omega (arith, le, ge)) (cases_lt j i))
    (cases_lt i j)

-- the first clash is at one label
one_label : (olds : List Tree) (was : ℕ → Bool) (others : List Tree) (reached : ℕ → Bool) (l m : List ℕ)
    → IsClashLabel olds was others reached l → IsClashLabel olds was others reached m → l ≡ m
one_label olds was others reached l m a b =
    let place : a.place ≡ b.place = one_place olds was others reached a.place b.place a.first b.first in
    let theirs : a.first.here.theirs ≡ b.first.here.theirs =
    same_Some a.first.here.theirs b.first.here.theirs (sym a.first.here.is_theirs ∙ ap (slice_get others) place ∙ b.first.here.is_theirs) in
    same_Some l m (sym a.is ∙ ap tree_label theirs ∙ b.is)

-- where two stores clash is one
pub one_clash : (olds : List Tree) (was : ℕ → Bool) (others : List Tree) (reached : ℕ → Bool) (a b : Option (List ℕ))
    → IsClash olds was others reached a → IsClash olds was others reached b → a ≡ b
one_clash olds was others reached None None h k = refl
one_clash olds was others reached None (Some m) h k = absurd (h k.place k.first.here)
one_clash olds was others reached (Some l) None h k = absurd (k h.place h.first.here)
one_clash olds was others reached (Some l) (Some m) h k = ap Some (one_label olds was others reached l m h k)

-- ---- some

-- what a test finds of a list: a place where it holds, or none
record IsFoundBy (p : ℕ → Tree → Bool) (ts : List Tree) : Type 0 where
  place : ℕ
  it : Tree
  is : slice_get ts place ≡ Some it
  holds : p place it ≡ true

-- each test finds a place or none
found_or_not : (p : ℕ → Tree → Bool) (ts : List Tree)
    → IsFoundBy p ts ⊎ ((i : ℕ) (t : Tree) → slice_get ts i ≡ Some t → p i t ≡ true → ⊥)
found_or_not p [] = inr (λ i t e h. cc (e))
found_or_not p (t ∷ ts) = by (p zero t) refl (found_or_not (λ i. p (suc i)) ts)
  where
    by : (b : Bool) → p zero t ≡ b
        → IsFoundBy (λ i. p (suc i)) ts ⊎ ((i : ℕ) (u : Tree) → slice_get ts i ≡ Some u → p (suc i) u ≡ true → ⊥)
        → IsFoundBy p (t ∷ ts) ⊎ ((i : ℕ) (u : Tree) → slice_get (t ∷ ts) i ≡ Some u → p i u ≡ true → ⊥)
    by true e rest = inl (record { place = zero; it = t; is = refl; holds = e })
    by false e (inl f) = inl (record { place = suc f.place; it = f.it; is = f.is; holds = f.holds })
    by false e (inr none) = inr at
      where
        at : (i : ℕ) (u : Tree) → slice_get (t ∷ ts) i ≡ Some u → p i u ≡ true → ⊥
        at zero u is h = false≢true (sym e ∙ ap (p zero) (same_Some t u is) ∙ h)
        at (suc i) u is h = none i u is h

-- the manifest at a place of the first store has this label, and can't stand for this one of the second
abbrev differs_at : (ℕ → Bool) → List ℕ → Tree → ℕ → Tree → Bool
differs_at was label theirs p ours =
    is_given (tree_label ours) label && not (was p && bytes_eq (tree_bytes ours) (tree_bytes theirs))

-- Two stores clash at a manifest, or they don't.
clash_or_not :
    (olds : List Tree) (was : ℕ → Bool) (others : List Tree) (reached : ℕ → Bool) (i : ℕ) (t : Tree) (l : List ℕ)
    → slice_get others i ≡ Some t → tree_label t ≡ Some l
    → ClashesAt olds was others reached i ⊎ (ClashesAt olds was others reached i → ⊥)
clash_or_not olds was others reached i t l is label = by (reached i) refl (found_or_not (differs_at was l t) olds)
  where
    -- where two stores clash at this manifest, the test finds something
    finds : ((p : ℕ) (u : Tree) → slice_get olds p ≡ Some u → differs_at was l t p u ≡ true → ⊥)
        → ClashesAt olds was others reached i → ⊥
    finds none c =
        let same : c.theirs ≡ t = same_Some c.theirs t (sym c.is_theirs ∙ is) in
        none c.place c.ours c.is_ours
        (and_not_true (is_given (tree_label c.ours) l) (was c.place && bytes_eq (tree_bytes c.ours) (tree_bytes t))
        (is_given_back (tree_label c.ours) l (c.label ∙ ap tree_label same ∙ label))
        (subst (λ (x : Tree). (was c.place && bytes_eq (tree_bytes c.ours) (tree_bytes x)) ≡ false) same c.differs))

    by : (b : Bool) → reached i ≡ b
        → IsFoundBy (differs_at was l t) olds ⊎ ((p : ℕ) (u : Tree) → slice_get olds p ≡ Some u → differs_at was l t p u ≡ true → ⊥)
        → ClashesAt olds was others reached i ⊎ (ClashesAt olds was others reached i → ⊥)
    by false e found = inr (λ c. false≢true (sym e ∙ c.is_reached))
    by true e (inl f) =
        let parts =
        both_true (is_given (tree_label f.it) l) (not (was f.place && bytes_eq (tree_bytes f.it) (tree_bytes t)))
        f.holds in
        inl (record {
          is_reached = e;
          theirs = t;
          is_theirs = is;
          place = f.place;
          ours = f.it;
          is_ours = f.is;
          label = given_is (tree_label f.it) l parts.0 ∙ sym label;
          differs = not_true_is_false (was f.place && bytes_eq (tree_bytes f.it) (tree_bytes t)) parts.1;
        })
    by true e (inr none) = inr (finds none)

-- each of these manifests has a label
abbrev AreLabeled : List Tree → Type 0
AreLabeled ts = (i : ℕ) (t : Tree) → slice_get ts i ≡ Some t → (l : List ℕ) × (tree_label t ≡ Some l)

-- among the first manifests of the other store, two stores clash first at one, or at none
first_or_none : (olds : List Tree) (was : ℕ → Bool) (others : List Tree) (reached : ℕ → Bool) (n : ℕ)
    → AreLabeled others
    → ((i : ℕ) × ClashFirst olds was others reached i) ⊎ ((i : ℕ) → i < n → ClashesAt olds was others reached i → ⊥)
first_or_none olds was others reached zero labeled = inr (λ i lt. absurd (omega (arith, lt)))
first_or_none olds was others reached (suc n) labeled = by (first_or_none olds was others reached n labeled) (slice_get others n) refl
  where
    -- the last of them doesn't clash either
    none_at : ((i : ℕ) → i < n → ClashesAt olds was others reached i → ⊥) → (ClashesAt olds was others reached n → ⊥)
        → (i : ℕ) → i < suc n → ClashesAt olds was others reached i → ⊥
    none_at before last i lt c =
        ⊎_elim (λ same. last (subst (ClashesAt olds was others reached) same c))
        (λ apart. before i (omega (arith, lt, apart)) c) (cases_eq i n)

    by : ((i : ℕ) × ClashFirst olds was others reached i) ⊎ ((i : ℕ) → i < n → ClashesAt olds was others reached i → ⊥)
        → (o : Option Tree) → slice_get others n ≡ o
        → ((i : ℕ) × ClashFirst olds was others reached i) ⊎ ((i : ℕ) → i < suc n → ClashesAt olds was others reached i → ⊥)
    by (inl first) o e = inl first
    by (inr before) None e = inr (none_at before (λ c. let bad = sym e ∙ c.is_theirs in cc (bad)))
    by (inr before) (Some t) e =
        let l = labeled n t e in
        ⊎_elim (λ c. inl (n, record { here = c; earlier = before })) (λ last. inr (none_at before last))
        (clash_or_not olds was others reached n t l.0 e l.1)

-- where two stores clash is something
pub some_clash : (olds : List Tree) (was : ℕ → Bool) (others : List Tree) (reached : ℕ → Bool)
    → AllByRecursion IsStoreBox others
    → (o : Option (List ℕ)) × IsClash olds was others reached o
some_clash olds was others reached stores = by (first_or_none olds was others reached (length others) labeled)
  where
    labeled : AreLabeled others
    labeled i t is = label_there t (member_of IsStoreBox others t stores (contains_at others i t is))

    by : ((i : ℕ) × ClashFirst olds was others reached i) ⊎ ((i : ℕ) → i < length others → ClashesAt olds was others reached i → ⊥)
        → (o : Option (List ℕ)) × IsClash olds was others reached o
    by (inl first) =
        let c = first.1.here in
        let l = labeled first.0 c.theirs c.is_theirs in
        (Some l.0, record { place = first.0; first = first.1; is = l.1 })
    by (inr none) = (None, λ i c. none i (slice_get_within others i c.theirs c.is_theirs) c)

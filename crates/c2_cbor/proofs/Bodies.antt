-- What follows a head: the item, by what was read for it.
use Rattle.std.proofs.Common.{◌≡◌, ℕ, List, [], map, length, suc, Vec, Result, Ok, sym, ap, subst, ◌∙◌, rules}
use Rattle.std.specs.declared.alloc.Global.{Global}
use Rattle.c2_spec.specs.Cbor.Item.{Item, uint, nint, list, dict, tag, simple, half, single, double}
use Rattle.c2_spec.specs.Cbor.View.{view, items_of, pairs_of}
use Rattle.c2_spec.specs.declared.cbor.Cbor.{Cbor, Uint, Nint, List as List', Map, Simple, Half, Single, Double, the_lemmas}
use Rattle.c2_cbor_spec.specs.declared.fault.ReadError.{ReadError}
use Rattle.c2_cbor_spec.specs.declared.head.Count.{Count}
use Rattle.c2_cbor_spec.specs.declared.head.Head.{Head}
use Rattle.c2_cbor_spec.specs.declared.head.Head.TheVariants as heads
use Rattle.c2_cbor_spec.specs.Reading.{Read, ◌>>=◌, Gives, is_known, items, pairs, pairs_seen, body}
use Rattle.c2_cbor_spec.proofs.Views.{view-Map}
use Rattle.c2_spec.proofs.CborViews.{view-List}

uint_seen : (n : ℕ) → view (Uint n) ≡ uint n
uint_seen n = search (rules, the_lemmas)

nint_seen : (n : ℕ) → view (Nint n) ≡ nint n
nint_seen n = search (rules, the_lemmas)

simple_seen : (n : ℕ) → view (Simple n) ≡ simple n
simple_seen n = search (rules, the_lemmas)

half_seen : (n : ℕ) → view (Half n) ≡ half n
half_seen n = search (rules, the_lemmas)

single_seen : (n : ℕ) → view (Single n) ≡ single n
single_seen n = search (rules, the_lemmas)

double_seen : (n : ℕ) → view (Double n) ≡ double n
double_seen n = search (rules, the_lemmas)

module _ (value : List ℕ → Read Item) (at : ℕ) (h : Head) (s : List ℕ) where
  abbrev Body : Read Item
  Body = body is_known value at h s

  -- what was given for this head
  pub body_given : {X : Type 0} (see : X → Item × List ℕ) (r : Result X ReadError) (k : Head) → h ≡ k
      → Gives see r (body is_known value at k s) → Gives see r Body
  body_given see r k is g = subst (λ j. Gives see r (body is_known value at j s)) (sym is) g

  -- the item is in its head
  pub uint_body : (n : ℕ) → h ≡ heads.Uint n → Body ≡ Ok (view (Uint n), s)
  uint_body n is = ap (λ k. body is_known value at k s) is ∙ ap (λ v. Ok (v, s)) (sym (uint_seen n))

  pub nint_body : (n : ℕ) → h ≡ heads.Nint n → Body ≡ Ok (view (Nint n), s)
  nint_body n is = ap (λ k. body is_known value at k s) is ∙ ap (λ v. Ok (v, s)) (sym (nint_seen n))

  pub simple_body : (n : ℕ) → h ≡ heads.Simple n → Body ≡ Ok (view (Simple n), s)
  simple_body n is = ap (λ k. body is_known value at k s) is ∙ ap (λ v. Ok (v, s)) (sym (simple_seen n))

  pub half_body : (n : ℕ) → h ≡ heads.Half n → Body ≡ Ok (view (Half n), s)
  half_body n is = ap (λ k. body is_known value at k s) is ∙ ap (λ v. Ok (v, s)) (sym (half_seen n))

  pub single_body : (n : ℕ) → h ≡ heads.Single n → Body ≡ Ok (view (Single n), s)
  single_body n is = ap (λ k. body is_known value at k s) is ∙ ap (λ v. Ok (v, s)) (sym (single_seen n))

  pub double_body : (n : ℕ) → h ≡ heads.Double n → Body ≡ Ok (view (Double n), s)
  double_body n is = ap (λ k. body is_known value at k s) is ∙ ap (λ v. Ok (v, s)) (sym (double_seen n))

  -- a list of the items that were read
  pub list_body : (c : Count) (v : Vec Cbor Global) (r : List ℕ) → h ≡ heads.List c
      → items value (suc (length s)) c s ≡ Ok (map view v.items, r) → Body ≡ Ok (view (List' v), r)
  list_body c v r is e =
      ap (λ k. body is_known value at k s) is ∙ ap (λ q. q >>= λ p. Ok (list (items_of p.0), p.1)) e
      ∙ ap (λ w. Ok (w, r)) (sym (view-List v))

  -- a map of the pairs that were read
  pub map_body : (c : Count) (v : Vec (Cbor × Cbor) Global) (r : List ℕ) → h ≡ heads.Map c
      → pairs is_known value (suc (length s)) c [] s ≡ Ok (pairs_seen v.items, r) → Body ≡ Ok (view (Map v), r)
  map_body c v r is e =
      ap (λ k. body is_known value at k s) is ∙ ap (λ q. q >>= λ p. Ok (dict (pairs_of p.0), p.1)) e
      ∙ ap (λ w. Ok (w, r)) (sym (view-Map v))

  -- the item under a tag
  pub tag_body : {X : Type 0} (see : X → Item × List ℕ) (res : Result X ReadError) (n : ℕ) (v : Item) (r : List ℕ)
      → h ≡ heads.Tag n → value s ≡ Ok (v, r) → Gives see res (Ok (tag n v, r)) → Gives see res Body
  tag_body see res n v r is e g =
      subst (Gives see res)
      (sym (ap (λ k. body is_known value at k s) is ∙ ap (λ q. q >>= λ p. Ok (tag n p.0, p.1)) e)) g

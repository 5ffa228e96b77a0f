-- Reading the whole of some bytes: where the item that they begin with ends.
use Rattle.std.proofs.Common.{◌≡◌, ℕ, ◌<◌, ◌≤◌, List, length, sym, ap, subst, ◌∙◌, arith}
use Rattle.std.proofs.lemmas.List.{take_all}
use Rattle.c2_spec.specs.Cbor.Item.{Item}
use Rattle.c2_spec.specs.Cbor.Legal.{IsLegal}
use Rattle.c2_spec.specs.Cbor.Spelling.{Spells}
use Rattle.c2_spec.specs.Cbor.Answers.{BeginsWith, EndsEarly}
use Rattle.c2_spec.specs.declared.cbor.CborError.{CborError}
use Rattle.c2_spec.specs.declared.cbor.CborError.TheVariants.{Trailing}

-- what the whole spells, it begins with
pub begins_whole : (s : List ℕ) (v : Item) → IsLegal v → Spells v s → BeginsWith s v (length s)
begins_whole s v legal spells =
    record
    { legal = legal; inside = omega arith; spelled = subst (Spells v) (sym (take_all (length s) s (omega arith))) spells }

module _ (s : List ℕ) (w : Item) (end : ℕ) where
  -- this item alone do they begin with
  abbrev pub Only : Type 0
  Only = (v : Item) (n : ℕ) → BeginsWith s v n → ◌≡◌ {A = Item × ℕ} (w, end) (v, n)

  -- the item that they begin with is spelled by the whole, where it doesn't end before
  pub spelled_whole : BeginsWith s w end → length s ≤ end → IsLegal w × Spells w s
  spelled_whole b le = (b.legal, subst (Spells w) (take_all end s le) b.spelled)

  -- what the whole spells is that item
  pub whole_is : Only → (v : Item) → IsLegal v → Spells v s → w ≡ v
  whole_is only v legal spells = ap (λ p. p.0) (only v (length s) (begins_whole s v legal spells))

  -- where that item ends before, the whole spells none
  pub none_whole : Only → end < length s → (v : Item) → IsLegal v → Spells v s → ⊥
  none_whole only lt v legal spells =
      let e : end ≡ length s = ap (λ p. p.1) (only v (length s) (begins_whole s v legal spells)) in omega (arith, e, lt)

  -- where it doesn't, none ends early
  pub none_early : Only → length s ≤ end → (e : CborError) → EndsEarly s e → ⊥
  none_early only le e u = let n : end ≡ u.1 = ap (λ p. p.1) (only u.0 u.1 u.2) in omega (arith, n, u.3, le)

  -- the place of an item that ends early is where that item ends
  pub early_is : Only → (e : CborError) → EndsEarly s e → Trailing end ≡ e
  early_is only e u = ap Trailing (ap (λ p. p.1) (only u.0 u.1 u.2)) ∙ sym u.4

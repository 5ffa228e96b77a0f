-- Which reason an item isn't written for.
use Rattle.std.proofs.Common.{◌≡◌, ◌↔◌, ℕ, ◌<◌, ◌≤◌, max, Bool, true, false, ltb, refl, sym, subst, arith, inl, inr, ◌⊎◌}
use Rattle.std.specs.Bool.{IsTrue}
use Rattle.std.proofs.lemmas.Bool.{ltb-true, ltb-false}
use Rattle.c2_spec.specs.Cbor.Item.{Item}
use Rattle.c2_spec.specs.Cbor.Legal.{depth, HasDistinctKeys, HasBadSimple, IsLegal}
use Rattle.c2_spec.specs.Cbor.Unwritable.{HasEqualKeys, IsUnwritable}
use Rattle.c2_spec.specs.declared.cbor.EncodeError.{EncodeError}
use Rattle.c2_spec.specs.declared.cbor.EncodeError.TheVariants.{BadSimple, DuplicateKey, TooDeep, NoMemory}
use Rattle.c2_cbor_spec.specs.Fine.{Fine}
use Rattle.c2_cbor_spec.proofs.BadSimple.{fine_no_bad}
use Rattle.c2_cbor_write.proofs.EqualKeys.{distinct_not_equal}
use Rattle.c2_lemmas.proofs.Bools.{true_not_false, from_false}

-- this error, or out of memory in its place
abbrev Answers : EncodeError → EncodeError → Type 0
Answers d e = (d ≡ NoMemory) ⊎ (d ≡ e)

-- equal keys are
pub told_equal : (v : Item) (e : EncodeError) → (HasBadSimple v → ⊥) → HasEqualKeys v → IsUnwritable v e
    → Answers DuplicateKey e
told_equal v BadSimple good equal u = absurd (good u)
told_equal v DuplicateKey good equal u = inr refl
told_equal v TooDeep good equal u = absurd (u.1 equal)
told_equal v NoMemory good equal u = absurd u

-- the depth is
pub told_deep : (v : Item) (e : EncodeError) → (HasBadSimple v → ⊥) → HasDistinctKeys v → IsUnwritable v e
    → Answers TooDeep e
told_deep v BadSimple good distinct u = absurd (good u)
told_deep v DuplicateKey good distinct u = absurd (distinct_not_equal v distinct u.1)
told_deep v TooDeep good distinct u = inr refl
told_deep v NoMemory good distinct u = absurd u

-- a legal item has none
pub told_none : (v : Item) (e : EncodeError) → IsLegal v → IsUnwritable v e → ⊥
told_none v BadSimple legal u = legal.no_bad_simple u
told_none v DuplicateKey legal u = distinct_not_equal v legal.distinct u.1
told_none v TooDeep legal u = omega (arith, u.2, legal.shallow)
told_none v NoMemory legal u = u

-- a test of depth
pub not_deeper : (b : Bool) (d : ℕ) → (64 < d → IsTrue b) → b ≡ false → d ≤ 64
not_deeper b d h e =
    elim (ltb 64 d) as (λ t. ltb 64 d ≡ t → d ≤ 64)
    [ true ↦ λ p. absurd (true_not_false b (h (ltb-true 64 d p)) e) | false ↦ λ p. ltb-false 64 d p ] refl

-- what is left is deeper, where a part before it isn't, exactly where the whole is
pub deeper_left : (b : Bool) (levels whole left part rest : ℕ) → left ≡ max part rest → (levels < part → IsTrue b)
    → b ≡ false → ((levels < left) ↔ (levels < whole)) → (levels < rest) ↔ (levels < whole)
deeper_left b levels whole left part rest e f is h =
    let shallow : levels < part → ⊥ = from_false b (levels < part) f is in (
      λ lt. h.0 (omega (arith, e, lt)),
      λ lt. let l = h.1 lt in
          elim (ltb levels part) as (λ t. ltb levels part ≡ t → levels < rest)
          [ true ↦ λ p. absurd (shallow (ltb-true levels part p)) | false ↦ λ p. omega (arith, e, l, ltb-false levels part p) ] refl,
    )

-- ---- an item that is too deep

-- no legal item is deeper
pub deep_not_legal : (v : Item) → 64 < depth v → IsLegal v → ⊥
deep_not_legal v deep legal = omega (arith, deep, legal.shallow)

-- what is answered of it is its fault
pub deep_fault : (v : Item) (e : EncodeError) → Fine v → 64 < depth v → (e ≡ DuplicateKey → HasEqualKeys v)
    → (e ≡ TooDeep → HasDistinctKeys v) → (e ≡ DuplicateKey) ⊎ (e ≡ TooDeep) → IsUnwritable v e
deep_fault v e fine deep equal distinct (inl is) = subst (IsUnwritable v) (sym is) (fine_no_bad v fine, equal is)
deep_fault v e fine deep equal distinct (inr is) =
    subst (IsUnwritable v) (sym is) (fine_no_bad v fine, distinct_not_equal v (distinct is), deep)

-- and its fault is answered
pub deep_refused : (v : Item) (d e : EncodeError) → Fine v → (d ≡ DuplicateKey → HasEqualKeys v)
    → (d ≡ TooDeep → HasDistinctKeys v) → (d ≡ DuplicateKey) ⊎ (d ≡ TooDeep) → IsUnwritable v e → Answers d e
deep_refused v d e fine equal distinct (inl is) u =
    subst (λ x. Answers x e) (sym is) (told_equal v e (fine_no_bad v fine) (equal is) u)
deep_refused v d e fine equal distinct (inr is) u =
    subst (λ x. Answers x e) (sym is) (told_deep v e (fine_no_bad v fine) (distinct is) u)

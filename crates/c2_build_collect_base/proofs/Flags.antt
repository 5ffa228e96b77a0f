-- The flags of a chain, one by one.
use Rattle.std.proofs.Common.{◌≡◌, ⊎_elim, ℕ, ◌+◌, ◌<◌, ◌≤◌, Bool, true, false, List, [], ◌∷◌, ◌++◌, length, refl, sym, ap, ◌∙◌, arith, length-append}
use Rattle.std.proofs.Math.Path.{fun_ext}
use Rattle.std.proofs.Math.Seq.{get_or-append_seam}
use Rattle.std.proofs.lemmas.Bool.{cases_lt}
use Rattle.std.proofs.lemmas.List.{get_or_append_left, get_or_past}
use Rattle.c2_rules.specs.Chains.{LabelsDiffer, is_reached}
use Rattle.c2_rules.specs.Readings.{Reading}
use Rattle.c2_rules.proofs.ReachLemmas.{reached_decides, reached_within}
use Rattle.c2_collect.specs.Marked.{flag_at}
use Rattle.c2_build_collect_base.specs.Steps.{AreFirstFlags, AreFlags}

-- one flag more
pub flags_more : (rs : List Reading) (n : ℕ) (flags next : List Bool) (flag : Bool) → AreFirstFlags rs n flags
    → flag ≡ is_reached rs n → next ≡ flags ++ flag ∷ [] → AreFirstFlags rs (n + 1) next
flags_more rs n flags next flag h is e = record {
  count = ap length e ∙ length-append flags (flag ∷ []) ∙ ap (λ k. k + 1) h.count;
  are = λ i lt. ap (λ (x : List Bool). flag_at x i) e ∙ at i lt;
}
  where
    at : (i : ℕ) → i < n + 1 → flag_at (flags ++ flag ∷ []) i ≡ is_reached rs i
    at i lt = ⊎_elim (λ less. get_or_append_left flags (flag ∷ []) false i (omega (arith, less, h.count)) ∙ h.are i less)
        (λ le.
        let same : i ≡ n = omega (arith, lt, le) in
        let end : i ≡ length flags = omega (arith, same, h.count) in
        ap (flag_at (flags ++ flag ∷ [])) end ∙ get_or-append_seam flags flag [] false ∙ is ∙ ap (is_reached rs) (sym same)) (cases_lt i n)

-- nothing is reached behind the end
none_behind : (rs : List Reading) (i : ℕ) → LabelsDiffer rs → length rs ≤ i → is_reached rs i ≡ false
none_behind rs i differ le = by (is_reached rs i) refl
  where
    by : (b : Bool) → is_reached rs i ≡ b → is_reached rs i ≡ false
    by false e = e
    by true e = let lt : i < length rs = reached_within rs i ((reached_decides rs differ i).0 e) in absurd (omega (arith, lt, le))

-- the flags of all manifests are those of the chain
pub all_flags : (rs : List Reading) (n : ℕ) (flags : List Bool) → LabelsDiffer rs → AreFirstFlags rs n flags
    → n ≡ length rs → AreFlags rs flags
all_flags rs n flags differ h end = record { count = h.count ∙ end; are = fun_ext at }
  where
    at : (i : ℕ) → flag_at flags i ≡ is_reached rs i
    at i = ⊎_elim (λ lt. h.are i (omega (arith, lt, end)))
        (λ le. get_or_past flags i false (omega (arith, le, end, h.count)) ∙ sym (none_behind rs i differ le))
        (cases_lt i (length rs))

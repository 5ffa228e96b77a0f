-- The faults of heads and strings: a reader tells them, and tells no others.
use Rattle.std.proofs.Common.{◌≡◌, ℕ, zero, suc, ◌/◌, ◌%◌, ◌<◌, ◌≤◌, Bool, false, cond, ltb, List, [], ◌∷◌, length, take, drop, Result, Ok, Err, refl, sym, ap, subst, ◌∙◌, arith, inl, inr, ◌⊎◌}
use Rattle.std.specs.Prelude.{◌==◌}
use Rattle.std.specs.Int.{Width, w16, w32, w64, byte_len, from_be_bytes}
use Rattle.std.proofs.lemmas.Bool.{ltb-false, ltb-true, le-ltb, lt-ltb, eqb-true, eq-eqb}
use Rattle.std.proofs.lemmas.Bool.Decides.{eqb_tells}
use Rattle.c2_cbor_spec.specs.declared.fault.Fault.{Fault}
use Rattle.c2_cbor_spec.specs.declared.fault.Fault.TheVariants.{Short, Reserved, BadText}
use Rattle.c2_cbor_spec.specs.declared.head.Count.TheVariants as counts
use Rattle.c2_cbor_spec.specs.declared.head.Head.TheVariants as heads
use Rattle.c2_spec.specs.Cbor.Spelling.{opening}
use Rattle.c2_spec.specs.Cbor.Faults.{place, IsCut, IsReserved, HeadFault}
use Rattle.c2_spec.specs.declared.cbor.CborError.{CborError}
use Rattle.c2_spec.specs.declared.cbor.CborError.TheVariants as errors
use Rattle.c2_cbor_spec.specs.Placed.{error_at}
use Rattle.c2_cbor_spec.specs.Reading.{Read, ◌>>=◌, byte_at, number_at, argument_at, count_at, major_7, head_of, head_at, string_at}
use Rattle.c2_cbor_spec.proofs.Heads.{AreBytes, chosen, mapped, failed, first_is, rest_is}
use Rattle.c2_lemmas.proofs.Bools.{true_not_false}
use Rattle.c2_lemmas.proofs.Numbers.{not_equal}

-- a fault as an answer
abbrev pub err : {A : Type 0} → Fault → Result A Fault
err f = Err f

-- equal answers that are faults have the same fault
pub err_is : {A : Type 0} (f g : Fault) → err {A = A} f ≡ Err g → f ≡ g
err_is f g e = cc

-- the reader fails, and this is the fault with its place from the start
abbrev pub Told : {A : Type 0} → ℕ → Result A Fault → CborError → Type 0
Told n r w = (f : Fault) × (r ≡ Err f) × (w ≡ error_at n f)

-- a value isn't a fault
pub no_err : {A : Type 0} {P : Type 0} (x : A) (f : Fault) → Ok x ≡ err f → P
no_err x f e = absurd cc

-- a fault of two steps is that of the first, or of the second after the first
pub bind_err : {A B : Type 0} (r : Result A Fault) (k : A → Result B Fault) (f : Fault) → (r >>= k) ≡ Err f
    → (r ≡ Err f) ⊎ ((x : A) × (r ≡ Ok x) × (k x ≡ Err f))
bind_err (Ok x) k f e = inr (x, refl, e)
bind_err (Err g) k f e = inl (ap err (err_is g f e))

-- a fault stays while a value is changed
pub mapped_err : {A B : Type 0} (k : A → B) (r : Read A) (f : Fault) → mapped k r ≡ Err f → r ≡ Err f
mapped_err k (Ok x) f e = no_err _ _ e
mapped_err k (Err g) f e = ap err (err_is g f e)

-- ---- told

-- too few bytes for a number are told as cut short
number_cut : (w : Width) (s : List ℕ) → length s < byte_len w → number_at w s ≡ Err Short
number_cut w s lt =
    ap (λ b. cond b (Err Short) (Ok (from_be_bytes w (take (byte_len w) s), drop (byte_len w) s))) (lt-ltb _ _ lt)

-- no byte is told as cut short
byte_cut : (s : List ℕ) → length s < 1 → byte_at s ≡ Err Short
byte_cut [] lt = refl
byte_cut (b ∷ s) lt = let never : ⊥ = omega arith in absurd never

-- too few bytes for a head's argument are told as cut short
pub argument_cut : (at a : ℕ) (s : List ℕ) → IsCut a s → argument_at at a s ≡ Err Short
unfolding argument_at
argument_cut at a s (inl p) = ap (λ k. argument_at at k s) p.0 ∙ byte_cut s p.1
argument_cut at a s (inr (inl p)) = ap (λ k. argument_at at k s) p.0 ∙ number_cut w16 s p.1
argument_cut at a s (inr (inr (inl p))) = ap (λ k. argument_at at k s) p.0 ∙ number_cut w32 s p.1
argument_cut at a s (inr (inr (inr p))) = ap (λ k. argument_at at k s) p.0 ∙ number_cut w64 s p.1

-- the same of major type 7
major_7_cut : (at a : ℕ) (s : List ℕ) → IsCut a s → major_7 at a s ≡ Err Short
unfolding major_7
major_7_cut at a s (inl p) =
    ap (λ k. major_7 at k s) p.0
    ∙ ap (λ r. r >>= λ n. cond (ltb n.0 32) (Err (Reserved at)) (Ok (heads.Simple n.0, n.1))) (byte_cut s p.1)
major_7_cut at a s (inr (inl p)) = ap (λ k. major_7 at k s) p.0 ∙ ap (mapped heads.Half) (number_cut w16 s p.1)
major_7_cut at a s (inr (inr (inl p))) = ap (λ k. major_7 at k s) p.0 ∙ ap (mapped heads.Single) (number_cut w32 s p.1)
major_7_cut at a s (inr (inr (inr p))) = ap (λ k. major_7 at k s) p.0 ∙ ap (mapped heads.Double) (number_cut w64 s p.1)

-- only additional information below 28 has an argument that can be cut
pub cut_small : (a : ℕ) (s : List ℕ) → IsCut a s → a < 28
cut_small a s (inl p) = omega arith
cut_small a s (inr (inl p)) = omega arith
cut_small a s (inr (inr (inl p))) = omega arith
cut_small a s (inr (inr (inr p))) = omega arith

-- the same of a count
count_cut : (at a : ℕ) (s : List ℕ) → IsCut a s → count_at at a s ≡ Err Short
unfolding count_at
count_cut at a s p =
    ap (λ b. cond b (Ok (counts.Open, s)) (mapped counts.Left (argument_at at a s)))
    (not_equal a 31 (λ e. omega (arith, cut_small a s p)))
    ∙ ap (mapped counts.Left) (argument_cut at a s p)

-- additional information from 28 on is told as reserved
argument_reserved : (at a : ℕ) (s : List ℕ) → 28 ≤ a → argument_at at a s ≡ Err (Reserved at)
unfolding argument_at
argument_reserved at a s le =
    rw
    (le-ltb a 24 (omega arith), not_equal a 24 (λ e. omega arith), not_equal a 25 (λ e. omega arith), not_equal a 26 (λ e. omega arith), not_equal a 27 (λ e. omega arith))
    refl

-- the same of major type 7
major_7_reserved : (at a : ℕ) (s : List ℕ) → 28 ≤ a → major_7 at a s ≡ Err (Reserved at)
unfolding major_7
major_7_reserved at a s le =
    rw
    (le-ltb a 24 (omega arith), not_equal a 24 (λ e. omega arith), not_equal a 25 (λ e. omega arith), not_equal a 26 (λ e. omega arith), not_equal a 27 (λ e. omega arith))
    refl

-- the same of a count, but for 31
count_reserved : (at a : ℕ) (s : List ℕ) → 28 ≤ a → a ≤ 30 → count_at at a s ≡ Err (Reserved at)
unfolding count_at
count_reserved at a s le ge =
    ap (λ b. cond b (Ok (counts.Open, s)) (mapped counts.Left (argument_at at a s))) (not_equal a 31 (λ e. omega arith))
    ∙ ap (mapped counts.Left) (argument_reserved at a s le)

-- the argument fails where the information is no opening
module _ (at a : ℕ) (s : List ℕ) (f : Fault) (arg : argument_at at a s ≡ Err f) (cnt : count_at at a s ≡ Err f) (sev : major_7 at a s ≡ Err f) (ne : a ≡ 31 → ⊥) where
  -- a fault of the argument is that of the head, whatever its major type
  all_majors : (m : ℕ) → m < 8 → head_of at m a s ≡ Err f
  unfolding head_of
  all_majors zero lt = ap (mapped heads.Uint) arg
  all_majors (suc zero) lt = ap (mapped heads.Nint) arg
  all_majors (suc (suc zero)) lt =
      ap (λ b. cond b (Ok (heads.ByteChunks, s)) (mapped heads.Bytes (argument_at at a s))) (not_equal a 31 ne)
      ∙ ap (mapped heads.Bytes) arg
  all_majors (suc (suc (suc zero))) lt =
      ap (λ b. cond b (Ok (heads.TextChunks, s)) (mapped heads.Text (argument_at at a s))) (not_equal a 31 ne)
      ∙ ap (mapped heads.Text) arg
  all_majors (suc (suc (suc (suc zero)))) lt = ap (mapped heads.List) cnt
  all_majors (suc (suc (suc (suc (suc zero))))) lt = ap (mapped heads.Map) cnt
  all_majors (suc (suc (suc (suc (suc (suc zero)))))) lt = ap (mapped heads.Tag) arg
  all_majors (suc (suc (suc (suc (suc (suc (suc zero))))))) lt = sev
  all_majors (suc (suc (suc (suc (suc (suc (suc (suc m)))))))) lt = let never : ⊥ = omega arith in absurd never

-- a head with reserved additional information is told as such
reserved_head : (at m a : ℕ) (s : List ℕ) → m < 8 → IsReserved m a → head_of at m a s ≡ Err (Reserved at)
unfolding head_of
reserved_head at m a s lt (inl p) =
    all_majors at a s (Reserved at) (argument_reserved at a s p.0) (count_reserved at a s p.0 p.1)
    (major_7_reserved at a s p.0) (λ e. omega (arith, p.1)) m lt
reserved_head at m a s lt (inr (e, inl k)) =
    ap (λ j. head_of at j a s) k ∙ ap (mapped heads.Uint) (argument_reserved at a s (omega arith))
reserved_head at m a s lt (inr (e, inr (inl k))) =
    ap (λ j. head_of at j a s) k ∙ ap (mapped heads.Nint) (argument_reserved at a s (omega arith))
reserved_head at m a s lt (inr (e, inr (inr (inl k)))) =
    ap (λ j. head_of at j a s) k ∙ ap (mapped heads.Tag) (argument_reserved at a s (omega arith))
reserved_head at m a s lt (inr (e, inr (inr (inr k)))) =
    ap (λ j. head_of at j a s) k ∙ major_7_reserved at a s (omega arith)

-- a fault of a head is told
pub head_told : (n : ℕ) (s : List ℕ) (w : CborError) → AreBytes s → HeadFault n s w → Told n (head_at s) w
unfolding head_at head_of major_7
head_told n s w fits (b, t, e, inl (p, is)) =
    let lt : b < 256 = (subst AreBytes e fits).0 in
    (Reserved (length s), ap head_at e ∙ reserved_head (length (b ∷ t)) (b / 32) (b % 32) t (omega arith) p ∙ ap (λ k. Err (Reserved k)) (sym (ap length e)), is)
head_told n s w fits (b, t, e, inr (inl (p, is))) =
    let lt : b < 256 = (subst AreBytes e fits).0 in
    let at = length (b ∷ t) in
    (Short, ap head_at e ∙ all_majors at (b % 32) t Short (argument_cut at (b % 32) t p) (count_cut at (b % 32) t p) (major_7_cut at (b % 32) t p) (λ h. omega (arith, cut_small (b % 32) t p)) (b / 32) (omega arith), is)
head_told n s w fits (b, t, e, inr (inr (is248, c, u, g, lt, is))) =
    let whole : s ≡ 248 ∷ (c ∷ u) = e ∙ ap (λ k. k ∷ t) is248 ∙ ap (λ y. 248 ∷ y) g in
    (Reserved (length s), ap head_at whole ∙ ap (λ k. cond k (Err (Reserved (length (248 ∷ (c ∷ u))))) (Ok (heads.Simple c, u))) (lt-ltb c 32 lt) ∙ ap (λ k. Err (Reserved k)) (sym (ap length whole)), is)

-- a fault of a string at its definite length
pub string_told : (n : ℕ) (ok : List ℕ → Bool) (k : ℕ) (s t : List ℕ) (w : CborError)
    → ((length t < k) × (w ≡ errors.Short n)) ⊎ ((k ≤ length t) × (ok (take k t) ≡ false) × (w ≡ errors.BadText (place n s)))
    → Told n (string_at ok (length s) k t) w
unfolding string_at
string_told n ok k s t w (inl p) = (Short, rw (lt-ltb (length t) k p.0) refl, p.1)
string_told n ok k s t w (inr p) = (BadText (length s), rw (le-ltb (length t) k p.0, p.1) refl, p.2)

-- ---- told by a reader, and no others

-- a number that isn't read is cut short
number_fault : (w : Width) (s : List ℕ) (f : Fault) → number_at w s ≡ Err f → (length s < byte_len w) × (f ≡ Short)
number_fault w s f e =
    elim (chosen (ltb (length s) (byte_len w)) _ _ _ e)
    [ inl p ↦ (ltb-true _ _ p.0, sym (err_is _ _ p.1)) | inr p ↦ no_err _ _ p.1 ]

-- a byte that isn't read isn't there
byte_fault : (s : List ℕ) (f : Fault) → byte_at s ≡ Err f → (length s < 1) × (f ≡ Short)
byte_fault [] f e = (omega arith, sym (err_is _ _ e))
byte_fault (b ∷ s) f e = no_err _ _ e

-- a head's argument is reserved or cut short
abbrev pub ArgumentFault : ℕ → ℕ → List ℕ → Fault → Type 0
ArgumentFault at a s f = ((28 ≤ a) × (f ≡ Reserved at)) ⊎ (IsCut a s × (f ≡ Short))

-- numbers that differ by the test differ
pub differs : (a b : ℕ) → (a == b) ≡ false → a ≡ b → ⊥
differs a b e same = true_not_false (a == b) (eq-eqb a b same) e

-- from 24 on, what is none of 24 to 27 is 28 or more
above : (a : ℕ) → 24 ≤ a → (a ≡ 24 → ⊥) → (a ≡ 25 → ⊥) → (a ≡ 26 → ⊥) → (a ≡ 27 → ⊥) → 28 ≤ a
above a h p q r s = omega arith

-- an argument that isn't read has this fault
pub argument_fault : (at a : ℕ) (s : List ℕ) (f : Fault) → argument_at at a s ≡ Err f → ArgumentFault at a s f
unfolding argument_at
argument_fault at a s f e =
    elim (chosen (ltb a 24) _ _ _ e) [
      | inl p ↦ no_err _ _ p.1
      | inr p ↦ elim (chosen (a == 24) _ _ _ p.1) [
        | inl q ↦ let g = byte_fault s f q.1 in inr (inl (eqb-true a 24 q.0, g.0), g.1)
        | inr q ↦ elim (chosen (a == 25) _ _ _ q.1) [
          | inl u ↦ let g = number_fault w16 s f u.1 in inr (inr (inl (eqb-true a 25 u.0, g.0)), g.1)
          | inr u ↦ elim (chosen (a == 26) _ _ _ u.1) [
            | inl v ↦ let g = number_fault w32 s f v.1 in inr (inr (inr (inl (eqb-true a 26 v.0, g.0))), g.1)
            | inr v ↦ elim (chosen (a == 27) _ _ _ v.1) [
              | inl w ↦ let g = number_fault w64 s f w.1 in inr (inr (inr (inr (eqb-true a 27 w.0, g.0))), g.1)
              | inr w ↦ inl (above a (ltb-false a 24 p.0) (differs a 24 q.0) (differs a 25 u.0) (differs a 26 v.0) (differs a 27 w.0), sym (err_is _ _ w.1))
            ]
          ]
        ]
      ]
    ]

-- a count that isn't read has this fault, and isn't 31
count_fault : (at a : ℕ) (s : List ℕ) (f : Fault) → count_at at a s ≡ Err f → (a ≡ 31 → ⊥) × ArgumentFault at a s f
unfolding count_at
count_fault at a s f e =
    elim (chosen (a == 31) _ _ _ e)
    [ inl p ↦ no_err _ _ p.1 | inr p ↦ (differs a 31 p.0, argument_fault at a s f (mapped_err counts.Left _ f p.1)) ]

-- below 32, what isn't 31 is at most 30
less : (a : ℕ) → (a ≡ 31 → ⊥) → a < 32 → a ≤ 30
less a ne lt = omega arith

-- the byte that is read is the first
byte_parts : (s : List ℕ) (b : ℕ) (r : List ℕ) → byte_at s ≡ Ok (b, r) → s ≡ b ∷ r
byte_parts [] b r e = absurd (failed _ _ e)
byte_parts (c ∷ s) b r e = ap (λ k. k ∷ s) (first_is _ _ _ _ e) ∙ ap (λ t. b ∷ t) (rest_is _ _ _ _ e)

-- a fault behind the first byte of a head
abbrev Behind : ℕ → ℕ → ℕ → List ℕ → Fault → Type 0
Behind at m a s f =
    (IsReserved m a × (f ≡ Reserved at))
    ⊎ ((IsCut a s × (f ≡ Short)) ⊎ ((m ≡ 7) × (a ≡ 24) × (c : ℕ) × (u : List ℕ) × (s ≡ c ∷ u) × (c < 32) × (f ≡ Reserved at)))

-- the fault of an argument, where an opening is reserved or was read before
argument_behind : (at m a : ℕ) (s : List ℕ) (f : Fault) → a < 32 → (a ≡ 31 → IsReserved m a) → ArgumentFault at a s f
    → Behind at m a s f
argument_behind at m a s f lt opening (inl p) =
    elim (eqb_tells a 31) [ inl q ↦ inl (opening q.1, p.1) | inr q ↦ inl (inl (p.0, less a (λ e. q.1 e) lt), p.1) ]
argument_behind at m a s f lt opening (inr p) = inr (inl p)

-- a head of major type 7 that isn't read has this fault
major_7_fault : (at a : ℕ) (s : List ℕ) (f : Fault) → a < 32 → major_7 at a s ≡ Err f → Behind at 7 a s f
unfolding major_7
major_7_fault at a s f lt e =
    elim (chosen (ltb a 24) _ _ _ e) [
      | inl p ↦ no_err _ _ p.1
      | inr p ↦ elim (chosen (a == 24) _ _ _ p.1) [
        | inl q ↦ elim (bind_err (byte_at s) _ f q.1) [
          | inl r ↦ let g = byte_fault s f r in inr (inl (inl (eqb-true a 24 q.0, g.0), g.1))
          | inr r ↦ elim (chosen (ltb r.0.0 32) _ _ _ r.2) [
            | inl u ↦ inr (inr (refl, eqb-true a 24 q.0, r.0.0, r.0.1, byte_parts s r.0.0 r.0.1 r.1, ltb-true _ _ u.0, sym (err_is _ _ u.1)))
            | inr u ↦ no_err _ _ u.1
          ]
        ]
        | inr q ↦ elim (chosen (a == 25) _ _ _ q.1) [
          | inl u ↦ let g = number_fault w16 s f (mapped_err heads.Half _ f u.1) in inr (inl (inr (inl (eqb-true a 25 u.0, g.0)), g.1))
          | inr u ↦ elim (chosen (a == 26) _ _ _ u.1) [
            | inl v ↦ let g = number_fault w32 s f (mapped_err heads.Single _ f v.1) in inr (inl (inr (inr (inl (eqb-true a 26 v.0, g.0))), g.1))
            | inr v ↦ elim (chosen (a == 27) _ _ _ v.1) [
              | inl w ↦ let g = number_fault w64 s f (mapped_err heads.Double _ f w.1) in inr (inl (inr (inr (inr (eqb-true a 27 w.0, g.0))), g.1))
              | inr w ↦
                  let high =
                  above a (ltb-false a 24 p.0) (differs a 24 q.0) (differs a 25 u.0) (differs a 26 v.0)
                  (differs a 27 w.0) in
                  argument_behind at 7 a s f lt (λ h. inr (h, inr (inr (inr refl)))) (inl (high, sym (err_is _ _ w.1)))
            ]
          ]
        ]
      ]
    ]

-- the same of every major type
head_of_fault : (at m a : ℕ) (s : List ℕ) (f : Fault) → m < 8 → a < 32 → head_of at m a s ≡ Err f → Behind at m a s f
unfolding head_of
head_of_fault at zero a s f lt low e =
    argument_behind at 0 a s f low (λ h. inr (h, inl refl)) (argument_fault at a s f (mapped_err heads.Uint _ f e))
head_of_fault at (suc zero) a s f lt low e =
    argument_behind at 1 a s f low (λ h. inr (h, inr (inl refl)))
    (argument_fault at a s f (mapped_err heads.Nint _ f e))
head_of_fault at (suc (suc zero)) a s f lt low e =
    elim (chosen (a == 31) _ _ _ e)
    [ inl p ↦ no_err _ _ p.1 | inr p ↦ argument_behind at 2 a s f low (λ h. absurd (differs a 31 p.0 h)) (argument_fault at a s f (mapped_err heads.Bytes _ f p.1)) ]
head_of_fault at (suc (suc (suc zero))) a s f lt low e =
    elim (chosen (a == 31) _ _ _ e)
    [ inl p ↦ no_err _ _ p.1 | inr p ↦ argument_behind at 3 a s f low (λ h. absurd (differs a 31 p.0 h)) (argument_fault at a s f (mapped_err heads.Text _ f p.1)) ]
head_of_fault at (suc (suc (suc (suc zero)))) a s f lt low e = let c = count_fault at a s f (mapped_err heads.List _ f e) in argument_behind at 4 a s f low (λ h. absurd (c.0 h)) c.1
head_of_fault at (suc (suc (suc (suc (suc zero))))) a s f lt low e = let c = count_fault at a s f (mapped_err heads.Map _ f e) in argument_behind at 5 a s f low (λ h. absurd (c.0 h)) c.1
head_of_fault at (suc (suc (suc (suc (suc (suc zero)))))) a s f lt low e =
    argument_behind at 6 a s f low (λ h. inr (h, inr (inr (inl refl))))
    (argument_fault at a s f (mapped_err heads.Tag _ f e))
head_of_fault at (suc (suc (suc (suc (suc (suc (suc zero))))))) a s f lt low e = major_7_fault at a s f low e
head_of_fault at (suc (suc (suc (suc (suc (suc (suc (suc m)))))))) a s f lt low e = let never : ⊥ = omega arith in absurd never

-- a head that isn't read is at the end of the bytes, or has this fault
pub head_fault : (n : ℕ) (s : List ℕ) (f : Fault) → AreBytes s → head_at s ≡ Err f
    → ((s ≡ []) × (f ≡ Short)) ⊎ HeadFault n s (error_at n f)
unfolding head_at
head_fault n [] f fits e = inl (refl, sym (err_is _ _ e))
head_fault n (b ∷ s) f fits e =
    let low : b % 32 < 32 = omega arith in
    let lt : b / 32 < 8 = omega (arith, fits.0) in
    elim (head_of_fault (length (b ∷ s)) (b / 32) (b % 32) s f lt low e) [
      | inl p ↦ inr (b, s, refl, inl (p.0, ap (error_at n) p.1))
      | inr p ↦ elim p [
        | inl q ↦ inr (b, s, refl, inr (inl (q.0, ap (error_at n) q.1)))
        | inr q ↦
            let seven = q.0 in
            let more = q.1 in
            inr (b, s, refl, inr (inr (omega arith, q.2, q.3, q.4, q.5, ap (error_at n) q.6)))
      ]
    ]

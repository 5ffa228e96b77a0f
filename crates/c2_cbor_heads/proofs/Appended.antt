-- What was appended to bytes, said otherwise, and the bytes of items that are strings.
use Rattle.std.proofs.Common.{◌≡◌, ℕ, List, ◌++◌, ◌∷◌, [], length, Result, OnOk, cond, ◌≤◌, ◌+◌, ap, ◌∙◌, sym, subst, append_assoc, rules}
use Rattle.std.proofs.lemmas.Bool.{le-ltb}
use Rattle.c2_spec.specs.Cbor.View.{view}
use Rattle.c2_spec.specs.Cbor.Deterministic.{shortest_head, simple_bytes, preferred}
use Rattle.c2_spec.specs.declared.cbor.Cbor.{Bytes, Text, the_lemmas}
use Rattle.c2_cbor_spec.proofs.Views.{view-text}

-- the preferred bytes of a byte string
bytes_spelled : (b : List ℕ) → preferred (view (Bytes b)) ≡ shortest_head 2 (length b) ++ b
bytes_spelled b = search (rules, the_lemmas)

-- they are its head and its bytes, which are these
pub preferred-Bytes : (b s : List ℕ) → s ≡ b → preferred (view (Bytes b)) ≡ shortest_head 2 (length s) ++ s
preferred-Bytes b s e = bytes_spelled b ∙ ap (λ x. shortest_head 2 (length x) ++ x) (sym e)

-- those of a text
pub preferred-Text : (b s : List ℕ) → s ≡ b → preferred (view (Text b)) ≡ shortest_head 3 (length s) ++ s
preferred-Text b s e = ap preferred (view-text b) ∙ ap (λ x. shortest_head 3 (length x) ++ x) (sym e)

-- from 24 on a simple value is 248 and the number
pub simple_long : (a : ℕ) → 24 ≤ a → simple_bytes a ≡ 248 ∷ a ∷ []
simple_long a h = ap (λ b. cond b ((224 + a) ∷ []) (248 ∷ a ∷ [])) (le-ltb a 24 h)

module _ {X E : Type 0} (r : Result X E) where
  -- what was appended is equal to something
  pub grown : (old new part whole : List ℕ) → whole ≡ part → OnOk r (new ≡ old ++ part) → OnOk r (new ≡ old ++ whole)
  grown old new part whole e h = subst (λ x. OnOk r (new ≡ old ++ x)) (sym e) h

  -- what was appended is one head and what follows it
  pub grown_further : (old head rest first second whole : List ℕ) → first ≡ old ++ head
      → OnOk r (second ≡ first ++ rest) → whole ≡ head ++ rest → OnOk r (second ≡ old ++ whole)
  grown_further old head rest first second whole p h e =
      subst (λ x. OnOk r (second ≡ x)) (ap (λ x. x ++ rest) p ∙ append_assoc old head rest ∙ ap (λ x. old ++ x) (sym e)) h

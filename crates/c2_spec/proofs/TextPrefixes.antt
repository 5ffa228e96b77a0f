-- Texts that begin with a piece.
use Rattle.c2_spec.specs.C2pa.Uri.{after_piece}
use Rattle.std.proofs.Common.{Bool, List, MatchOption, None, Option, Some, ap, cond, drop, eqb, false, length, refl, sym, true, ℕ, ⊎_elim, ◌++◌, ◌∙◌, ◌≡◌}
use Rattle.std.proofs.lemmas.Bool.{cases_Bool}
use Rattle.std.proofs.lemmas.Bool.Decides.{Decides-eqb}
use Rattle.std.proofs.lemmas.Slice.Eq.{starts_is}
use Rattle.std.specs.List.{starts_with}
use Rattle.std.specs.Option.{option_map}
use Rattle.std.specs.Str.Pattern.{FindsTextPrefix, StripsPrefix}
use denote.Ref.{Bor}

-- what follows a piece
pub behind : (piece text rest : List ℕ) → after_piece piece text ≡ Some rest → text ≡ piece ++ rest
behind piece text rest = go (starts_with eqb text piece) refl
  where
    go : (b : Bool) → starts_with eqb text piece ≡ b → cond b (Some (drop (length piece) text)) None ≡ Some rest
        → text ≡ piece ++ rest
    go true e h = (starts_is Decides-eqb text piece _ refl).0 e ∙ ap (λ (r : List ℕ). piece ++ r) (cc (h))
    go false e h = absurd (cc (h))

-- a text that begins with the piece is stripped to what follows it, and no other text is
pub strip_is : (piece text : List ℕ) (r : Option (Bor (List ℕ)))
    → MatchOption r (FindsTextPrefix piece text None) (λ x. StripsPrefix (FindsTextPrefix piece) text x.now)
    → option_map (λ t. t.now) r ≡ after_piece piece text
strip_is piece text None h =
    let lacks : starts_with eqb text piece ≡ false =
    ⊎_elim (λ e. absurd (h _ ((starts_is Decides-eqb text piece _ refl).0 e))) (λ e. e)
    (cases_Bool (starts_with eqb text piece)) in
    sym (ap (λ b. cond b (Some (drop (length piece) text)) None) lacks)
strip_is piece text (Some x) h =
    let has : starts_with eqb text piece ≡ true = (starts_is Decides-eqb text piece _ refl).1 _ h.1.1 in
    ap Some (h.2 ∙ ap (λ n. drop n text) h.1.0) ∙ sym (ap (λ b. cond b (Some (drop (length piece) text)) None) has)

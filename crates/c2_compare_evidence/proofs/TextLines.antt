-- A covered text that is written as hex digits.
use Rattle.std.proofs.Common.{◌≡◌, ℕ, List, [], ◌++◌, codes, Option, sym, ap, ◌∙◌}
use Rattle.std.proofs.lemmas.List.{append_assoc, append-nil}
use Rattle.hex.specs.Hex.{encode_lower}
use Rattle.c2_base.specs.Sink.{Appends, HasWrittenPrefix, then_written}
use Rattle.c2_compare_evidence.specs.Covered.{IsWrittenTo, covered_head}
use Rattle.c2_compare_evidence.proofs.Written.{appends_after, hex_append, hex_none, prefix_after, prefix_all, prefix_first}
use Rattle.c2_base.proofs.Written.{then_nothing}

-- nothing is written
pub wrote_none : (text rest : List ℕ) (a : Option (List ℕ)) → text ≡ rest → IsWrittenTo text rest a a
wrote_none text rest a same =
    record { done = []; written = then_nothing a ∙ ap (then_written a) (sym hex_none); joined = same }

-- a piece more
pub wrote_more : (text rest piece later : List ℕ) (a b c : Option (List ℕ)) → IsWrittenTo text rest a b
    → rest ≡ piece ++ later
    → Appends b c (encode_lower piece) → IsWrittenTo text later a c
wrote_more text rest piece later a b c h is e = record {
  done = h.done ++ piece;
  written =
      appends_after a b c (encode_lower h.done) (encode_lower piece) h.written e
      ∙ ap (then_written a) (sym (hex_append h.done piece));
  joined = h.joined ∙ ap (λ x. h.done ++ x) is ∙ sym (append_assoc h.done piece later);
}

-- all
pub wrote_all : (text rest : List ℕ) (a b : Option (List ℕ)) → IsWrittenTo text rest a b → rest ≡ []
    → Appends a b (encode_lower text)
wrote_all text rest a b h none =
    h.written
    ∙ ap (λ x. then_written a (encode_lower x)) (sym (h.joined ∙ ap (λ x. h.done ++ x) none ∙ append-nil h.done))

-- what was written is a prefix
pub wrote_prefix : (text rest : List ℕ) (a b : Option (List ℕ)) → IsWrittenTo text rest a b
    → HasWrittenPrefix a b (encode_lower text)
wrote_prefix text rest a b h =
    prefix_first a b (encode_lower h.done) (encode_lower rest) (encode_lower text)
    (prefix_all a b (encode_lower h.done) h.written)
    (ap encode_lower h.joined ∙ hex_append h.done rest)

-- a prefix of a piece more
pub wrote_part : (text rest piece later : List ℕ) (a b c : Option (List ℕ)) → IsWrittenTo text rest a b
    → rest ≡ piece ++ later
    → HasWrittenPrefix b c (encode_lower piece) → HasWrittenPrefix a c (encode_lower text)
wrote_part text rest piece later a b c h is e =
    prefix_after a b c (encode_lower h.done) (encode_lower piece) (encode_lower later) (encode_lower text) h.written e
    (ap encode_lower (h.joined ∙ ap (λ x. h.done ++ x) is) ∙ hex_append h.done (piece ++ later) ∙ ap (λ x. encode_lower h.done ++ x) (hex_append piece later))

-- ---- one text and then another

-- the last of two texts failed
pub last_prefix : (a b c : Option (List ℕ)) (s t all : List ℕ) → Appends a b s → HasWrittenPrefix b c t → all ≡ s ++ t
    → HasWrittenPrefix a c all
last_prefix a b c s t all e h is = prefix_after a b c s t [] all e h (is ∙ ap (λ x. s ++ x) (sym (append-nil t)))

-- both texts are written
pub last_whole : (a b c : Option (List ℕ)) (s t all : List ℕ) → Appends a b s → Appends b c t → all ≡ s ++ t
    → Appends a c all
last_whole a b c s t all e f is = appends_after a b c s t e f ∙ ap (then_written a) (sym is)

-- the pieces of the first line
pub head_pieces : (alg : List ℕ) → covered_head alg ≡ codes "evidence digest " ++ (alg ++ (codes " covered\n" ++ []))
unfolding covered_head
head_pieces alg = append_assoc (codes "evidence digest ") alg (codes " covered\n")

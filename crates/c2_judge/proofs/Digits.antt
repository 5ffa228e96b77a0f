-- What `hex` read, where the digits are those of an id.
use Rattle.std.proofs.Common.{◌≡◌, ◌≢◌, ℕ, List, Result, Ok, Err, sym, ap, ◌∙◌}
use Rattle.std.specs.Prelude.{MatchResult}
use Rattle.hex.specs.Hex.{encode_lower, decode_sized}
use Rattle.hex.specs.declared.error.FromHexError.{FromHexError}
use Rattle.hex.proofs.HexLemmas.{decode_sized-encode_lower}
use Rattle.c2_spec.specs.Judges.VerdictFile.{IsId}
use Rattle.c2_judge.proofs.Lines.{id_bytes}

-- what `decode_to_slice` says of its answer
abbrev pub Decoded : List ℕ → ℕ → Result (Unit {0}) FromHexError → List ℕ → Type 0
Decoded digits room r out =
    MatchResult (decode_sized digits room) (λ bytes. (r ≡ Ok tt) × (out ≡ bytes)) (λ e. r ≡ Err e)

-- the digits of an id are read as this id
at_id_digits : (digits : List ℕ) (room : ℕ) (r : Result (Unit {0}) FromHexError) (out id : List ℕ) → room ≡ 32
    → Decoded digits room r out → IsId id → digits ≡ encode_lower id → (r ≡ Ok tt) × (out ≡ id)
at_id_digits digits room r out id sized said h is =
    let ok : decode_sized digits room ≡ Ok id =
    ap (λ d. decode_sized d room) is ∙ decode_sized-encode_lower id room (h.sized ∙ sym sized) (id_bytes id h) in
    rw ok at said

-- digits that aren't read are those of no id
pub none_decoded : (digits : List ℕ) (room : ℕ) (r : Result (Unit {0}) FromHexError) (out : List ℕ) (e : FromHexError)
    → room ≡ 32 → Decoded digits room r out → r ≡ Err e → (id : List ℕ) → IsId id → digits ≢ encode_lower id
none_decoded digits room r out e sized said failed id h is =
    let ok = (at_id_digits digits room r out id sized said h is).0 in
    cc (ok, failed)

-- digits that are read are those of one id at most
pub one_decoded : (digits : List ℕ) (room : ℕ) (r : Result (Unit {0}) FromHexError) (out : List ℕ) → room ≡ 32
    → Decoded digits room r out → (other : List ℕ) → IsId other → digits ≡ encode_lower other → other ≡ out
one_decoded digits room r out sized said other h is = sym (at_id_digits digits room r out other sized said h is).1

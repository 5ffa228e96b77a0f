use Rattle.std.proofs.Common.{◌≡◌, List, ℕ, true, false, sym, refl}
use Rattle.std.specs.Str.{IsUtf8, is_utf8}
use Rattle.std.proofs.lemmas.Str.{is_utf8-from_IsUtf8, IsUtf8-from_is_utf8}
use Rattle.c2_cbor_heads.proofs.strings.text_in.Goals as goal

not_utf8 : (s : List ℕ) → (IsUtf8 s → ⊥) → false ≡ is_utf8 s
not_utf8 s never =
    elim (is_utf8 s) as (λ b. is_utf8 s ≡ b → false ≡ b)
    [ true ↦ λ e. absurd (never (IsUtf8-from_is_utf8 s e)) | false ↦ λ e. refl ] refl

pub returns-in-Ok-clause-test : goal.returns-in-Ok-clause-test
returns-in-Ok-clause-test c = sym (is_utf8-from_IsUtf8 c.args.bytes.now c.in-Ok.ensures.cases.1)

pub returns-in-Err-clause-test : goal.returns-in-Err-clause-test
returns-in-Err-clause-test c = not_utf8 c.args.bytes.now c.in-Err.ensures.cases.0

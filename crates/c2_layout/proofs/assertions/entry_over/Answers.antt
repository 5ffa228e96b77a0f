use Rattle.std.proofs.Common.{◌≡◌, List, ℕ, ◌-◌, length, ap, ◌∙◌, drop, take, arith, length-drop}
use Rattle.std.proofs.lemmas.List.{take_all}
use Rattle.std.proofs.lemmas.Result.{IfOk-weaker}
use Rattle.c2_new_file_spec.specs.Store.{own_ref}
use Rattle.c2_layout.proofs.assertions.entry_over.Goals as goal

-- all that stands behind a header
behind : (bytes : List ℕ) → take (length bytes - 8) (drop 8 bytes) ≡ drop 8 bytes
behind bytes = take_all (length bytes - 8) (drop 8 bytes) (omega (arith, length-drop 8 bytes))

-- it is digested
pub returns : goal.returns
returns g c =
    let a = c.args.assertion.now in
    let hash = g.H.Hashing.digest_of c.args.alg in
    IfOk-weaker c.own_ref.result _ _
    (λ r h. h ∙ ap (λ (l : List ℕ). own_ref l c.as_slice.result.now) c.as_str.ensures.value
    ∙ ap (own_ref a.label)
    (c.as_slice.ensures ∙ c.digest_of-digest.ensures ∙ ap hash (behind c.args.bytes.now)
    ∙ ap (λ (b : List ℕ). hash (drop 8 b)) c.requires))
    c.own_ref.ensures

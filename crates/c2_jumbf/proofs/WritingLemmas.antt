-- The bytes of a superbox as they are put together.
use Rattle.std.proofs.Common.{◌≡◌, ℕ, ◌+◌, List, [], ◌∷◌, ◌++◌, length, ap, ◌∙◌, append_assoc, arith, length-append}
use Rattle.std.specs.Int.{w32, to_be_bytes}
use Rattle.c2_spec.specs.declared.kinds.TheConstants.{JUMB, JUMD}
use Rattle.c2_spec.specs.Jumbf.Tree.{description_payload, description_bytes}
use Rattle.c2_spec.specs.Jumbf.Writing.{fresh_description, fresh_super}
use Rattle.c2_spec.proofs.Openings.{payload_size}

-- the parts of a new superbox, one after the other, are its header, its description and its contents
joined : (total own : ℕ) (uuid label contents : List ℕ)
    → (((((((to_be_bytes w32 total ++ to_be_bytes w32 JUMB) ++ to_be_bytes w32 own) ++ to_be_bytes w32 JUMD) ++ uuid) ++ 3 ∷ []) ++ label) ++ 0 ∷ []) ++ contents
    ≡ (to_be_bytes w32 total ++ to_be_bytes w32 JUMB)
    ++ (((to_be_bytes w32 own ++ to_be_bytes w32 JUMD) ++ description_payload (fresh_description uuid label)) ++ contents)
joined total own uuid label contents = simp append_assoc

-- the parts of a new superbox, one after the other, are its bytes
pub super_bytes : (total own : ℕ) (uuid label contents : List ℕ) → length uuid ≡ 16 → own ≡ 26 + length label
    → total ≡ 34 + length label + length contents
    → (((((((to_be_bytes w32 total ++ to_be_bytes w32 JUMB) ++ to_be_bytes w32 own) ++ to_be_bytes w32 JUMD) ++ uuid) ++ 3 ∷ []) ++ label) ++ 0 ∷ []) ++ contents ≡ fresh_super uuid label contents
super_bytes total own uuid label contents n o t =
    let d : List ℕ = description_bytes (fresh_description uuid label) in
    let p : length (description_payload (fresh_description uuid label)) ≡ 18 + length label =
    payload_size uuid label n in
    let inner : own ≡ 8 + length (description_payload (fresh_description uuid label)) = omega (arith, o, p) in
    let size : length d ≡ 8 + length (description_payload (fresh_description uuid label)) = omega arith in
    let all : length (d ++ contents) ≡ length d + length contents = length-append d contents in
    let outer : total ≡ 8 + length (d ++ contents) = omega (arith, t, all, size, p) in
    joined total own uuid label contents
    ∙ ap
    (λ k. (to_be_bytes w32 total ++ to_be_bytes w32 JUMB) ++ (((to_be_bytes w32 k ++ to_be_bytes w32 JUMD) ++ description_payload (fresh_description uuid label)) ++ contents))
    inner
    ∙ ap (λ k. (to_be_bytes w32 k ++ to_be_bytes w32 JUMB) ++ (d ++ contents)) outer

-- the bytes of a new superbox, from the list as it grows
pub super_grown : (total own : ℕ) (uuid label contents a b e f v0 v1 v2 v3 v4 v5 v6 v7 v8 v9 : List ℕ)
    → length uuid ≡ 16 → own ≡ 26 + length label → total ≡ 34 + length label + length contents
    → v0 ≡ [] → v1 ≡ v0 ++ a → a ≡ to_be_bytes w32 total → v2 ≡ v1 ++ b → b ≡ to_be_bytes w32 JUMB → v3 ≡ v2 ++ e
    → e ≡ to_be_bytes w32 own → v4 ≡ v3 ++ f → f ≡ to_be_bytes w32 JUMD
    → v5 ≡ v4 ++ uuid → v6 ≡ v5 ++ 3 ∷ [] → v7 ≡ v6 ++ label → v8 ≡ v7 ++ 0 ∷ [] → v9 ≡ v8 ++ contents
    → v9 ≡ fresh_super uuid label contents
super_grown total own uuid label contents a b e f v0 v1 v2 v3 v4 v5 v6 v7 v8 v9 n o t h0 h1 ha h2 hb h3 he h4 hf h5 h6 h7 h8 h9 =
    let one : v1 ≡ to_be_bytes w32 total = h1 ∙ ap (λ (x : List ℕ). x ++ a) h0 ∙ ha in
    let two : v2 ≡ to_be_bytes w32 total ++ to_be_bytes w32 JUMB =
    h2 ∙ ap (λ (x : List ℕ). x ++ b) one ∙ ap (λ (x : List ℕ). to_be_bytes w32 total ++ x) hb in
    let three : v3 ≡ (to_be_bytes w32 total ++ to_be_bytes w32 JUMB) ++ to_be_bytes w32 own =
    h3 ∙ ap (λ (x : List ℕ). x ++ e) two
    ∙ ap (λ (x : List ℕ). (to_be_bytes w32 total ++ to_be_bytes w32 JUMB) ++ x) he in
    let four : v4 ≡ ((to_be_bytes w32 total ++ to_be_bytes w32 JUMB) ++ to_be_bytes w32 own) ++ to_be_bytes w32 JUMD =
    h4 ∙ ap (λ (x : List ℕ). x ++ f) three
    ∙ ap (λ (x : List ℕ). ((to_be_bytes w32 total ++ to_be_bytes w32 JUMB) ++ to_be_bytes w32 own) ++ x) hf in
    h9
    ∙ ap (λ (x : List ℕ). x ++ contents)
    (h8 ∙ ap (λ (x : List ℕ). x ++ 0 ∷ []) (h7 ∙ ap (λ (x : List ℕ). x ++ label) (h6 ∙ ap (λ (x : List ℕ). x ++ 3 ∷ []) (h5 ∙ ap (λ (x : List ℕ). x ++ uuid) four))))
    ∙ super_bytes total own uuid label contents n o t

-- A claim of fields that are those of a definition.
use Rattle.std.proofs.Common.{◌≡◌, ℕ, List, Option, ap, ◌∙◌}
use Rattle.c2_spec.specs.declared.cbor.Ref.{Ref}
use Rattle.c2_claim.specs.declared.writing.ClaimParts.{ClaimParts}
use Rattle.c2_definition.specs.declared.types.Definition.{Definition}
use Rattle.c2_new_file_spec.specs.Store.{claim_with, new_alg}
use Rattle.c2_spec.specs.Digest.{alg_name}

-- the parts of a claim
abbrev pub parts : List ℕ → List ℕ → List ℕ → Option (List ℕ) → List ℕ → List Ref → List (List ℕ) → ClaimParts
parts label instance generator title alg entries redacted =
    record
    { label = label; instance = instance; generator = generator; title = title; alg = alg; entries = entries; redacted = redacted }

-- parts that are those of a definition
pub claim_given : (d : Definition) (es : List Ref) (label instance generator : List ℕ) (title : Option (List ℕ)) (alg : List ℕ) (entries : List Ref) (redacted : List (List ℕ))
    → label ≡ d.label → instance ≡ d.instance_id → generator ≡ d.generator → title ≡ d.title
    → alg ≡ alg_name (new_alg d) → entries ≡ es → redacted ≡ d.redact
    → parts label instance generator title alg entries redacted ≡ claim_with d es
claim_given d es label instance generator title alg entries redacted el ei eg et ea ee er =
    ap (λ (x : List ℕ). parts x instance generator title alg entries redacted) el
    ∙ ap (λ (x : List ℕ). parts d.label x generator title alg entries redacted) ei
    ∙ ap (λ (x : List ℕ). parts d.label d.instance_id x title alg entries redacted) eg
    ∙ ap (λ (x : Option (List ℕ)). parts d.label d.instance_id d.generator x alg entries redacted) et
    ∙ ap (λ (x : List ℕ). parts d.label d.instance_id d.generator d.title x entries redacted) ea
    ∙ ap (λ (x : List Ref). parts d.label d.instance_id d.generator d.title (alg_name (new_alg d)) x redacted) ee
    ∙ ap (λ (x : List (List ℕ)). parts d.label d.instance_id d.generator d.title (alg_name (new_alg d)) es x) er

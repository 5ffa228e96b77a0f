-- The item that a claim of version 2 is written as (C2PA Technical Specification 2.x, "Claims"): its deterministic bytes are written.
-- A field that is absent is left out, and so is an empty list of redactions. The fields of each map stand in deterministic order.
use Rattle.std.specs.Prelude.{ℕ, List, [], ◌∷◌, ◌++◌, codes, map, Some}
use Rattle.c2_spec.specs.Cbor.Item.{Item, dict, list, text}
use Rattle.c2_spec.specs.Cbor.Writing.{field, field_if, ref_item}
use Rattle.c2_spec.specs.Cbor.View.{items_of, pairs_of}
use Rattle.c2_spec.specs.C2pa.Uri.{uri_text, signature}
use Rattle.c2_spec.specs.declared.claim.Claim.{Claim}
use Rattle.c2_spec.specs.declared.claim.ClaimVersion.TheVariants.{V2}
use Rattle.c2_claim.specs.declared.writing.ClaimParts.{ClaimParts}

-- the redactions, where there are some
abbrev pub redactions_field : List (List ℕ) → List (Item × Item)
redactions_field [] = []
redactions_field (t ∷ ts) = field (codes "redacted_assertions") (list (items_of (map text (t ∷ ts)))) ∷ []

-- the program that makes the claim
abbrev pub generator_item : List ℕ → Item
generator_item name = dict (pairs_of (field (codes "name") (text name) ∷ []))

-- the URI of the signature of the manifest with this label
abbrev pub signature_uri : List ℕ → List ℕ
signature_uri label = uri_text (record { manifest = Some label; target = signature })

-- the fields of a claim
abbrev pub claim_fields : ClaimParts → List (Item × Item)
claim_fields p =
    field (codes "alg") (text p.alg)
    ∷ field_if (codes "dc:title") text p.title ++ field (codes "signature") (text (signature_uri p.label))
    ∷ field (codes "instanceID") (text p.instance)
    ∷ field (codes "created_assertions") (list (items_of (map ref_item p.entries)))
    ∷ redactions_field p.redacted ++ field (codes "claim_generator_info") (generator_item p.generator) ∷ []

-- a claim
abbrev pub claim_item : ClaimParts → Item
claim_item p = dict (pairs_of (claim_fields p))

-- the claim that it is read as
abbrev pub claim_from : ClaimParts → Claim
claim_from p = record { version = V2; signature = signature_uri p.label; instance = Some p.instance; alg = Some p.alg; created = p.entries; gathered = []; redacted = p.redacted }

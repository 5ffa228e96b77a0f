-- The URIs that a new manifest has: they are read as those URIs, and their texts are UTF-8.
use Rattle.c2_uri.proofs.TheLaws.{written_uris_are_read}
use Rattle.std.specs.Prelude.{not}
use Rattle.std.proofs.Common.{◌≡◌, ◌≢◌, ℕ, ◌<◌, List, [], ◌∷◌, ◌++◌, length, Some, None, refl, ap, subst, arith}
use Rattle.std.specs.Str.{IsUtf8}
use Rattle.std.proofs.lemmas.Str.{IsUtf8-append}
use Rattle.c2_spec.specs.C2pa.Uri.{assertion, signature, uri_of, uri_text, scheme, store_path, assertions_path, signature_path}
use Rattle.c2_uri.specs.Writing.{IsLabel}
use Rattle.c2_new_file_spec.proofs.Labels.{IsLabelText, no_slash}
use Rattle.c2_new_file_spec.proofs.Texts.{plain_text}

-- a label that can be named
pub named_label : (t : List ℕ) → IsLabelText t → IsLabel t
named_label t h = record { some = some t h.some; one = ap not (no_slash t h.named) }
  where
    some : (t : List ℕ) → 0 < length t → t ≢ []
    some t n e = omega (arith, n, ap length e)

-- an assertion of the own manifest
pub own_assertion_read : (label : List ℕ) → IsLabelText label
    → uri_of (uri_text (record { manifest = None; target = assertion label })) ≡ Some (record { manifest = None; target = assertion label })
own_assertion_read label h =
    written_uris_are_read (record { manifest = None; target = assertion label })
    (record { manifest = λ x e. absurd (cc (e)); target = named_label label h })

-- the signature of a manifest
pub signature_read : (label : List ℕ) → IsLabelText label
    → uri_of (uri_text (record { manifest = Some label; target = signature })) ≡ Some (record { manifest = Some label; target = signature })
signature_read label h =
    written_uris_are_read (record { manifest = Some label; target = signature }) (record { manifest = λ x e. (let same : label ≡ x = cc (e) in subst IsLabel same (named_label label h)); target = tt })

-- the URI of a manifest's signature is UTF-8, where the manifest's label is
pub signature_utf8 : (label : List ℕ) → IsUtf8 label
    → IsUtf8 (uri_text (record { manifest = Some label; target = signature }))
signature_utf8 label h =
    IsUtf8-append scheme ((store_path ++ label) ++ (0x2F ∷ signature_path)) (plain_text scheme refl)
    (IsUtf8-append (store_path ++ label) (0x2F ∷ signature_path) (IsUtf8-append store_path label (plain_text store_path refl) h) (plain_text (0x2F ∷ signature_path) refl))

-- the URI of an assertion of the own manifest is UTF-8, where its label is
pub assertion_utf8 : (label : List ℕ) → IsUtf8 label
    → IsUtf8 (uri_text (record { manifest = None; target = assertion label }))
assertion_utf8 label h =
    IsUtf8-append scheme (assertions_path ++ label) (plain_text scheme refl)
    (IsUtf8-append assertions_path label (plain_text assertions_path refl) h)

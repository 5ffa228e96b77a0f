-- Worked JUMBF URIs and labels (C2PA Technical Specification 2.x, "JUMBF URI references" and "Multiple instances" of
-- assertions), computed. The rows are this project's own.
use Rattle.std.proofs.Common.{◌≡◌, ℕ, List, [], Option, None, Some, refl, codes}
use Rattle.c2_spec.specs.C2pa.Uri.{PlainUri, PlainTarget, whole, assertion, signature, other, uri_of, base_of}

-- a URI that names this manifest, and one that names none
abbrev absolute : List ℕ → PlainTarget → Option PlainUri
absolute manifest target = Some (record { manifest = Some manifest; target = target })

-- A URI that names no manifest.
abbrev relative : PlainTarget → Option PlainUri
relative target = Some (record { manifest = None; target = target })

-- What a URI names: a box of an assertion store, the signature, the manifest itself, or another path; a manifest may have
-- the label of a signature.
uris : (uri_of (codes "self#jumbf=/c2pa/m/c2pa.assertions/a") ≡ absolute (codes "m") (assertion (codes "a")))
    × (uri_of (codes "self#jumbf=c2pa.signature") ≡ relative signature)
    × (uri_of (codes "self#jumbf=/c2pa/m") ≡ absolute (codes "m") whole)
    × (uri_of (codes "self#jumbf=c2pa.assertions/a/b") ≡ relative (other (codes "c2pa.assertions/a/b")))
    × (uri_of (codes "self#jumbf=/c2pa/c2pa.signature") ≡ absolute (codes "c2pa.signature") whole)
uris = (refl, refl, refl, refl, refl)

-- Texts that are no URI: an empty label, another store, and no label at all.
no_uris : (uri_of (codes "self#jumbf=/c2pa/") ≡ None)
    × (uri_of (codes "self#jumbf=/x/m") ≡ None)
    × (uri_of (codes "self#jumbf=") ≡ None)
    × (uri_of (codes "self#jumbf=/c2pa") ≡ None)
    × (uri_of (codes "self#jumbf=/c2pa/m/") ≡ None)
no_uris = (refl, refl, refl, refl, refl)

-- A label less its number: two low lines and digits to the end, once.
base_labels : (base_of (codes "c2pa.hash.data__2") ≡ codes "c2pa.hash.data")
    × (base_of (codes "a__") ≡ codes "a__")
    × (base_of (codes "a__1__2") ≡ codes "a__1")
    × (base_of (codes "a___3") ≡ codes "a_")
    × (base_of [] ≡ [])
    × (base_of (codes "a__1x") ≡ codes "a__1x")
base_labels = (refl, refl, refl, refl, refl, refl)

-- The lines of evidence, in the pieces in which they are written.
use Rattle.std.proofs.Common.{◌≡◌, ℕ, List, [], ◌∷◌, ◌++◌, codes, sym, ap, ◌∙◌}
use Rattle.std.specs.List.{concat}
use Rattle.std.proofs.lemmas.List.{append_assoc, append-nil, map-append}
use Rattle.hex.specs.Hex.{encode_lower}
use Rattle.c2_spec.specs.C2pa.Uri.{whole, signature}
use Rattle.c2_rules.specs.Ingredients.{assertion_uri}
use Rattle.c2_rules.specs.Rules.{box_uri}
use Rattle.c2_compare_spec.specs.Evidence.{BoundBy, by_digest, by_signature, ListPair}
use Rattle.c2_compare_spec.specs.EvidenceText as form
use Rattle.c2_compare_spec.specs.EvidenceText.{printed, printed_byte}
use Rattle.c2_compare_evidence.specs.Differing.{binder_view, location_view, view}
use Rattle.c2_compare_evidence.specs.Shown.{ShownPair, shown, shown_by}
use Rattle.c2_compare_evidence.specs.Writing.{later_lines, opening}
use Rattle.c2_compare_evidence.specs.declared.lists.Difference.{Difference}

-- what stands before the location where a digest binds the lists
pub digest_opening : (name : List ℕ)
    → codes "evidence digest " ++ name ++ codes " " ≡ codes "evidence digest " ++ (name ++ (codes " " ++ []))
digest_opening name = ap (λ x. codes "evidence digest " ++ (name ++ x)) (sym (append-nil (codes " ")))

-- and where a signature does
pub signature_opening : codes "evidence signature " ≡ codes "evidence signature " ++ []
signature_opening = sym (append-nil (codes "evidence signature "))

-- two lists as lines of hex digits
two_lines : (l r : List ℕ) → concat (form.hex_line l ∷ form.hex_line r ∷ [])
    ≡ encode_lower l ++ (0x0A ∷ (encode_lower r ++ (0x0A ∷ [])))
two_lines l r =
    append_assoc (encode_lower l) (0x0A ∷ []) (form.hex_line r ++ [])
    ∙ ap (λ x. encode_lower l ++ (0x0A ∷ x)) (append-nil (form.hex_line r))

-- what stands behind the location where a digest binds the lists
pub digest_later : (l r : List ℕ) → 0x0A ∷ concat (form.hex_line l ∷ form.hex_line r ∷ [])
    ≡ codes "\n" ++ (encode_lower l ++ (codes "\n" ++ (encode_lower r ++ (codes "\n" ++ []))))
digest_later l r = ap (λ x. 0x0A ∷ x) (two_lines l r)

-- and where a signature does
pub signature_later : (c l r : List ℕ) → 0x0A ∷ concat (form.hex_line c ∷ form.hex_line l ∷ form.hex_line r ∷ [])
    ≡ codes "\n" ++ (encode_lower c ++ (codes "\n" ++ (encode_lower l ++ (codes "\n" ++ (encode_lower r ++ (codes "\n" ++ []))))))
signature_later c l r =
    ap (λ x. 0x0A ∷ x)
    (append_assoc (encode_lower c) (0x0A ∷ []) (concat (form.hex_line l ∷ form.hex_line r ∷ []))
    ∙ ap (λ x. encode_lower c ++ (0x0A ∷ x)) (two_lines l r))

-- the location of an assertion
pub assertion_lines : (m l : List ℕ) → printed (assertion_uri m l)
    ≡ printed (codes "self#jumbf=/c2pa/") ++ (printed m ++ (printed (codes "/c2pa.assertions/") ++ (printed l ++ [])))
assertion_lines m l =
    ap (λ x. printed (codes "self#jumbf=/c2pa/") ++ x)
    (map-append printed_byte m (codes "/c2pa.assertions/" ++ l)
    ∙ ap (λ y. printed m ++ (printed (codes "/c2pa.assertions/") ++ y)) (sym (append-nil (printed l))))

-- the location of a signature
pub signature_lines : (m : List ℕ) → printed (box_uri m signature)
    ≡ printed (codes "self#jumbf=/c2pa/") ++ (printed m ++ (printed (codes "/c2pa.signature") ++ []))
signature_lines m =
    ap (λ x. printed (codes "self#jumbf=/c2pa/") ++ x) (map-append printed_byte m (codes "/c2pa.signature"))

-- the location of a manifest
pub whole_lines : (m : List ℕ) → printed (box_uri m whole) ≡ printed (codes "self#jumbf=/c2pa/") ++ (printed m ++ [])
whole_lines m = ap (λ x. printed (codes "self#jumbf=/c2pa/") ++ x) (map-append printed_byte m [])

-- the text of evidence is what stands before the location, the location, and what follows
pub evidence_parts : (p : ListPair)
    → form.evidence_text p ≡ opening (shown_by p.bound_by) ++ (printed p.location ++ later_lines (shown_by p.bound_by) p.left p.right)
evidence_parts p = by p.bound_by
  where
    by : (b : BoundBy)
        → form.head_line b p.location ++ concat (form.box_lines b ++ form.hex_line p.left ∷ form.hex_line p.right ∷ [])
        ≡ opening (shown_by b) ++ (printed p.location ++ later_lines (shown_by b) p.left p.right)
    by (by_digest name) =
        let a : List ℕ = codes "evidence digest " ++ name ++ codes " " in
        let c : List ℕ = printed p.location in
        let rest : List ℕ = concat (form.hex_line p.left ∷ form.hex_line p.right ∷ []) in
        append_assoc (a ++ c) (0x0A ∷ []) rest ∙ append_assoc a c (0x0A ∷ rest)
    by (by_signature box) =
        let a : List ℕ = codes "evidence signature " in
        let c : List ℕ = printed p.location in
        let rest : List ℕ = concat (form.hex_line box.contents ∷ form.hex_line p.left ∷ form.hex_line p.right ∷ []) in
        append_assoc (a ++ c) (0x0A ∷ []) rest ∙ append_assoc a c (0x0A ∷ rest)

-- the parts of a difference that is printed of a pair
pub found_parts : (d : Difference) (p : ListPair) → view d ≡ shown p
    → form.evidence_text p ≡ opening (binder_view d.bound_by) ++ (printed (location_view d.location) ++ later_lines (binder_view d.bound_by) d.left.now d.right.now)
found_parts d p e =
    evidence_parts p
    ∙ ap (λ (v : ShownPair). opening v.bound_by ++ (printed v.location ++ later_lines v.bound_by v.left v.right))
    (sym e)

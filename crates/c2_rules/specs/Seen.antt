-- What the rules of one manifest see of the store that it stands in: what was read of itself, whether it is the active one, which
-- labels are redacted in it, and how the manifests stand to it that its ingredients name.
use Rattle.std.specs.Prelude.{◌≡◌, ℕ, nat_lt, Bool, true, false, List, Option, Some, None, slice_get, option_map, Contains, if◌then◌else◌}
use Rattle.c2_spec.specs.C2pa.Manifest.{Superbox}
use Rattle.c2_rules.specs.Chains.{place_of, is_active, is_redacted, is_touched, named_in}
use Rattle.c2_rules.specs.Readings.{ReadBox, Reading}

-- How a manifest stands that an ingredient names: it isn't in the store; it doesn't stand earlier; or it is a child. Of a child the
-- contents of its signature box are seen, where it has one, and its own contents only where it isn't touched.
pub data Standing : Type 0 where
  missing : Standing
  later : Standing
  touched : Option (List ℕ) → Standing
  whole : Option (List ℕ) → List ℕ → Standing

-- What the rules of one manifest see.
pub record Seen : Type 0 where
  pub own : Reading
  pub is_active : Bool
  pub is_redacted : List ℕ → Bool
  pub standing : List ℕ → Standing

-- the contents of the signature box
abbrev pub signature_contents : Reading → Option (List ℕ)
signature_contents r = option_map (λ (b : Superbox). b.contents) r.manifest.signature

-- how a child stands that is touched or isn't
abbrev pub child_standing : Bool → Reading → Standing
child_standing true r = touched (signature_contents r)
child_standing false r = whole (signature_contents r) r.manifest.contents

-- how a manifest stands that stands earlier, where there is one
abbrev pub earlier_standing : Bool → Option Reading → Standing
earlier_standing is_touched None = missing
earlier_standing is_touched (Some r) = child_standing is_touched r

-- how the manifest at a place stands to the one at place `i`
abbrev pub place_standing : List Reading → ℕ → Option ℕ → Standing
place_standing rs i None = missing
place_standing rs i (Some m) =
    if nat_lt m i then earlier_standing (is_touched rs m) (slice_get rs m) else later

-- how the manifest with this label stands to the one at place `i`
abbrev pub standing_of : List Reading → ℕ → List ℕ → Standing
standing_of rs i label = place_standing rs i (place_of rs label)

-- what the rules see of the manifest `r` at place `i`
abbrev pub seen_at : List Reading → ℕ → Reading → Seen
seen_at rs i r =
    record {
      own = r;
      is_active = is_active rs i;
      is_redacted = is_redacted rs i;
      standing = standing_of rs i;
    }

-- Two manifests are seen alike: they are read alike but for their own contents, both or neither are active, the same labels are
-- redacted in them, and the manifests that their ingredients name stand alike.
pub record SameSeen (a b : Seen) : Type 0 where
  pub label : a.own.manifest.label ≡ b.own.manifest.label
  pub is_update : a.own.manifest.is_update ≡ b.own.manifest.is_update
  pub claims : a.own.manifest.claims ≡ b.own.manifest.claims
  pub signature : a.own.manifest.signature ≡ b.own.manifest.signature
  pub claim : a.own.claim ≡ b.own.claim
  pub message : a.own.message ≡ b.own.message
  pub boxes : a.own.boxes ≡ b.own.boxes
  pub active : a.is_active ≡ b.is_active
  pub redacted : (label : List ℕ) → a.is_redacted label ≡ b.is_redacted label
  pub named : (box : ReadBox) (label : List ℕ) → Contains a.own.boxes box
      → named_in box ≡ Some label → a.standing label ≡ b.standing label

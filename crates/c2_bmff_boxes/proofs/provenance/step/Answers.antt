use Rattle.std.proofs.Common.{◌≡◌, ◌∙◌, ◌+◌, ◌-◌, is_some, Some, List, ℕ, take, drop, refl, sym, ap, subst, arith}
use Rattle.std.proofs.lemmas.List.{drop-drop}
use Rattle.c2_base.specs.declared.media.MediaError.TheVariants.{BadProvenanceBox, StoreTooLarge, TwoStores}
use Rattle.c2_bmff_rows.specs.Rows.{payload_at}
use Rattle.c2_bmff_boxes.specs.Provenance.{payload_part}
use Rattle.c2_bmff_boxes.specs.Search.{FailsBy, IsPartWithin, StepsBy}
use Rattle.c2_bmff_boxes.specs.declared.provenance.Part.{Part}
use Rattle.c2_bmff_boxes.specs.declared.provenance.Part.TheVariants as part
use Rattle.c2_bmff_rows.proofs.Lists.{piece_of}
use Rattle.c2_bmff_boxes.proofs.WalkLemmas.{outside_map, unread_cause}
use Rattle.c2_bmff_boxes.proofs.provenance.step.Goals as goal

-- the store that was read is that of the box: the bytes of its payload from place 37 on
pub returns-in-Ok-clause-steps : goal.returns-in-Ok-clause-steps
returns-in-Ok-clause-steps g c file known =
    let payload : List ℕ = payload_at file c.args.row in
    let rest : List ℕ = drop (c.args.row.start + c.args.row.header) file in
    let is : payload_part (is_some c.args.found.now) payload ≡ part.Holds c.in-Holds.total =
    ap (λ b. payload_part b payload) (sym c.is_some.ensures) ∙ sym (c.in_ok-part_at.ensures.part file known)
    ∙ c.in-Holds.is in
    let fits : IsPartWithin (c.args.row.length - c.args.row.header) (part.Holds c.in-Holds.total) =
    subst (IsPartWithin (c.args.row.length - c.args.row.header)) c.in-Holds.is c.in_ok-part_at.ensures.within in
    let store : c.in-Ok.store ≡ take c.in-Holds.total (drop 37 payload) =
    c.in-Ok.ensures.bytes file (c.in_ok-part_at.ensures.stays.same_bytes ∙ known)
    ∙ ap (take c.in-Holds.total) (sym (drop-drop 37 (c.args.row.start + c.args.row.header) file))
    ∙ sym (piece_of (c.args.row.length - c.args.row.header) 37 c.in-Holds.total rest fits.0) in
    subst (λ (q : Part). StepsBy q c.args.row payload c.args.found.now (Some (record { start = c.args.row.start; length = c.args.row.length; store = c.in-Ok.store }))) (sym is)
    (ap (λ (st : List ℕ). Some (record { start = c.args.row.start; length = c.args.row.length; store = st })) store)

-- a box that hasn't its form begins in the source
pub returns-in-Bad-clause-cause : goal.returns-in-Bad-clause-cause
returns-in-Bad-clause-cause g c =
    (omega (arith, c.requires.inside, c.requires.ordered, c.requires.header), c.in_ok-part_at.ensures.cause.ok)

-- so does one more with a store
pub returns-in-Second-clause-cause : goal.returns-in-Second-clause-cause
returns-in-Second-clause-cause g c =
    (omega (arith, c.requires.inside, c.requires.ordered, c.requires.header), c.in_ok-part_at.ensures.cause.ok)

-- a store that is too large ends in the source
pub returns-in-TooLarge-clause-cause : goal.returns-in-TooLarge-clause-cause
returns-in-TooLarge-clause-cause g c =
    let fits : IsPartWithin (c.args.row.length - c.args.row.header) (part.TooLarge c.in-TooLarge.total) =
    subst (IsPartWithin (c.args.row.length - c.args.row.header)) c.in-TooLarge.is c.in_ok-part_at.ensures.within in
    (fits.1, omega (arith, fits.0, c.requires.inside, c.requires.ordered), c.in_ok-part_at.ensures.cause.ok)

-- a store that can't be read is refused for nothing
pub returns-in-Err-clause-cause : goal.returns-in-Err-clause-cause
returns-in-Err-clause-cause g c =
    unread_cause (g.S.Source.len c.args.source.now) (g.S.Source.faults c.args.source.now) (g.S.Source.faults c.part_at.new.source) (g.S.Source.faults c.store_at.new.source) c.in-Err.error
    c.in_ok-part_at.ensures.cause.ok c.in-Err.ensures.outside c.in-Err.ensures.cause

-- another box leaves what was found
pub returns-in-Other-clause-steps : goal.returns-in-Other-clause-steps
returns-in-Other-clause-steps g c file known =
    let payload : List ℕ = payload_at file c.args.row in
    let is : payload_part (is_some c.args.found.now) payload ≡ part.Other =
    ap (λ b. payload_part b payload) (sym c.is_some.ensures) ∙ sym (c.in_ok-part_at.ensures.part file known)
    ∙ c.in-Other.is in
    subst (λ (q : Part). StepsBy q c.args.row payload c.args.found.now c.args.found.now) (sym is) refl

-- the others are refused for what they are
pub returns-in-Bad-clause-fails : goal.returns-in-Bad-clause-fails
returns-in-Bad-clause-fails g c file known =
    let payload : List ℕ = payload_at file c.args.row in
    let is : payload_part (is_some c.args.found.now) payload ≡ part.Bad =
    ap (λ b. payload_part b payload) (sym c.is_some.ensures) ∙ sym (c.in_ok-part_at.ensures.part file known)
    ∙ c.in-Bad.is in
    subst (λ (q : Part). FailsBy q c.args.row (BadProvenanceBox c.args.row.start)) (sym is) refl

pub returns-in-Second-clause-fails : goal.returns-in-Second-clause-fails
returns-in-Second-clause-fails g c file known =
    let payload : List ℕ = payload_at file c.args.row in
    let is : payload_part (is_some c.args.found.now) payload ≡ part.Second =
    ap (λ b. payload_part b payload) (sym c.is_some.ensures) ∙ sym (c.in_ok-part_at.ensures.part file known)
    ∙ c.in-Second.is in
    subst (λ (q : Part). FailsBy q c.args.row (TwoStores c.args.row.start)) (sym is) refl

pub returns-in-TooLarge-clause-fails : goal.returns-in-TooLarge-clause-fails
returns-in-TooLarge-clause-fails g c file known =
    let payload : List ℕ = payload_at file c.args.row in
    let is : payload_part (is_some c.args.found.now) payload ≡ part.TooLarge c.in-TooLarge.total =
    ap (λ b. payload_part b payload) (sym c.is_some.ensures) ∙ sym (c.in_ok-part_at.ensures.part file known)
    ∙ c.in-TooLarge.is in
    subst (λ (q : Part). FailsBy q c.args.row (StoreTooLarge c.in-TooLarge.total)) (sym is) refl

pub returns-in-Err-clause-fails : goal.returns-in-Err-clause-fails
returns-in-Err-clause-fails g c file known =
    outside_map c.in-Err.error (λ (never : ⊥). absurd never) c.in-Err.ensures.outside

-- a store that isn't too large ends in its box, and so in the source
pub store_at-requires : goal.store_at-requires
store_at-requires g c =
    let fits : IsPartWithin (c.args.row.length - c.args.row.header) (part.Holds c.in-Holds.total) =
    subst (IsPartWithin (c.args.row.length - c.args.row.header)) c.in-Holds.is c.in_ok-part_at.ensures.within in
    record
    { inside = omega (arith, fits.0, c.requires.inside, c.requires.ordered, c.in_ok-part_at.ensures.stays.same_len); small = fits.1 }

use Rattle.std.proofs.Common.{◌≡◌, Option, IfSome, sym, ◌∙◌, subst, arith}
use Rattle.std.proofs.lemmas.Bool.{false≢true}
use Rattle.std.specs.Prelude.{IsSome}
use Rattle.c2_container.specs.Contained.{IsPointIn, TellsPackets}
use Rattle.c2_container.specs.declared.types.Container.{Container}
use Rattle.c2_jpegseg_survey.specs.Surveys.{HasPacketPoint, less_found}
use Rattle.c2_jpegseg_survey.specs.declared.surveying.PacketPoint.{PacketPoint}
use Rattle.c2_without_store.specs.Clears.{cleared, cleared_len}
use Rattle.c2_build_refusals.specs.declared.types.InsertPoint.TheVariants as InsertPoint
use Rattle.c2_build_place.specs.PointsLeft.{HasInsertPoint, clearing_by}
use Rattle.c2_build_place.proofs.Points.{cut_size, packets_point}
use Rattle.c2_build_place.proofs.place.in_segments.Goals as goal

-- of a JPEG file the place is told
pub unreachable-requires : goal.unreachable-requires
unreachable-requires c =
    let some =
    subst (λ (k : Container). TellsPackets k c.args.file.now.packets) c.requires.container c.requires.within.1.tells in
    false≢true (subst (λ (o : Option PacketPoint). IsSome o) c.in_default.is some)

-- the place that the survey found is one
pub returns-clause-point : goal.returns-clause-point
returns-clause-point c = λ bytes is.
    let found = c.args.file.now.found in
    let p = c.in-Some.packets in
    let point =
    subst (λ (o : Option PacketPoint). IfSome o (HasPacketPoint (less_found found bytes))) c.in-Some.is is.packets in
    subst
    (λ (k : Container). HasInsertPoint (cleared (clearing_by k found) bytes) (InsertPoint.Segments p.start p.number))
    (sym c.requires.container) (packets_point (less_found found bytes) p point)

-- as many bytes are left
pub returns-clause-size : goal.returns-clause-size
returns-clause-size c = λ len within.
    let found = c.args.file.now.found in
    let p = c.in-Some.packets in
    let point = subst (λ (o : Option PacketPoint). IfSome o (IsPointIn len found)) c.in-Some.is within.packets in
    subst (λ (k : Container). p.size ≡ cleared_len (clearing_by k found) len) (sym c.requires.container)
    (point.size ∙ cut_size len found within.range)

-- it lies in them
pub returns-clause-inside : goal.returns-clause-inside
returns-clause-inside c =
    let w = c.requires.within in
    (subst (λ (o : Option PacketPoint). IfSome o (IsPointIn w.0 c.args.file.now.found)) c.in-Some.is w.1.packets).inside

-- which are few enough
pub returns-clause-short : goal.returns-clause-short
returns-clause-short c =
    let w = c.requires.within in
    let point =
    subst (λ (o : Option PacketPoint). IfSome o (IsPointIn w.0 c.args.file.now.found)) c.in-Some.is w.1.packets in
    omega (arith, point.size, w.1.small)

use Rattle.std.proofs.Common.{map, inl, refl, sym, subst}
use Rattle.c2_spec.specs.C2pa.Manifest.{manifests_of}
use Rattle.c2_spec.specs.Judges.Panel.{panel_says}
use Rattle.c2_rules.specs.Claims.{Chained}
use Rattle.c2_rules.specs.Readings.{AreReadings}
use Rattle.c2_compare_spec.specs.declared.compared.Compared.{Compared}
use Rattle.c2_compare_spec.specs.declared.compared.Side.TheVariants.{First}
use Rattle.c2_container.specs.Contained.{HasRootsInside}
use Rattle.c2_compare.proofs.Answering.{ended_first}
use Rattle.c2_compare.proofs.Ending.{leaves_memory, leaves_unread}
use Rattle.c2_compare.proofs.Files.{opened_from, unaccepted_unopened}
use Rattle.c2_compare.proofs.Hearing.{hears_first, hears_memory, hears_unopened, unasked_read}
use Rattle.c2_compare.proofs.comparing.Checker.read_first.Goals as goal

-- ---- the store is read

pub of_store-requires : goal.of_store-requires
of_store-requires g c = c.in-Ok.ensures.read.boxes

pub check_first-requires-clause-inside : goal.check_first-requires-clause-inside
check_first-requires-clause-inside g c =
    subst (HasRootsInside (g.A.Source.len c.args.first.now)) (sym c.opened_in.ensures.container) c.requires.inside

pub check_first-requires-clause-opened : goal.check_first-requires-clause-opened
check_first-requires-clause-opened g c = λ file known.
    opened_from file c.args.one.now c.in-Ok.read.0 c.in-Ok.read.1 c.opened_in.result (c.requires.found file known) c.in-Ok.ensures.read c.opened_in.ensures.container c.opened_in.ensures.start c.opened_in.ensures.count
    (subst (λ (x : Chained). AreReadings (manifests_of c.in-Ok.read.0) x.readings) (sym c.opened_in.ensures.chain) c.in-Ok-of_store.ensures.reads)

-- ---- memory runs out

pub returns-in-Err-of_store-clause-compared : goal.returns-in-Err-of_store-clause-compared
returns-in-Err-of_store-clause-compared g c = λ a known b due. inl refl

pub returns-in-Err-of_store-clause-leaves : goal.returns-in-Err-of_store-clause-leaves
returns-in-Err-of_store-clause-leaves g c = leaves_memory c.args.first.now c.args.second.now c.args.report.now

pub returns-in-Err-of_store-clause-panel : goal.returns-in-Err-of_store-clause-panel
returns-in-Err-of_store-clause-panel g c = hears_memory c.args.judges.now

-- ---- the store is refused, or memory runs out

pub returns-in-Err-clause-leaves : goal.returns-in-Err-clause-leaves
returns-in-Err-clause-leaves g c =
    leaves_unread c.args.first.now c.args.second.now c.args.report.now First c.in-Err.unaccepted c.end.result
    c.end.ensures c.in-Err.ensures.errors

pub returns-in-Err-clause-compared : goal.returns-in-Err-clause-compared
returns-in-Err-clause-compared g c = λ a known b due.
    let said = panel_says (map (λ j. (goal.Judge-dyn g (j.vtable, j.value)).says j.value) c.args.judges.now.items) in
    let hash = g.H.Hashing.digest_of in
    ended_first hash said a b c.in-Err.unaccepted (g.W.Sink.written c.args.report.now) c.end.result c.end.ensures (unaccepted_unopened hash said a c.in-Err.unaccepted (c.in-Err.ensures.refused a (c.requires.found a known)))

pub returns-in-Err-clause-panel : goal.returns-in-Err-clause-panel
returns-in-Err-clause-panel g c =
    let said = panel_says (map (λ j. (goal.Judge-dyn g (j.vtable, j.value)).says j.value) c.args.judges.now.items) in
    let hash = g.H.Hashing.digest_of in
    let known = g.A.Source.known c.args.first.now in
    hears_first {T = Compared} hash known (g.B.Source.known c.args.second.now) c.args.judges.now c.args.judges.now c.in-Err.unaccepted c.end.result c.end.ensures
    (λ file is. unaccepted_unopened hash said file c.in-Err.unaccepted (c.in-Err.ensures.refused file (c.requires.found file is)))
    (hears_unopened {T = Compared} hash known c.args.judges.now c.in-Err.unaccepted (unasked_read c.in-Err.unaccepted c.in-Err.ensures.errors)
    (λ file is. c.in-Err.ensures.refused file (c.requires.found file is)))

use Rattle.std.proofs.Common.{map, sym, subst, ◌∙◌}
use Rattle.c2_spec.specs.Judges.Panel.{panel_says}
use Rattle.c2_compare_spec.specs.declared.compared.Compared.{Compared}
use Rattle.c2_compare_spec.specs.declared.compared.Side.TheVariants.{First}
use Rattle.c2_container.specs.Contained.{HasRootsInside}
use Rattle.c2_compare.proofs.Answering.{ended_first}
use Rattle.c2_compare.proofs.Ending.{leaves_first, leaves_on_first}
use Rattle.c2_compare.proofs.Files.{unaccepted_unopened}
use Rattle.c2_compare.proofs.Hearing.{hears_first, hears_of_first, hears_unopened, unasked_found}
use Rattle.c2_compare.proofs.comparing.Checker.find_first.Goals as goal

-- ---- the first file has a store

pub read_first-requires-clause-inside : goal.read_first-requires-clause-inside
read_first-requires-clause-inside g c =
    subst (λ n. HasRootsInside n c.in-Ok.one.container) (sym c.in-Ok.ensures.reads.stays.same_len)
    c.in-Ok.ensures.inside

pub read_first-requires-clause-found : goal.read_first-requires-clause-found
read_first-requires-clause-found g c =
    λ a known. c.in-Ok.ensures.found a (sym c.in-Ok.ensures.reads.stays.same_bytes ∙ known)

pub returns-in-Ok-clause-compared : goal.returns-in-Ok-clause-compared
returns-in-Ok-clause-compared g c =
    λ a known b due. c.read_first.ensures.compared a (c.in-Ok.ensures.reads.stays.same_bytes ∙ known) b due

pub returns-in-Ok-clause-not_due : goal.returns-in-Ok-clause-not_due
returns-in-Ok-clause-not_due g c =
    λ a known refused. c.read_first.ensures.not_due a (c.in-Ok.ensures.reads.stays.same_bytes ∙ known) refused

pub returns-in-Ok-clause-leaves : goal.returns-in-Ok-clause-leaves
returns-in-Ok-clause-leaves g c =
    leaves_on_first c.args.first.now c.find.new.source c.read_first.new.first c.args.second.now c.read_first.new.second
    c.args.report.now c.read_first.new.report c.read_first.result
    c.in-Ok.ensures.reads.stays c.in-Ok.ensures.reads.quiet c.read_first.ensures.leaves

pub returns-in-Ok-clause-panel : goal.returns-in-Ok-clause-panel
returns-in-Ok-clause-panel g c =
    hears_of_first g.H.Hashing.digest_of (g.A.Source.known c.find.new.source) (g.A.Source.known c.args.first.now)
    (g.B.Source.known c.args.second.now) c.args.judges.now c.read_first.new.judges c.read_first.result
    c.in-Ok.ensures.reads.stays.same_bytes c.read_first.ensures.panel

-- ---- it has none, or the call fails

pub returns-in-Err-clause-compared : goal.returns-in-Err-clause-compared
returns-in-Err-clause-compared g c = λ a known b due.
    let said = panel_says (map (λ j. (goal.Judge-dyn g (j.vtable, j.value)).says j.value) c.args.judges.now.items) in
    let hash = g.H.Hashing.digest_of in
    ended_first hash said a b c.in-Err.unaccepted (g.W.Sink.written c.args.report.now) c.end.result c.end.ensures (unaccepted_unopened hash said a c.in-Err.unaccepted (c.in-Err.ensures.refused a known))

pub returns-in-Err-clause-leaves : goal.returns-in-Err-clause-leaves
returns-in-Err-clause-leaves g c =
    leaves_first c.args.first.now c.find.new.source c.args.second.now c.args.report.now First c.in-Err.unaccepted c.end.result (λ h. h) c.end.ensures c.in-Err.ensures.reads

pub returns-in-Err-clause-panel : goal.returns-in-Err-clause-panel
returns-in-Err-clause-panel g c =
    let said = panel_says (map (λ j. (goal.Judge-dyn g (j.vtable, j.value)).says j.value) c.args.judges.now.items) in
    let hash = g.H.Hashing.digest_of in
    let known = g.A.Source.known c.args.first.now in
    hears_first {T = Compared} hash known (g.B.Source.known c.args.second.now) c.args.judges.now c.args.judges.now c.in-Err.unaccepted c.end.result c.end.ensures
    (λ file is. unaccepted_unopened hash said file c.in-Err.unaccepted (c.in-Err.ensures.refused file is))
    (hears_unopened {T = Compared} hash known c.args.judges.now c.in-Err.unaccepted (unasked_found _ _ c.in-Err.unaccepted c.in-Err.ensures.reads.cause)
    (λ file is. c.in-Err.ensures.refused file is))

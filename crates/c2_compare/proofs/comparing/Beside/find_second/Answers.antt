use Rattle.std.proofs.Common.{map, sym, subst, ◌∙◌}
use Rattle.c2_spec.specs.Judges.Panel.{panel_says}
use Rattle.c2_compare_spec.specs.declared.compared.Compared.{Compared}
use Rattle.c2_compare_spec.specs.declared.compared.Side.TheVariants.{Second}
use Rattle.c2_container.specs.Contained.{HasRootsInside}
use Rattle.c2_compare.proofs.Answering.{ended_second}
use Rattle.c2_compare.proofs.Ending.{leaves_on_second, leaves_second}
use Rattle.c2_compare.proofs.Files.{unaccepted_unopened}
use Rattle.c2_compare.proofs.Hearing.{hears_of_second, hears_second, hears_unopened, unasked_found}
use Rattle.c2_compare.proofs.comparing.Beside.find_second.Goals as goal

-- ---- the second file has a store

pub read_second-requires-clause-inside : goal.read_second-requires-clause-inside
read_second-requires-clause-inside g c =
    subst (λ n. HasRootsInside n c.in-Ok.two.container) (sym c.in-Ok.ensures.reads.stays.same_len)
    c.in-Ok.ensures.inside

pub read_second-requires-clause-found : goal.read_second-requires-clause-found
read_second-requires-clause-found g c =
    λ b known. c.in-Ok.ensures.found b (sym c.in-Ok.ensures.reads.stays.same_bytes ∙ known)

pub returns-in-Ok-clause-compared : goal.returns-in-Ok-clause-compared
returns-in-Ok-clause-compared g c =
    λ a known b known'. c.read_second.ensures.compared a known b (c.in-Ok.ensures.reads.stays.same_bytes ∙ known')

pub returns-in-Ok-clause-leaves : goal.returns-in-Ok-clause-leaves
returns-in-Ok-clause-leaves g c =
    leaves_on_second c.args.first.now c.read_second.new.first c.args.second.now c.find.new.source
    c.read_second.new.second c.args.report.now c.read_second.new.report c.read_second.result
    c.in-Ok.ensures.reads.stays c.in-Ok.ensures.reads.quiet c.read_second.ensures.leaves

pub returns-in-Ok-clause-panel : goal.returns-in-Ok-clause-panel
returns-in-Ok-clause-panel g c =
    hears_of_second g.H.Hashing.digest_of (g.B.Source.known c.find.new.source) (g.B.Source.known c.args.second.now)
    c.args.judges.now c.read_second.new.judges c.read_second.result
    c.in-Ok.ensures.reads.stays.same_bytes c.read_second.ensures.panel

-- ---- it has none, or the call fails

pub returns-in-Err-clause-compared : goal.returns-in-Err-clause-compared
returns-in-Err-clause-compared g c = λ a known b known'.
    let said = panel_says (map (λ j. (goal.Judge-dyn g (j.vtable, j.value)).says j.value) c.args.judges.now.items) in
    let hash = g.H.Hashing.digest_of in
    let side = c.requires.side a known in
    ended_second hash said a b side.store side.accepted c.in-Err.unaccepted (g.W.Sink.written c.args.report.now) c.end.result c.end.ensures (unaccepted_unopened hash said b c.in-Err.unaccepted (c.in-Err.ensures.refused b known'))

pub returns-in-Err-clause-leaves : goal.returns-in-Err-clause-leaves
returns-in-Err-clause-leaves g c =
    leaves_second c.args.first.now c.args.second.now c.find.new.source c.args.report.now Second c.in-Err.unaccepted c.end.result (λ h. h) c.end.ensures c.in-Err.ensures.reads

pub returns-in-Err-clause-panel : goal.returns-in-Err-clause-panel
returns-in-Err-clause-panel g c =
    hears_second {T = Compared} Second c.args.judges.now c.args.judges.now c.in-Err.unaccepted c.end.result c.end.ensures
    (hears_unopened {T = Compared} g.H.Hashing.digest_of (g.B.Source.known c.args.second.now) c.args.judges.now c.in-Err.unaccepted
    (unasked_found _ _ c.in-Err.unaccepted c.in-Err.ensures.reads.cause) (λ file is. c.in-Err.ensures.refused file is))

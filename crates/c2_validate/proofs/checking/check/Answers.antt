use Rattle.std.proofs.Common.{refl, sym, ◌∙◌}
use Rattle.c2_calls_spec.proofs.PanelLemmas.{hears_early, hears_nobody}
use Rattle.c2_calls_spec.proofs.SourceLemmas.{reads_error, reads_nothing, reads_then}
use Rattle.c2_opening.specs.Opened.{IsOpeningCause}
use Rattle.c2_opening.specs.declared.error.ValidateError.TheVariants.{NoMemory}
use Rattle.c2_validate.specs.Checked.{IsCheckReadCause, StoreAsks}
use Rattle.c2_validate.proofs.CheckLemmas.{active_fails, asks_none, binding_fails, binding_holds, chain_fails, fault_reads, no_judge, read_cause, store_broke, store_heard}
use Rattle.c2_validate.proofs.checking.check.Goals as goal

-- ---- the rule on the active manifest

-- it fails
pub returns-in-Ok-Some-clause-answer : goal.returns-in-Ok-Some-clause-answer
returns-in-Ok-Some-clause-answer g c =
    λ file known. active_fails g.H.Hashing.digest_of _ c.args.store.now file c.in-Ok-Some.failing (sym c.in-Ok-Some.field-0-is ∙ c.in-Ok-Some.ensures)

pub returns-in-Ok-Some-clause-panel : goal.returns-in-Ok-Some-clause-panel
returns-in-Ok-Some-clause-panel g c =
    hears_nobody _ _ _ _ (StoreAsks g.H.Hashing.digest_of c.args.store.now) c.args.judges.now _ (λ qs asks. asks ∙ asks_none g.H.Hashing.digest_of _ c.args.store.now.chain.now.readings c.in-Ok-Some.failing (sym c.in-Ok-Some.field-0-is ∙ c.in-Ok-Some.ensures))

-- memory ran out before anybody was asked
pub returns-in-Err-clause-panel : goal.returns-in-Err-clause-panel
returns-in-Err-clause-panel g c =
    hears_early _ _ _ _ (StoreAsks g.H.Hashing.digest_of c.args.store.now) c.args.judges.now NoMemory refl

-- ---- the rules of the reached manifests

-- one of them fails
pub returns-in-Ok-Some-check_chain-clause-answer : goal.returns-in-Ok-Some-check_chain-clause-answer
returns-in-Ok-Some-check_chain-clause-answer g c = λ file known.
    chain_fails g.H.Hashing.digest_of _ c.args.store.now file c.in-Ok-Some-check_chain.failing (sym c.in-Ok-None.field-0-is ∙ c.in-Ok-None.ensures) (sym c.in-Ok-Some-check_chain.field-0-is ∙ c.in-Ok-Some-check_chain.ensures.answer)

pub returns-in-Ok-Some-check_chain-clause-panel : goal.returns-in-Ok-Some-check_chain-clause-panel
returns-in-Ok-Some-check_chain-clause-panel g c =
    store_heard _ _ _ g.H.Hashing.digest_of c.args.store.now c.args.judges.now c.check_chain.new.judges c.in-Ok-Some-check_chain.field-0 _ (sym c.in-Ok-None.field-0-is ∙ c.in-Ok-None.ensures) tt c.in-Ok-Some-check_chain.ensures.panel

-- asking broke off
pub returns-in-Err-check_chain-clause-panel : goal.returns-in-Err-check_chain-clause-panel
returns-in-Err-check_chain-clause-panel g c =
    store_broke _ _ _ g.H.Hashing.digest_of c.args.store.now c.args.judges.now c.check_chain.new.judges c.in-Err-check_chain.error c.fault.result (sym c.in-Ok-None.field-0-is ∙ c.in-Ok-None.ensures) c.fault.ensures c.in-Err-check_chain.ensures.panel

pub returns-in-Err-check_chain-clause-reads : goal.returns-in-Err-check_chain-clause-reads
returns-in-Err-check_chain-clause-reads g c =
    reads_nothing g.S.Source.len g.S.Source.known g.S.Source.faults IsCheckReadCause c.args.source.now _
    (fault_reads _ _ c.in-Err-check_chain.error c.fault.result c.fault.ensures)

-- ---- the binding of the active manifest

-- it fails
pub returns-in-Ok-Fails-clause-answer : goal.returns-in-Ok-Fails-clause-answer
returns-in-Ok-Fails-clause-answer g c = λ file known.
    binding_fails g.H.Hashing.digest_of _ c.args.store.now file c.active_manifest-active.result.now c.in-Ok-Fails.field-0 c.in-Ok-Fails.failing c.active_manifest-active.ensures (sym c.in-Ok-None.field-0-is ∙ c.in-Ok-None.ensures)
    (sym c.in-Ok-None-check_chain.field-0-is ∙ c.in-Ok-None-check_chain.ensures.answer) c.in-Ok-Fails.field-0-is (λ m i b has. c.in-Ok-Fails.ensures.found file known m i b has)

pub returns-in-Ok-Fails-clause-panel : goal.returns-in-Ok-Fails-clause-panel
returns-in-Ok-Fails-clause-panel g c =
    store_heard _ _ _ g.H.Hashing.digest_of c.args.store.now c.args.judges.now c.check_chain.new.judges c.in-Ok-None-check_chain.field-0 _ (sym c.in-Ok-None.field-0-is ∙ c.in-Ok-None.ensures) tt c.in-Ok-None-check_chain.ensures.panel

pub returns-in-Ok-Fails-clause-reads : goal.returns-in-Ok-Fails-clause-reads
returns-in-Ok-Fails-clause-reads g c =
    reads_then g.S.Source.len g.S.Source.known g.S.Source.faults IsOpeningCause IsCheckReadCause c.args.source.now
    c.check_binding.new.source c.in-Ok-Fails.field-0 _ tt c.in-Ok-Fails.ensures.reads

-- the source failed, or memory ran out
pub returns-in-Err-check_binding-clause-panel : goal.returns-in-Err-check_binding-clause-panel
returns-in-Err-check_binding-clause-panel g c =
    store_heard _ _ _ g.H.Hashing.digest_of c.args.store.now c.args.judges.now c.check_chain.new.judges
    c.in-Ok-None-check_chain.field-0 _ (sym c.in-Ok-None.field-0-is ∙ c.in-Ok-None.ensures)
    (no_judge _ _ c.in-Err-check_binding.error c.in-Err-check_binding.ensures.reads.cause)
    c.in-Ok-None-check_chain.ensures.panel

pub returns-in-Err-check_binding-clause-reads : goal.returns-in-Err-check_binding-clause-reads
returns-in-Err-check_binding-clause-reads g c =
    reads_error g.S.Source.len g.S.Source.known g.S.Source.faults IsOpeningCause IsCheckReadCause c.args.source.now c.check_binding.new.source c.in-Err-check_binding.error c.in-Err-check_binding.error (read_cause _ _ c.in-Err-check_binding.error) c.in-Err-check_binding.ensures.reads

-- ---- the counts

-- all rules hold
pub returns-in-Ok-clause-answer : goal.returns-in-Ok-clause-answer
returns-in-Ok-clause-answer g c = λ file known.
    binding_holds g.H.Hashing.digest_of _ c.args.store.now file c.active_manifest-active.result.now c.in-Ok-Holds.field-0 c.in-Ok-Holds.text c.in-Ok.summary (g.S.Source.len c.args.source.now) c.active_manifest-active.ensures (sym c.in-Ok-None.field-0-is ∙ c.in-Ok-None.ensures)
    (sym c.in-Ok-None-check_chain.field-0-is ∙ c.in-Ok-None-check_chain.ensures.answer) c.in-Ok-Holds.field-0-is c.in-Ok-Holds.ensures.size (g.met.S.Source.known_len c.args.source.now file known) c.in-Ok.ensures (λ m i b has. c.in-Ok-Holds.ensures.found file known m i b has)

pub returns-in-Ok-clause-panel : goal.returns-in-Ok-clause-panel
returns-in-Ok-clause-panel g c =
    store_heard _ _ _ g.H.Hashing.digest_of c.args.store.now c.args.judges.now c.check_chain.new.judges c.in-Ok-None-check_chain.field-0 _ (sym c.in-Ok-None.field-0-is ∙ c.in-Ok-None.ensures) tt c.in-Ok-None-check_chain.ensures.panel

pub returns-in-Ok-clause-reads : goal.returns-in-Ok-clause-reads
returns-in-Ok-clause-reads g c =
    reads_then g.S.Source.len g.S.Source.known g.S.Source.faults IsOpeningCause IsCheckReadCause c.args.source.now
    c.check_binding.new.source c.in-Ok-Holds.field-0 _ tt c.in-Ok-Holds.ensures.reads

-- memory ran out
pub returns-in-Err-summary-clause-panel : goal.returns-in-Err-summary-clause-panel
returns-in-Err-summary-clause-panel g c =
    store_heard _ _ _ g.H.Hashing.digest_of c.args.store.now c.args.judges.now c.check_chain.new.judges c.in-Ok-None-check_chain.field-0 _ (sym c.in-Ok-None.field-0-is ∙ c.in-Ok-None.ensures) (λ is. let no = is in cc (no)) c.in-Ok-None-check_chain.ensures.panel

pub returns-in-Err-summary-clause-reads : goal.returns-in-Err-summary-clause-reads
returns-in-Err-summary-clause-reads g c =
    reads_then g.S.Source.len g.S.Source.known g.S.Source.faults IsOpeningCause IsCheckReadCause c.args.source.now
    c.check_binding.new.source c.in-Ok-Holds.field-0 _ tt c.in-Ok-Holds.ensures.reads

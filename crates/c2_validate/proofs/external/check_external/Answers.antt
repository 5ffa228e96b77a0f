use Rattle.std.proofs.Common.{length, arith}
use Rattle.std.proofs.lemmas.Bool.{lt-ltb}
use Rattle.c2_base.specs.declared.limits.TheConstants.{MAX_STORE_LEN}
use Rattle.c2_calls_spec.proofs.PanelLemmas.{hears_nobody}
use Rattle.c2_validate.specs.External.{ListAsks}
use Rattle.c2_validate.proofs.ExternalLemmas.{list_too_long, long_asks}
use Rattle.c2_validate.proofs.external.check_external.Goals as goal

-- the list is too long
pub returns-then-store-clause-answer : goal.returns-then-store-clause-answer
returns-then-store-clause-answer g c =
    λ file known. list_too_long g.H.Hashing.digest_of _ c.args.container.now c.args.store.now file (lt-ltb MAX_STORE_LEN (length c.args.store.now) (omega (arith, c.if-store.true)))

pub returns-then-store-clause-panel : goal.returns-then-store-clause-panel
returns-then-store-clause-panel g c =
    hears_nobody _ _ _ _ (ListAsks g.H.Hashing.digest_of c.args.store.now) c.args.judges.now _
    (λ qs asks. long_asks g.H.Hashing.digest_of c.args.store.now _ qs (lt-ltb MAX_STORE_LEN (length c.args.store.now) (omega (arith, c.if-store.true))) asks)

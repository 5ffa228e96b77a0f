use Rattle.c2_read_manifests.proofs.TheLaws.{a_reading_is_the_claim_and_the_question_claim, labels_of_a_store_differ}
use Rattle.c2_spec.specs.C2pa.Manifest.{manifests_of}
use Rattle.c2_chain.proofs.ChainLemmas.{same_manifests, claims_had, is_chain}
use Rattle.c2_chain.proofs.StoreLemmas.{some_reading}
use Rattle.c2_chain.proofs.chain.of_store.Goals as goal

-- what is read of a store is a chain: each reading is of its manifest and holds its claim
pub invariant_of-result : goal.invariant_of-result
invariant_of-result c =
    is_chain a_reading_is_the_claim_and_the_question_claim (manifests_of c.args.tree.now) c.in_ok-all.all
    c.in_ok-all.ensures
    (some_reading c.args.tree.now c.args.store.now c.in_ok-all.all c.requires c.in_ok-all.ensures)
    (labels_of_a_store_differ c.args.tree.now c.in_ok-all.all c.count-boxes.ensures.legal c.requires.accepted c.in_ok-all.ensures)

-- the chain's manifests are those of the store
pub returns-clause-manifests : goal.returns-clause-manifests
returns-clause-manifests c = same_manifests (manifests_of c.args.tree.now) c.in_ok-all.all c.in_ok-all.ensures

-- the chain's manifests have the claims that the chain keeps, one by one
pub returns-clause-claims : goal.returns-clause-claims
returns-clause-claims c =
    claims_had a_reading_is_the_claim_and_the_question_claim (manifests_of c.args.tree.now) c.in_ok-all.all
    c.in_ok-all.ensures

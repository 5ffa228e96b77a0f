use Rattle.std.proofs.Common.{ℕ, List, take, sym}
use Rattle.c2_rules.specs.Ingredients.{assertion_uri}
use Rattle.c2_rules.specs.Chains.{entry_label, label_in}
use Rattle.c2_rules.specs.Readings.{entries_in}
use Rattle.c2_rules.specs.Rules.{labelled_tests}
use Rattle.c2_read_manifests.specs.Placed.{seen_in}
use Rattle.c2_rules.proofs.TestLemmas.{by_some}
use Rattle.c2_check_claim.proofs.entries.check_entry.Goals as goal

-- what fails of an entry by the label that it lists fails of the entry
pub returns-in-Some : goal.returns-in-Some
returns-in-Some g c =
    by_some
    (λ (label : List ℕ). labelled_tests g.H.Hashing.digest_of (seen_in c.args.at.now c.args.own.now) (take c.args.k (entries_in c.args.own.now)) c.args.entry.now label (assertion_uri (label_in c.args.own.now) label))
    (entry_label c.args.own.now.manifest c.args.entry.now) c.in-Some.label.now _ c.check_labelled.result (sym c.in-Some.ensures) c.check_labelled.ensures

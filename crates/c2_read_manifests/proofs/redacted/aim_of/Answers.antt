use Rattle.c2_spec.specs.C2pa.Uri.{uri_view}
use Rattle.c2_read_manifests.proofs.RedactLemmas.{aimed, not_placed}
use Rattle.c2_read_manifests.proofs.redacted.aim_of.Goals as goal

-- a text whose manifest isn't there names no assertion
pub returns-in_default-given_place-clause-names : goal.returns-in_default-given_place-clause-names
returns-in_default-given_place-clause-names c =
    not_placed c.args.all.now c.requires c.args.text.now (uri_view c.in-Some.uri) c.in-Some.ensures
    c.in_default-given_place.ensures

-- a text whose manifest is there names the assertion with its label in that manifest, and nothing else
pub returns-clause-names : goal.returns-clause-names
returns-clause-names c =
    aimed c.args.all.now c.requires c.args.text.now (uri_view c.in-Some.uri) c.in-Some-given_place.place
    c.in-Some-assertion_label.label.now c.in-Some.ensures c.in-Some-given_place.ensures
    c.in-Some-assertion_label.ensures

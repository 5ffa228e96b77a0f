use Rattle.std.proofs.Common.{◌∙◌, ap, Option}
use Rattle.c2_spec.specs.C2pa.Uri.{PlainUri}
use Rattle.c2_parent.specs.Refused.{code_of, uri_entry_tests}
use Rattle.c2_parent.proofs.RefusedLemmas.{view_is}
use Rattle.c2_parent.proofs.refused.target_code.Goals as goal

pub returns-in-Some : goal.returns-in-Some
returns-in-Some c = λ redacts text h.
    c.assertion_code.ensures redacts text h
    ∙ ap (λ (u : Option PlainUri). code_of (uri_entry_tests c.args.own.now c.args.known.now redacts text u)) (view_is c.args.manifest c.args.target.now c.in-Some.given c.in-Assertion.label c.in-Some.is c.in-Assertion.is)

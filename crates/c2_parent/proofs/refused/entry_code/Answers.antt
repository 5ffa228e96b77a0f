use Rattle.std.proofs.Common.{◌∙◌, ap, sym, option_map, Option}
use Rattle.c2_spec.specs.C2pa.Uri.{PlainUri, uri_view}
use Rattle.c2_parent.specs.Refused.{code_of, uri_entry_tests}
use Rattle.c2_parent.proofs.refused.entry_code.Goals as goal

pub returns-in-Some : goal.returns-in-Some
returns-in-Some c = λ redacts h.
    c.target_code.ensures redacts c.args.text.now h
    ∙ ap (λ (u : Option PlainUri). code_of (uri_entry_tests c.args.own.now c.args.known.now redacts c.args.text.now u)) (sym (ap (option_map uri_view) c.in-Some.is) ∙ c.parse.ensures)

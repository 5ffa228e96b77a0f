use Rattle.std.proofs.Common.{◌||◌, ◌∙◌, ap, sym, option_map}
use Rattle.c2_spec.specs.C2pa.Uri.{uri_view}
use Rattle.c2_parent.specs.Named.{is_among}
use Rattle.c2_parent.proofs.NamedLemmas.{names_pair, pair_added}
use Rattle.c2_parent.proofs.named.add_named.Goals as goal

-- the set has what it had, and what the text names
pub returns-in_ok-insert : goal.returns-in_ok-insert
returns-in_ok-insert c = λ manifest label.
    pair_added (c.in-Some-manifest.manifest, c.in-Assertion.label) c.args.named.now (record { pairs = c.insert.new.self }) c.in_ok-insert.ensures.updates manifest label
    ∙ ap (λ b. is_among c.args.named.now manifest label || b) (sym (names_pair c.args.text.now manifest label c.in-Some.uri c.in-Some-manifest.manifest c.in-Assertion.label (sym c.parse.ensures ∙ ap (option_map uri_view) c.in-Some.is) c.in-Some-manifest.is c.in-Assertion.is))

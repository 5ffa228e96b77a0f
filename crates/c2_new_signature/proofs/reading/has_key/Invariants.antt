use Rattle.std.proofs.Common.{◌≡◌, drop}
use Rattle.c2_spec.specs.Cbor.View.{pairs_view}
use Rattle.c2_spec.specs.Cbor.Lookup.{first_value}
use Rattle.c2_new_signature.proofs.reading.has_key.Given as goal

-- what is found is found in what is left
abbrev pub invariant-loop-entry : goal.invariant-loop-entry
invariant-loop-entry l =
    first_value l.text (pairs_view (drop l.entry-index l.entries)) ≡ first_value l.text (pairs_view l.entries)

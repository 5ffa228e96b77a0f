use Rattle.std.proofs.Common.{◌≡◌, drop}
use Rattle.c2_spec.specs.Cbor.View.{pairs_view}
use Rattle.c2_spec.specs.Cbor.Lookup.{first_value, first_in}
use Rattle.c2_cbor_fields.proofs.lookup.first.Given as goal

abbrev pub invariant-loop-pair : goal.invariant-loop-pair
invariant-loop-pair l =
    (first_value l.key (pairs_view (drop l.pair-index l.pairs)) ≡ first_value l.key (pairs_view l.pairs))
    × (first_in l.key (drop l.pair-index l.pairs) ≡ first_in l.key l.pairs)

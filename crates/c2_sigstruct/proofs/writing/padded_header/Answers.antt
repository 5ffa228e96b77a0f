use Rattle.std.proofs.Common.{◌≡◌, codes, sym, ap, ◌∙◌}
use Rattle.c2_spec.specs.Cbor.Item.{dict, no_pairs}
use Rattle.c2_spec.specs.Cbor.View.{view, pairs_view}
use Rattle.c2_spec.specs.C2pa.Message.{pairs_then}
use Rattle.c2_pad.specs.Fill.{zeros_before}
use Rattle.c2_sigstruct.proofs.Pushed.{both_pushed}
use Rattle.c2_sigstruct.proofs.writing.padded_header.Goals as goal
use Rattle.c2_cbor_spec.proofs.Views.{view-Map}

-- both entries stand behind those of the map
pub returns-in_ok-push_zeros-in-Map-2 : goal.returns-in_ok-push_zeros-in-Map-2
returns-in_ok-push_zeros-in-Map-2 c =
    let own : view c.args.header.now ≡ dict (pairs_view c.in-Map.pairs.items) =
    sym c.in_ok-other.ensures ∙ ap view c.in-Map.is ∙ view-Map c.in-Map.pairs in
    rw own (view-Map c.push_zeros-in-Map.new.pairs ∙ ap dict (c.in_ok-push_zeros-in-Map-2.ensures
    ∙ ap (λ ps. pairs_then ps (zeros_before (codes "pad2") c.args.fill.pad2 no_pairs)) c.in_ok-push_zeros-in-Map.ensures ∙ both_pushed (pairs_view c.in-Map.pairs.items) c.args.fill))

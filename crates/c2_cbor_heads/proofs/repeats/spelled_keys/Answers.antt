use Rattle.std.proofs.Common.{◌≡◌, ◌+◌, ◌++◌, ◌∷◌, [], get_or, take, arith}
use Rattle.std.proofs.lemmas.List.{take_more}
use Rattle.c2_spec.specs.Cbor.View.{view}
use Rattle.c2_spec.specs.Cbor.Deterministic.{preferred}
use Rattle.c2_cbor_spec.specs.Tracking.{spelled}
use Rattle.c2_cbor_spec.proofs.Tracks.{spelled_push}
use Rattle.c2_cbor_spec.proofs.Marks.{spelled_on}
use Rattle.c2_cbor_heads.proofs.repeats.spelled_keys.Goals as goal

pub loop-i-preserved : goal.loop-i-preserved
loop-i-preserved c =
    let xs = c.args.pairs.now in
    let i = c.loop-i.i in
    let x = get_or xs i c.index-pairs-i.result in
    let here : take (i + 1) xs ≡ take i xs ++ x ∷ [] = take_more xs i c.index-pairs-i.result (omega arith) in
    spelled_on (spelled (take i xs)) (spelled (take (i + 1) xs)) (preferred (view x.0)) c.loop-i.bytes.items _
    c.loop-i.lens.items _ _ (spelled_push (take i xs) (take (i + 1) xs) x here) c.in_ok-push_preferred.ensures
    c.in_ok-push.ensures.items (omega arith) c.loop-i.invariant

use Rattle.std.proofs.Common.{◌≡◌, ◌-◌, length, subst, arith}
use Rattle.c2_cbor.specs.Answered.{IsReadTo}
use Rattle.c2_cbor_spec.proofs.FaultTold.{Fits}
use Rattle.c2_cbor_spec.proofs.Decoded.{fits_of, decoded, only_ok, told_ok}
use Rattle.c2_cbor.proofs.decoding.end_before.Goals as goal

pub returns : goal.returns
returns c v is =
    let s = c.args.bytes.now in
    let fits : Fits s = fits_of s (λ i. omega (arith, c.type_inv.bytes i)) (omega arith) in
    let end : length s - length c.args.rest.now ≡ c.saturating_sub.result = omega arith in
    subst (IsReadTo s v) end (record {
      read = decoded s v _ fits is;
      only = λ w m b. only_ok s v w _ m fits is b;
      refused = λ e h. told_ok s v _ e fits is h;
    })

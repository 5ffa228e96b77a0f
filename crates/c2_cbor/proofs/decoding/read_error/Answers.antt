use Rattle.std.proofs.Common.{◌≡◌, Err, refl, sym, ◌∙◌, inl, inr, arith}
use Rattle.c2_cbor_spec.specs.Reading.{is_known, item_at}
use Rattle.c2_cbor_spec.proofs.FaultTold.{Fits}
use Rattle.c2_cbor_spec.proofs.Decoded.{fits_of, only_err, told_err, comes, fails_fault, never_trailing}
use Rattle.c2_cbor.proofs.decoding.read_error.Goals as goal

pub returns-in-Memory : goal.returns-in-Memory
returns-in-Memory c is =
    record { only = λ w m b. refl; fault = inl refl; refused = λ d h. inl refl; prefix = λ at q. cc }

pub returns-in-Fault : goal.returns-in-Fault
returns-in-Fault c is =
    let s = c.args.bytes.now in
    let fits : Fits s = fits_of s (λ i. omega (arith, c.type_inv.bytes i)) (omega arith) in
    let failed : item_at is_known 64 s ≡ Err c.in-Fault.fault = fails_fault _ _ _ c.in-Fault.is is in
    record {
      only = λ w m b. only_err s w m _ fits failed b;
      fault = inr (comes s c.in-Fault.fault c.placed.result fits failed c.placed.ensures);
      refused = λ d h. inr (told_err s c.in-Fault.fault c.placed.result d fits failed c.placed.ensures h);
      prefix = λ at q. never_trailing _ c.in-Fault.fault at (sym c.placed.ensures ∙ q);
    }

use Rattle.std.proofs.Common.{◌+◌, ap, sym}
use Rattle.c2_cbor_write.proofs.Lengths.{sum_on, sum_off}
use Rattle.c2_cbor_write.proofs.length.with_string.Goals as goal

pub returns-in_err-start : goal.returns-in_err-start
returns-in_err-start c major =
    sum_off _ _ _ _ _ c.from_residual.ensures c.in_err-start.ensures (ap (λ h. h + c.args.len) (sym (c.head_len.ensures major)))

pub returns : goal.returns
returns c major =
    sum_on _ _ _ _ _ _ c.in_ok-start.ensures c.checked_add-2.ensures (ap (λ h. h + c.args.len) (sym (c.head_len.ensures major)))

use Rattle.std.proofs.Common.{◌∙◌, false, sym, arith}
use Rattle.c2_uri.proofs.Numbers.{base_next, number_at}
use Rattle.c2_uri.proofs.labels.base_label.Goals as goal

pub loop-i-preserved : goal.loop-i-preserved
loop-i-preserved c =
    let bytes = c.as_bytes-bytes.result.now in
    base_next bytes c.loop-i.i (omega arith) c.loop-i.invariant
    (number_at bytes c.loop-i.i false (sym c.if-is_number.false ∙ c.is_number.ensures))

use Rattle.c2_spec.specs.Cbor.View.{view}
use Rattle.c2_spec.specs.Cbor.Legal.{depth}
use Rattle.c2_cbor_spec.proofs.BadSimple.{fine_no_bad}
use Rattle.c2_cbor_write.proofs.PlainKeys.{plain_distinct}
use Rattle.c2_cbor_write.proofs.Writable.{not_deeper}
use Rattle.c2_cbor_write.proofs.plainness.is_plain.Goals as goal

pub returns : goal.returns
returns c =
    let v = view c.args.item.now in
    let fine = c.is_fine.ensures.yes c.if-not-is_fine.false in
    let shallow = not_deeper c.is_deeper.result (depth v) c.is_deeper.ensures.1 c.if-is_deeper.false in (
      λ e. let plain = c.in_ok-_bytes.ensures.plain.0 e in
          record {
            legal = record { shallow = shallow; distinct = plain_distinct v plain; no_bad_simple = fine_no_bad v fine };
            plain = plain;
          },
      λ p. c.in_ok-_bytes.ensures.plain.1 p.plain,
    )

use Rattle.std.proofs.Common.{◌≡◌, ◌∙◌, ℕ, ◌+◌, ◌-◌, ◌<◌, List, refl, sym, ap, subst, arith}
use Rattle.c2_bmff_chunks.specs.Fields.{fields_from}
use Rattle.c2_bmff_chunks.specs.Shifted.{moved_bytes, part_with}
use Rattle.c2_bmff_chunks.specs.Tables.{field_len, fields_len}
use Rattle.c2_bmff_chunks.specs.declared.table.Field.{Field}
use Rattle.c2_bmff_chunks.proofs.FieldLemmas.{fields_split_len, moved_len}
use Rattle.c2_shift.specs.Parts.{IsAsRead}
use Rattle.c2_shift.proofs.PartLemmas.{as_read_later, as_read_put, fields_behind, fields_passed, fields_step, len_step}
use Rattle.c2_shift.proofs.shifting.put_table.Goals as goal
use Rattle.c2_base.proofs.Written.{source_stays}

-- the fields that end before the bytes pass
pub fields-init : goal.fields-init
fields-init g c =
    let t = c.args.table in
    let skip = c.passed-skipped.result in
    let few = c.passed-skipped.ensures.count in
    record {
      ends =
          omega (arith, c.fields_len.ensures, fields_split_len t.wide skip (t.count - skip), few, ap (fields_len t.wide) (let e : skip + (t.count - skip) ≡ t.count = omega (arith, few) in e));
      stays = record { same_len = refl; same_bytes = refl; later = omega arith };
      count = refl;
      raw =
          λ file known. as_read_later file c.args.pos t.first (t.first + c.fields_len.result) c.args.bytes.now (omega arith) (c.requires.raw file known);
      put = λ file known.
          fields_passed c.args.shift.now.from c.args.shift.now.by c.args.pos file t.wide t.first t.count skip
          c.args.bytes.now few c.passed-skipped.ensures.end
          ∙ ap (λ n. part_with c.args.shift.now.from c.args.shift.now.by c.args.pos file (fields_from t.wide (t.first + n) (t.count - skip)) c.args.bytes.now) (sym c.fields_len.ensures);
    }

-- those that begin behind the bytes pass
pub returns-then-at-end-clause-put : goal.returns-then-at-end-clause-put
returns-then-at-end-clause-put g c file known =
    sym (c.fields.invariant.put file known
    ∙ fields_behind c.args.shift.now.from c.args.shift.now.by c.args.pos file c.args.table.wide c.fields.at c.fields.left c.fields.bytes (omega (arith, c.if-at-end.true, c.fields.auto.bytes)))

pub returns-then-at-end-clause-raw : goal.returns-then-at-end-clause-raw
returns-then-at-end-clause-raw g c file known =
    as_read_later file c.args.pos c.fields.at _ c.fields.bytes (omega (arith, c.fields.invariant.ends))
    (c.fields.invariant.raw file known)

-- the next field lies in the source, and the bytes are as they were read from it on
pub put_field-requires : goal.put_field-requires
put_field-requires g c =
    let before = c.fields.invariant in
    record {
      inside =
          omega
          (arith, before.ends, c.requires.inside, len_step c.args.table.wide c.fields.left (omega (arith, c.fields-test.true)), before.stays.same_len);
      part = omega (arith, c.requires.part, c.fields.auto.bytes, before.stays.same_len);
      raw = λ file known. before.raw file (sym before.stays.same_bytes ∙ known);
    }

-- one more field is put
pub fields-preserved : goal.fields-preserved
fields-preserved g c =
    let before = c.fields.invariant in
    let wide = c.args.table.wide in
    let from : ℕ = c.args.shift.now.from in
    let by : ℕ = c.args.shift.now.by in
    let call = c.in_ok-put_field.ensures in
    let f : Field = record { at = c.fields.at; wide = wide } in
    let some : 0 < c.fields.left = omega (arith, c.fields-test.true) in
    record {
      ends = omega (arith, before.ends, len_step wide c.fields.left some, c.field_len-len.ensures);
      stays =
          source_stays g.S.Source.len g.S.Source.known g.S.Source.faults c.args.source.now c.fields.source
          c.put_field.new.source before.stays call.stays;
      count = call.cause.ok ∙ before.count;
      raw = λ file known.
          let put = call.put file (before.stays.same_bytes ∙ known) in
          let size : c.fields.at + c.field_len-len.result ≡ c.fields.at + field_len wide =
          omega (arith, c.field_len-len.ensures) in
          let moved : IsAsRead file c.args.pos (c.fields.at + field_len wide) c.put_field.new.bytes =
          subst (λ n. IsAsRead file c.args.pos (c.fields.at + n) c.put_field.new.bytes) (moved_len from by file f) (as_read_put file c.args.pos c.fields.at (moved_bytes from by file f) c.fields.bytes c.put_field.new.bytes (before.raw file known) put) in
          subst (λ n. IsAsRead file c.args.pos n c.put_field.new.bytes) (sym size) moved;
      put = λ file known.
          let more : List Field = fields_from wide (c.fields.at + field_len wide) (c.fields.left - 1) in
          before.put file known
          ∙ ap (λ (fs : List Field). part_with from by c.args.pos file fs c.fields.bytes)
          (fields_step wide c.fields.at c.fields.left some)
          ∙ ap (part_with from by c.args.pos file more) (sym (call.put file (before.stays.same_bytes ∙ known)))
          ∙ ap (λ n. part_with from by c.args.pos file (fields_from wide (c.fields.at + n) (c.fields.left - 1)) c.put_field.new.bytes) (sym c.field_len-len.ensures);
    }

-- behind the last field the bytes are as they were read
pub returns-clause-raw : goal.returns-clause-raw
returns-clause-raw g c file known =
    as_read_later file c.args.pos c.fields.at _ c.fields.bytes (omega (arith, c.fields.invariant.ends))
    (c.fields.invariant.raw file known)

use Rattle.std.proofs.Common.{sym, ◌∙◌}
use Rattle.c2_spec.specs.Cbor.View.{view}
use Rattle.c2_hard_binding.proofs.FieldLemmas.{boxes_fields, boxes_refused, data_fields, data_refused, jpeg_refused}
use Rattle.c2_hard_binding.proofs.fields.HardBinding.read.Goals as goal

-- a data hash
pub returns-in-Ok-clause-fields : goal.returns-in-Ok-clause-fields
returns-in-Ok-clause-fields c =
    data_fields c.args.container.now c.args.kind (view c.args.item.now) c.in-Ok.fields
    (sym c.is_bmff_hash.ensures ∙ c.if-not-is_bmff_hash.true) c.in-Ok.ensures

pub returns-in-Err-clause-fields : goal.returns-in-Err-clause-fields
returns-in-Err-clause-fields c =
    data_refused c.args.container.now c.args.kind (view c.args.item.now) c.in-Err.error
    (sym c.is_bmff_hash.ensures ∙ c.if-not-is_bmff_hash.true) c.in-Err.ensures

-- a BMFF hash in a JPEG
pub returns-in-Jpeg-clause-fields : goal.returns-in-Jpeg-clause-fields
returns-in-Jpeg-clause-fields c =
    jpeg_refused c.args.container.now c.args.kind (view c.args.item.now) c.jpeg_refusal.result
    (sym c.is_bmff_hash.ensures ∙ c.if-not-is_bmff_hash.false) c.in-Jpeg.is c.jpeg_refusal.ensures

-- and in a BMFF file
pub returns-in-Ok-read_bmff_hash-clause-fields : goal.returns-in-Ok-read_bmff_hash-clause-fields
returns-in-Ok-read_bmff_hash-clause-fields c =
    boxes_fields c.args.container.now c.args.kind (view c.args.item.now) c.in-Ok-read_bmff_hash.fields c.in-Bmff.roots (sym c.is_bmff_hash.ensures ∙ c.if-not-is_bmff_hash.false) c.in-Bmff.is c.in-Ok-read_bmff_hash.ensures

pub returns-in-Err-read_bmff_hash-clause-fields : goal.returns-in-Err-read_bmff_hash-clause-fields
returns-in-Err-read_bmff_hash-clause-fields c =
    boxes_refused c.args.container.now c.args.kind (view c.args.item.now) c.in-Bmff.roots c.in-Err-read_bmff_hash.error (sym c.is_bmff_hash.ensures ∙ c.if-not-is_bmff_hash.false) c.in-Bmff.is c.in-Err-read_bmff_hash.ensures

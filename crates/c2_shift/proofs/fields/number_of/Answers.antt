use Rattle.std.proofs.Common.{◌≤◌, ◌+◌, ◌∙◌, length, arith}
use Rattle.c2_bmff_chunks.specs.Tables.{field_len}
use Rattle.c2_shift.proofs.PartLemmas.{number_as_read}
use Rattle.c2_shift.proofs.fields.number_of.Goals as goal

-- the field lies in the bytes
pub returns-then-field-field_len-clause-number : goal.returns-then-field-field_len-clause-number
returns-then-field-field_len-clause-number g c file is =
    let to : c.args.field.at + field_len c.args.field.wide ≤ c.args.pos + length c.args.bytes.now =
    omega (arith, c.if-field-field_len.true, c.field_len.ensures) in
    c.number_among.ensures.number
    ∙ number_as_read file c.args.pos c.args.field c.args.bytes.now c.if-pos-field.true to (c.requires.raw file is)

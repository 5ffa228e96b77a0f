use Rattle.std.proofs.Common.{◌≡◌, ◌∙◌, ℕ, ◌+◌, ◌-◌, ◌<◌, Bool, true, false, List, length, ◌≤◌, sym, ap, arith}
use Rattle.c2_bmff_chunks.specs.Fields.{fields_from, number_at, overflows, places_of}
use Rattle.c2_bmff_chunks.specs.Tables.{field_len}
use Rattle.c2_bmff_chunks.specs.declared.table.Field.{Field}
use Rattle.c2_shift.specs.Fitting.{is_too_large}
use Rattle.c2_shift.specs.Parts.{IsAsRead}
use Rattle.c2_shift.proofs.PartLemmas.{as_read_later, fields_step, len_step, number_as_read, places_pass, places_stop}
use Rattle.c2_shift.proofs.checking.first_overflow.Goals as goal

-- the number in the next field
number_is : (file : List ℕ) (pos done : ℕ) (wide : Bool) (part : List ℕ) → done + field_len wide ≤ length part
    → IsAsRead file pos pos part → number_at wide part done ≡ number_at wide file (pos + done)
number_is file pos done wide part fits h =
    let f : Field = record { at = pos + done; wide = wide } in
    let place : done ≡ pos + done - pos = omega arith in
    ap (number_at wide part) place
    ∙ number_as_read file pos f part (omega arith) (omega (arith, fits))
    (as_read_later file pos pos (pos + done) part (omega arith) h)

-- the field at which the check stands is the first whose place is too large
pub returns-then-overflows-clause-first : goal.returns-then-overflows-clause-first
returns-then-overflows-clause-first c file raw =
    let before = c.fields.invariant in
    let wide = c.args.wide in
    let from : ℕ = c.args.shift.now.from in
    let by : ℕ = c.args.shift.now.by in
    let at : ℕ = c.args.pos + c.fields.done in
    let f : Field = record { at = at; wide = wide } in
    let more : List Field = fields_from wide (at + field_len wide) (c.fields.left - 1) in
    let some : 0 < c.fields.left = omega (arith, c.fields-test.true) in
    let fits : c.fields.done + field_len wide ≤ length c.args.bytes.now =
    omega (arith, before.ends, len_step wide c.fields.left some) in
    let number =
    c.number_among-number.ensures.number ∙ number_is file c.args.pos c.fields.done wide c.args.bytes.now fits raw in
    let too : overflows from by file f ≡ true =
    ap (is_too_large wide from by) (sym number) ∙ sym c.if-overflows.ensures in
    record {
      others = places_of from by file more;
      first =
          before.places file raw ∙ ap (places_of from by file) (fields_step wide at c.fields.left some)
          ∙ places_stop from by file f more too;
    }

-- past a field that fits
pub fields-preserved : goal.fields-preserved
fields-preserved c =
    let before = c.fields.invariant in
    let wide = c.args.wide in
    let from : ℕ = c.args.shift.now.from in
    let by : ℕ = c.args.shift.now.by in
    let at : ℕ = c.args.pos + c.fields.done in
    let f : Field = record { at = at; wide = wide } in
    let some : 0 < c.fields.left = omega (arith, c.fields-test.true) in
    let fits : c.fields.done + field_len wide ≤ length c.args.bytes.now =
    omega (arith, before.ends, len_step wide c.fields.left some) in
    record {
      ends = omega (arith, before.ends, len_step wide c.fields.left some, c.field_len-len.ensures);
      places = λ file raw.
          let number =
          c.number_among-number.ensures.number
          ∙ number_is file c.args.pos c.fields.done wide c.args.bytes.now fits raw in
          let passes : overflows from by file f ≡ false =
          ap (is_too_large wide from by) (sym number) ∙ sym c.if-overflows.ensures in
          let more : List Field = fields_from wide (at + field_len wide) (c.fields.left - 1) in
          let place : at + field_len wide ≡ c.args.pos + (c.fields.done + c.field_len-len.result) =
          omega (arith, c.field_len-len.ensures) in
          before.places file raw ∙ ap (places_of from by file) (fields_step wide at c.fields.left some)
          ∙ places_pass from by file f more passes
          ∙ ap (λ n. places_of from by file (fields_from wide n (c.fields.left - 1))) place;
    }

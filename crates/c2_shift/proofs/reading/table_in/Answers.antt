use Rattle.std.proofs.Common.{◌≡◌, ◌∙◌, ℕ, ◌+◌, ◌-◌, Bool, true, false, length, sym, ap, ap₂, arith}
use Rattle.std.specs.Str.{bytes_eq}
use Rattle.std.proofs.lemmas.Bool.{eq-eqb}
use borrow.Author.Tests.{ne_eqb}
use Rattle.c2_bmff_rows.specs.Rows.{payload_at}
use Rattle.c2_bmff_chunks.specs.Tables.{fields_len, stated_count, wide_kind}
use Rattle.c2_bmff_chunks.specs.declared.table.ChunkTable.{ChunkTable}
use Rattle.c2_shift.proofs.BoxLemmas.{count_told, form_by}
use Rattle.c2_shift.proofs.reading.table_in.Goals as goal

-- a box of another length than its fields need
pub returns-then-size-fields_len-clause-table : goal.returns-then-size-fields_len-clause-table
returns-then-size-fields_len-clause-table g c file known =
    let r = c.args.row in
    let len : length file ≡ g.S.Source.len c.args.source.now = g.met.S.Source.known_len c.args.source.now file known in
    let count : c.in_ok-count.field-0 ≡ stated_count (payload_at file r) =
    (c.in_ok-count.ensures {u = tt}).number file known ∙ count_told file r (omega (arith, c.if-size-lt8.false)) in
    let wide : c.eq-wide.result ≡ bytes_eq r.kind wide_kind = c.eq-wide.ensures in
    let same : c.fields_len.result ≡ fields_len (bytes_eq r.kind wide_kind) (stated_count (payload_at file r)) =
    c.fields_len.ensures ∙ ap₂ fields_len wide count in
    form_by file r (bytes_eq r.kind wide_kind) false (omega (arith, len, c.requires.inside.0)) c.requires.inside.1
    (omega (arith, c.if-size-lt8.false))
    (ne_eqb (r.length - r.header) (8 + fields_len (bytes_eq r.kind wide_kind) (stated_count (payload_at file r))) (λ e. c.if-size-fields_len.true (e ∙ ap (λ n. 8 + n) (sym same))))

-- a box of the length that its fields need
pub returns-clause-table : goal.returns-clause-table
returns-clause-table g c file known =
    let r = c.args.row in
    let len : length file ≡ g.S.Source.len c.args.source.now = g.met.S.Source.known_len c.args.source.now file known in
    let count : c.in_ok-count.field-0 ≡ stated_count (payload_at file r) =
    (c.in_ok-count.ensures {u = tt}).number file known ∙ count_told file r (omega (arith, c.if-size-lt8.false)) in
    let wide : c.eq-wide.result ≡ bytes_eq r.kind wide_kind = c.eq-wide.ensures in
    let same : c.fields_len.result ≡ fields_len (bytes_eq r.kind wide_kind) (stated_count (payload_at file r)) = c.fields_len.ensures ∙ ap₂ fields_len wide count in (
      form_by file r (bytes_eq r.kind wide_kind) true (omega (arith, len, c.requires.inside.0)) c.requires.inside.1 (omega (arith, c.if-size-lt8.false))
          (eq-eqb (r.length - r.header) (8 + fields_len (bytes_eq r.kind wide_kind) (stated_count (payload_at file r))) (c.if-size-fields_len.false ∙ ap (λ n. 8 + n) same)),
      ap₂ (λ (n : ℕ) (t : Bool). table (r.start + r.header + 8) n t) count wide,
    )
  where
    table : ℕ → ℕ → Bool → ChunkTable
    table n m t = record { first = n; count = m; wide = t }

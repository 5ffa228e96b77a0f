use Rattle.std.proofs.Common.{◌≡◌, ◌∙◌, ℕ, ◌+◌, ◌-◌, ◌≤◌, Bool, List, ◌++◌, sym, ap, arith}
use Rattle.c2_bmff_chunks.specs.Fields.{fields_from, places_of}
use Rattle.c2_bmff_chunks.specs.Tables.{fields_len}
use Rattle.c2_bmff_chunks.proofs.FieldLemmas.{fields_split, fields_split_len}
use Rattle.c2_shift.proofs.PartLemmas.{as_read_whole, places_append}
use Rattle.c2_shift.proofs.checking.check_table.Goals as goal
use Rattle.c2_base.proofs.Written.{source_stays}

-- the places among so many fields, of the first of them and of those after
places_split : (from by : ℕ) (file : List ℕ) (wide : Bool) (at n m : ℕ) → m ≤ n
    → places_of from by file (fields_from wide at n) ≡ places_of from by file (fields_from wide at m) ++ places_of from by file (fields_from wide (at + fields_len wide m) (n - m))
places_split from by file wide at n m few =
    let e : n ≡ m + (n - m) = omega (arith, few) in
    ap (λ k. places_of from by file (fields_from wide at k)) e
    ∙ ap (places_of from by file) (fields_split wide at m (n - m))
    ∙ places_append from by file (fields_from wide at m) (fields_from wide (at + fields_len wide m) (n - m))

-- how many bytes the fields have that are left
left_len : (wide : Bool) (n m : ℕ) → m ≤ n → fields_len wide n ≡ fields_len wide m + fields_len wide (n - m)
left_len wide n m few = let e : n ≡ m + (n - m) = omega (arith, few) in ap (fields_len wide) e ∙ fields_split_len wide m (n - m)

-- the field that doesn't fit is the first of all
pub returns-in-Some-clause-overflow : goal.returns-in-Some-clause-overflow
returns-in-Some-clause-overflow g c file known =
    let before = c.pieces.invariant in
    let from : ℕ = c.args.shift.now.from in
    let by : ℕ = c.args.shift.now.by in
    let wide = c.args.table.wide in
    let count : ℕ = c.min-count.result in
    let few : count ≤ c.pieces.left = omega (arith, c.min-count.ensures) in
    let raw =
    as_read_whole (g.S.Source.known c.pieces.source) c.pieces.at c.pieces.at c.fill_at.new.buf
    c.in_ok-fill_at.ensures.filled file (before.stays.same_bytes ∙ known) in
    let found = c.in-Some.ensures.first file raw in
    let rest : List ℕ =
    places_of from by file (fields_from wide (c.pieces.at + fields_len wide count) (c.pieces.left - count)) in
    record {
      others = found.others ++ rest;
      first =
          before.places file known ∙ places_split from by file wide c.pieces.at c.pieces.left count few
          ∙ ap (λ (xs : List ℕ). xs ++ rest) found.first;
    }

-- past one more piece
pub pieces-preserved : goal.pieces-preserved
pieces-preserved g c =
    let before = c.pieces.invariant in
    let from : ℕ = c.args.shift.now.from in
    let by : ℕ = c.args.shift.now.by in
    let wide = c.args.table.wide in
    let count : ℕ = c.min-count.result in
    let call = c.in_ok-fill_at.ensures in
    let few : count ≤ c.pieces.left = omega (arith, c.min-count.ensures) in
    let step : c.pieces.at + c.fields_len-len.result ≡ c.pieces.at + fields_len wide count =
    omega (arith, c.fields_len-len.ensures) in
    record {
      inside = omega (arith, before.inside, left_len wide c.pieces.left count few, c.fields_len-len.ensures);
      stays =
          source_stays g.S.Source.len g.S.Source.known g.S.Source.faults c.args.source.now c.pieces.source
          c.fill_at.new.source before.stays call.stays;
      count = call.cause.ok ∙ before.count;
      places = λ file known.
          let raw =
          as_read_whole (g.S.Source.known c.pieces.source) c.pieces.at c.pieces.at c.fill_at.new.buf call.filled
          file (before.stays.same_bytes ∙ known) in
          let none = c.in_default.ensures.fits file raw in
          before.places file known ∙ places_split from by file wide c.pieces.at c.pieces.left count few
          ∙ ap
          (λ (xs : List ℕ). xs ++ places_of from by file (fields_from wide (c.pieces.at + fields_len wide count) (c.pieces.left - count)))
          none
          ∙ ap (λ n. places_of from by file (fields_from wide n (c.pieces.left - count))) (sym step);
    }

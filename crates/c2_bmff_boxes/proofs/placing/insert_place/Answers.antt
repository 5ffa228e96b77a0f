use Rattle.std.proofs.Common.{◌≡◌, ◌∙◌, ◌+◌, ◌<◌, ℕ, List, length, take, Option, Some, false, [], sym, ap, subst, arith}
use Rattle.std.specs.Prelude.{IfSome}
use Rattle.c2_bmff_boxes.specs.Places.{HasRoom, place_behind, place_less}
use Rattle.c2_bmff_rows.specs.Rows.{rows_of}
use Rattle.c2_bmff_boxes.specs.Roots.{skipped_len}
use Rattle.c2_spec.specs.Bmff.Writing.{place_without}
use Rattle.c2_bmff_rows.specs.declared.row.RootBox.{RootBox}
use Rattle.c2_bmff_rows.proofs.StandLemmas.{form_boxes}
use Rattle.c2_bmff_boxes.proofs.PlaceLemmas.{front_is, inside_front, inside_middle, inside_whole, last_less, middle_is, middle_less, none_less, room_front, room_skip, room_whole, skipped_at, whole_is}
use Rattle.c2_bmff_rows.proofs.Lists.{length-rows}
use Rattle.c2_bmff_boxes.proofs.placing.insert_place.Goals as goal

-- a row of nothing, for indices after the last root box
abbrev no_row : RootBox
no_row = record { start = 0; length = 0; header = 0; kind = []; to_end = false }

-- all root boxes end in a file
pub place_behind-requires : goal.place_behind-requires
place_behind-requires c =
    let f = c.as_slice-rows.ensures.fill in
    room_whole f.size f.low c.as_slice-rows.result.now f.fill f.small

-- without an index, the place is that in the whole file
pub returns-in_default-clause-place : goal.returns-in_default-clause-place
returns-in_default-clause-place c file r =
    c.place_behind.ensures ∙ ap (place_behind 0) (c.as_slice-rows.ensures.boxes ∙ r.are)
    ∙ whole_is r.boxes (form_boxes r.boxes r.has_roots.forms)
    ∙ ap (λ (o : Option ℕ). place_without o r.boxes) (sym c.in_default.is)

-- by the rows alone
pub returns-in_default-clause-rows : goal.returns-in_default-clause-rows
returns-in_default-clause-rows c =
    c.place_behind.ensures ∙ ap (place_behind 0) c.as_slice-rows.ensures.boxes ∙ none_less c.args.roots.now
    ∙ ap (λ (o : Option ℕ). place_less o c.args.roots.now) (sym c.in_default.is)

-- and lies in it
pub returns-in_default-clause-inside : goal.returns-in_default-clause-inside
returns-in_default-clause-inside c =
    let f = c.as_slice-rows.ensures.fill in
    let room : HasRoom 0 c.args.roots.now =
    subst (HasRoom 0) c.as_slice-rows.ensures.boxes
    (room_whole f.size f.low c.as_slice-rows.result.now f.fill f.small) in
    inside_whole c.place_behind.result c.args.roots.now c.args.skip
    (c.place_behind.ensures ∙ ap (place_behind 0) c.as_slice-rows.ensures.boxes) c.in_default.is room

-- so do those before the last
pub place_behind-requires-then-skip-rows : goal.place_behind-requires-then-skip-rows
place_behind-requires-then-skip-rows c =
    let f = c.as_slice-rows.ensures.fill in
    room_front f.size f.low c.in-Some.skip c.as_slice-rows.result.now f.fill f.small

-- without the last, the place is that at those before it
pub returns-then-skip-rows-clause-place : goal.returns-then-skip-rows-clause-place
returns-then-skip-rows-clause-place c file r =
    let are = c.as_slice-rows.ensures.boxes ∙ r.are in
    let last : c.in-Some.skip + 1 ≡ length r.boxes =
    omega (arith, c.if-skip-rows.true, ap length are, length-rows r.boxes) in
    c.place_behind-then-skip-rows.ensures ∙ ap (λ (rows : List RootBox). place_behind 0 (take c.in-Some.skip rows)) are
    ∙ front_is c.in-Some.skip r.boxes (form_boxes r.boxes r.has_roots.forms) last ∙ ap (λ (o : Option ℕ). place_without o r.boxes) (sym c.in-Some.is)

-- by the rows alone
pub returns-then-skip-rows-clause-rows : goal.returns-then-skip-rows-clause-rows
returns-then-skip-rows-clause-rows c =
    let same = c.as_slice-rows.ensures.boxes in
    let last : c.in-Some.skip + 1 ≡ length c.args.roots.now = omega (arith, c.if-skip-rows.true, ap length same) in
    c.place_behind-then-skip-rows.ensures ∙ ap (λ (rows : List RootBox). place_behind 0 (take c.in-Some.skip rows)) same
    ∙ last_less c.in-Some.skip c.args.roots.now last ∙ ap (λ (o : Option ℕ). place_less o c.args.roots.now) (sym c.in-Some.is)

-- and lies before it
pub returns-then-skip-rows-clause-inside : goal.returns-then-skip-rows-clause-inside
returns-then-skip-rows-clause-inside c =
    let same = c.as_slice-rows.ensures.boxes in
    let last : c.in-Some.skip + 1 ≡ length c.args.roots.now = omega (arith, c.if-skip-rows.true, ap length same) in
    inside_front c.place_behind-then-skip-rows.result c.args.roots.now c.args.skip c.in-Some.skip
    (c.place_behind-then-skip-rows.ensures ∙ ap (λ (rows : List RootBox). place_behind 0 (take c.in-Some.skip rows)) same) c.in-Some.is last

-- a root box before the last stands before it
pub place_behind-requires-2 : goal.place_behind-requires-2
place_behind-requires-2 c =
    let f = c.as_slice-rows.ensures.fill in
    let rows : List RootBox = c.as_slice-rows.result.now in
    let has : c.in-Some.skip < length c.args.roots.now =
    subst (λ (o : Option ℕ). IfSome o (λ i. i < length c.args.roots.now)) c.in-Some.is c.requires in
    let more : c.in-Some.skip + 1 < length rows =
    omega (arith, has, ap length c.as_slice-rows.ensures.boxes, c.if-skip-rows.false) in
    subst (λ (n : ℕ). HasRoom n rows) (skipped_at c.in-Some.skip rows no_row (omega (arith, more))) (room_skip f.size f.low c.in-Some.skip rows f.fill f.small more)

-- without it, the place is that at the last, less its length
pub returns-clause-place : goal.returns-clause-place
returns-clause-place c file r =
    let rows : List RootBox = c.as_slice-rows.result.now in
    let are : rows ≡ rows_of r.boxes = c.as_slice-rows.ensures.boxes ∙ r.are in
    let has : c.in-Some.skip < length c.args.roots.now =
    subst (λ (o : Option ℕ). IfSome o (λ i. i < length c.args.roots.now)) c.in-Some.is c.requires in
    let more : c.in-Some.skip + 1 < length rows =
    omega (arith, has, ap length c.as_slice-rows.ensures.boxes, c.if-skip-rows.false) in
    c.place_behind-2.ensures ∙ ap (λ (n : ℕ). place_behind n rows) (sym (skipped_at c.in-Some.skip rows no_row (omega (arith, more))))
    ∙ ap (λ (xs : List RootBox). place_behind (skipped_len (Some c.in-Some.skip) xs) xs) are
    ∙ middle_is c.in-Some.skip r.boxes (form_boxes r.boxes r.has_roots.forms) (omega (arith, more, ap length are, length-rows r.boxes))
    ∙ ap (λ (o : Option ℕ). place_without o r.boxes) (sym c.in-Some.is)

-- by the rows alone
pub returns-clause-rows : goal.returns-clause-rows
returns-clause-rows c =
    let rows : List RootBox = c.as_slice-rows.result.now in
    let same : rows ≡ c.args.roots.now = c.as_slice-rows.ensures.boxes in
    let has : c.in-Some.skip < length c.args.roots.now =
    subst (λ (o : Option ℕ). IfSome o (λ i. i < length c.args.roots.now)) c.in-Some.is c.requires in
    let more : c.in-Some.skip + 1 < length rows = omega (arith, has, ap length same, c.if-skip-rows.false) in
    c.place_behind-2.ensures ∙ ap (λ (n : ℕ). place_behind n rows) (sym (skipped_at c.in-Some.skip rows no_row (omega (arith, more))))
    ∙ middle_less c.in-Some.skip rows more ∙ ap (place_less (Some c.in-Some.skip)) same ∙ ap (λ (o : Option ℕ). place_less o c.args.roots.now) (sym c.in-Some.is)

-- and lies in the file less its length
pub returns-clause-inside : goal.returns-clause-inside
returns-clause-inside c =
    let f = c.as_slice-rows.ensures.fill in
    let rows : List RootBox = c.as_slice-rows.result.now in
    let same : rows ≡ c.args.roots.now = c.as_slice-rows.ensures.boxes in
    let has : c.in-Some.skip < length c.args.roots.now =
    subst (λ (o : Option ℕ). IfSome o (λ i. i < length c.args.roots.now)) c.in-Some.is c.requires in
    let more : c.in-Some.skip + 1 < length rows = omega (arith, has, ap length same, c.if-skip-rows.false) in
    let room : HasRoom (skipped_len (Some c.in-Some.skip) rows) rows =
    room_skip f.size f.low c.in-Some.skip rows f.fill f.small more in
    let at : c.place_behind-2.result ≡ place_behind (skipped_len (Some c.in-Some.skip) rows) rows =
    c.place_behind-2.ensures
    ∙ ap (λ (n : ℕ). place_behind n rows) (sym (skipped_at c.in-Some.skip rows no_row (omega (arith, more)))) in
    inside_middle c.place_behind-2.result c.args.roots.now c.args.skip c.in-Some.skip (at ∙ ap (λ (xs : List RootBox). place_behind (skipped_len (Some c.in-Some.skip) xs) xs) same) c.in-Some.is (subst (λ (xs : List RootBox). HasRoom (skipped_len (Some c.in-Some.skip) xs) xs) same room)

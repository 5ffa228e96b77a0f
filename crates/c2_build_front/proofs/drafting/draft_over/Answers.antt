use Rattle.std.proofs.Common.{List, [], ap, arith, length, refl, subst, sym, ℕ, ◌+◌, ◌∙◌, ◌≡◌}
use Rattle.c2_bmff_rows.specs.declared.row.RootBox.{RootBox}
use Rattle.c2_bmff_rows.proofs.Lists.{length-rows}
use Rattle.c2_calls_spec.proofs.SourceLemmas.{reads_error, reads_next, reads_nothing}
use Rattle.c2_bmff_chunks.specs.Refusals.{IsFirstRefusal, shift_refusals}
use Rattle.c2_bmff_chunks.specs.Tables.{chunk_tables}
use Rattle.c2_new_front_spec.specs.Order.{plan_refusals, size_refusals}
use Rattle.c2_build_refusals.proofs.Outside.{outside_all, outside_map}
use Rattle.c2_build_refusals.specs.Kinds.{WithoutFault}
use Rattle.c2_build_refusals.specs.declared.error.BuildError.{BuildError}
use Rattle.c2_shift.specs.Causes.{IsFirstOverflow, OrShiftFault}
use Rattle.c2_build_front.proofs.Causes.{quiet_step}
use Rattle.c2_build_front.proofs.First.{check_step, moving_none, offsets_none, open_none, overflow_first, places_are, plan_moving, plan_offsets, plan_open, plan_passes, plan_redaction, plan_sizes, redaction_none, shift_first, tables_step}
use Rattle.c2_build_front.specs.Answers.{plan_effects}
use Rattle.c2_build_front.specs.Steps.{IsFirstError, IsPlanStep, box_len, store_size}
use Rattle.c2_build_front.proofs.drafting.draft_over.Goals as goal

-- ---- the first root box says no size

pub returns-in-Err-clause-refused : goal.returns-in-Err-clause-refused
returns-in-Err-clause-refused g c =
    λ file known boxes has is size. outside_all c.in-Err.error (plan_open file boxes c.args.definition.now c.in-Err.error (c.in-Err.ensures.refused boxes is))

pub returns-in-Err-clause-reads : goal.returns-in-Err-clause-reads
returns-in-Err-clause-reads g c =
    reads_nothing _ _ _ _ c.args.media.now _ (quiet_step plan_effects _ _ _ refl c.in-Err.ensures.quiet)

-- ---- a redaction is refused

pub returns-in-Err-check_redactions-clause-refused : goal.returns-in-Err-check_redactions-clause-refused
returns-in-Err-check_redactions-clause-refused g c = λ file known boxes has is size.
    outside_map c.in-Err-check_redactions.error (plan_redaction file boxes c.args.definition.now c.in-Err-check_redactions.error (open_none boxes (c.in-Ok.ensures.passed file boxes has is).0)) c.in-Err-check_redactions.ensures.refused

pub returns-in-Err-check_redactions-clause-reads : goal.returns-in-Err-check_redactions-clause-reads
returns-in-Err-check_redactions-clause-reads g c =
    reads_nothing _ _ _ _ c.args.media.now _
    (quiet_step plan_effects _ _ _ refl c.in-Err-check_redactions.ensures.quiet)

-- ---- chunk offsets can't be moved

pub returns-in-Err-tables-clause-refused : goal.returns-in-Err-tables-clause-refused
returns-in-Err-tables-clause-refused g c = λ file known boxes has is size.
    let d = c.args.definition.now in
    let e = c.in-Err-tables.error in
    let told =
    subst (λ (rows : List RootBox). OrShiftFault e (IsFirstRefusal (shift_refusals file rows) e)) is
    (c.in-Err-tables.ensures.refused file known) in
    subst (λ (x : BuildError). WithoutFault x (IsFirstError (plan_refusals file boxes d) x)) (sym c.shift_error.ensures)
    (outside_map _ (plan_moving file boxes d _ (open_none boxes (c.in-Ok.ensures.passed file boxes has is).0) (redaction_none d c.in-Ok-check_redactions.ensures.passed)) (shift_first _ _ _ _ e c.in-Err-tables.ensures.reads.cause told))

pub returns-in-Err-tables-clause-reads : goal.returns-in-Err-tables-clause-reads
returns-in-Err-tables-clause-reads g c =
    reads_error _ _ _ _ _ c.args.media.now c.tables.new.source c.in-Err-tables.error c.shift_error.result (λ h. subst (IsPlanStep _ _) (sym c.shift_error.ensures) (tables_step _ _ _ c.in-Err-tables.error h)) c.in-Err-tables.ensures.reads

-- ---- something is too large

pub returns-in-Err-sized-clause-refused : goal.returns-in-Err-sized-clause-refused
returns-in-Err-sized-clause-refused g c = λ file known boxes has is size.
    let d = c.args.definition.now in
    let e = c.in-Err-sized.error in
    let found = c.in-Ok-tables.ensures.found file known in
    let count : length c.as_slice.result.now ≡ length boxes =
    ap length (c.as_slice.ensures.boxes ∙ is) ∙ length-rows boxes in
    let moving = moving_none file boxes (subst (λ (rows : List RootBox). shift_refusals file rows ≡ []) is found.0) in
    outside_map e (plan_sizes file boxes d e (open_none boxes (c.in-Ok.ensures.passed file boxes has is).0) (redaction_none d c.in-Ok-check_redactions.ensures.passed) moving)
    (subst (λ (n : ℕ). WithoutFault e (IsFirstError (size_refusals (store_size d) (length file + box_len d) n) e)) count
    (c.in-Err-sized.ensures.refused file (c.in-Ok-tables.ensures.reads.stays.same_bytes ∙ known) has.fits size))

pub returns-in-Err-sized-clause-reads : goal.returns-in-Err-sized-clause-reads
returns-in-Err-sized-clause-reads g c =
    reads_next _ _ _ _ _ c.args.media.now c.tables.new.source c.sized.new.media c.in-Ok-tables.tables _ c.in-Ok-tables.ensures.reads (record { stays = c.in-Err-sized.ensures.reads.stays; quiet = tt; cause = c.in-Err-sized.ensures.reads.cause })

-- ---- a moved offset doesn't fit, or all do

pub returns-in-Ok-check_shift-clause-drafted : goal.returns-in-Ok-check_shift-clause-drafted
returns-in-Ok-check_shift-clause-drafted g c = λ file known boxes has is.
    let d = c.args.definition.now in
    let first = c.in-Ok.ensures.passed file boxes has is in
    let found = c.in-Ok-tables.ensures.found file known in
    let count : length c.as_slice.result.now ≡ length boxes =
    ap length (c.as_slice.ensures.boxes ∙ is) ∙ length-rows boxes in
    let moving = moving_none file boxes (subst (λ (rows : List RootBox). shift_refusals file rows ≡ []) is found.0) in
    let tables = found.1 ∙ ap (chunk_tables file) is in
    let known' = c.in-Ok-tables.ensures.reads.stays.same_bytes ∙ known in
    let sizes =
    subst (λ (n : ℕ). size_refusals (store_size d) (length file + box_len d) n ≡ []) count
    (c.in-Ok-sized.ensures.passed file known') in
    let len : 45 + c.in-Ok-sized.sizes.store_len ≡ box_len d =
    ap (λ (n : ℕ). 45 + n) c.in-Ok-sized.ensures.sized.store in
    let fits =
    sym
    (places_are file boxes d c.in-Ok.place (45 + c.in-Ok-sized.sizes.store_len) c.in-Ok-tables.tables first.1 len tables)
    ∙ c.in-Ok-check_shift.ensures.fits file (c.in-Ok-sized.ensures.reads.stays.same_bytes ∙ known') in
    record {
      unrefused =
          plan_passes file boxes d (open_none boxes first.0) (redaction_none d c.in-Ok-check_redactions.ensures.passed)
          moving sizes (offsets_none file boxes d fits);
      place = first.1;
      store = c.in-Ok-sized.ensures.sized.store;
      tables = tables;
    }

pub returns-in-Ok-check_shift-clause-fits : goal.returns-in-Ok-check_shift-clause-fits
returns-in-Ok-check_shift-clause-fits g c =
    let same = c.in-Ok-tables.ensures.reads.stays.same_len in
    let s = c.in-Ok-sized.ensures.sized in
    record {
      size = s.size ∙ same;
      tables = c.in-Ok-tables.ensures.inside;
      place = c.in-Ok.ensures.inside (g.A.Source.len c.args.media.now) c.requires.inside;
      small = s.small;
      short = omega (arith, s.short, same);
    }

pub returns-in-Ok-check_shift-clause-reads : goal.returns-in-Ok-check_shift-clause-reads
returns-in-Ok-check_shift-clause-reads g c =
    reads_next _ _ _ _ _ c.args.media.now c.tables.new.source c.check_shift.new.source c.in-Ok-tables.tables _ c.in-Ok-tables.ensures.reads
    (reads_next _ _ _ _ _ c.tables.new.source c.sized.new.media c.check_shift.new.source c.in-Ok-sized.sizes _ c.in-Ok-sized.ensures.reads (record { stays = c.in-Ok-check_shift.ensures.reads.stays; quiet = c.in-Ok-check_shift.ensures.reads.quiet; cause = tt }))

pub returns-in-Err-check_shift-clause-refused : goal.returns-in-Err-check_shift-clause-refused
returns-in-Err-check_shift-clause-refused g c = λ file known boxes has is size.
    let d = c.args.definition.now in
    let e = c.in-Err-check_shift.error in
    let first = c.in-Ok.ensures.passed file boxes has is in
    let found = c.in-Ok-tables.ensures.found file known in
    let count : length c.as_slice.result.now ≡ length boxes =
    ap length (c.as_slice.ensures.boxes ∙ is) ∙ length-rows boxes in
    let moving = moving_none file boxes (subst (λ (rows : List RootBox). shift_refusals file rows ≡ []) is found.0) in
    let tables = found.1 ∙ ap (chunk_tables file) is in
    let known' = c.in-Ok-tables.ensures.reads.stays.same_bytes ∙ known in
    let sizes =
    subst (λ (n : ℕ). size_refusals (store_size d) (length file + box_len d) n ≡ []) count
    (c.in-Ok-sized.ensures.passed file known') in
    let len : 45 + c.in-Ok-sized.sizes.store_len ≡ box_len d =
    ap (λ (n : ℕ). 45 + n) c.in-Ok-sized.ensures.sized.store in
    let places =
    places_are file boxes d c.in-Ok.place (45 + c.in-Ok-sized.sizes.store_len) c.in-Ok-tables.tables first.1 len
    tables in
    let over =
    subst (λ (ps : List ℕ). IsFirstOverflow ps e) places
    (c.in-Err-check_shift.ensures.overflow file (c.in-Ok-sized.ensures.reads.stays.same_bytes ∙ known')) in
    subst (λ (x : BuildError). WithoutFault x (IsFirstError (plan_refusals file boxes d) x)) (sym c.shift_error-in-Err-check_shift.ensures)
    (outside_map _ (plan_offsets file boxes d _ (open_none boxes first.0) (redaction_none d c.in-Ok-check_redactions.ensures.passed) moving sizes) (overflow_first _ e over))

pub returns-in-Err-check_shift-clause-reads : goal.returns-in-Err-check_shift-clause-reads
returns-in-Err-check_shift-clause-reads g c =
    reads_next _ _ _ _ _ c.args.media.now c.tables.new.source c.check_shift.new.source c.in-Ok-tables.tables _ c.in-Ok-tables.ensures.reads
    (reads_next _ _ _ _ _ c.tables.new.source c.sized.new.media c.check_shift.new.source c.in-Ok-sized.sizes _ c.in-Ok-sized.ensures.reads
    (reads_error _ _ _ _ _ c.sized.new.media c.check_shift.new.source c.in-Err-check_shift.error c.shift_error-in-Err-check_shift.result (λ h. subst (IsPlanStep _ _) (sym c.shift_error-in-Err-check_shift.ensures) (check_step _ _ _ c.in-Err-check_shift.error h)) c.in-Err-check_shift.ensures.reads))

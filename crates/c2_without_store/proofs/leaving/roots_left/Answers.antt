use Rattle.std.proofs.Common.{Option, Ok, List, sym, ap, ◌∙◌, subst}
use Rattle.c2_base.specs.declared.media.Found.{Found}
use Rattle.c2_bmff_boxes.specs.Roots.{FillFile, FillSource}
use Rattle.c2_bmff_boxes.specs.Search.{IsStoreOr}
use Rattle.c2_bmff_rows.specs.declared.row.RootBox.{RootBox}
use Rattle.c2_without_store.specs.Clears.{AreRootsLeft, cleared_len, clearing_in, no_range, root_clearing, rows_left}
use Rattle.c2_without_store.specs.declared.clearing.Clearing.TheVariants.{Cut}
use Rattle.c2_without_store.proofs.LeftRows.{all_fill, all_left, are_left, file_left, fill_left}
use Rattle.c2_without_store.proofs.leaving.roots_left.Goals as goal

-- ---- a file without a store

pub returns-in_default-clause-roots : goal.returns-in_default-clause-roots
returns-in_default-clause-roots c = λ file roots found.
    let none = subst (λ (o : Option Found). IsStoreOr file (Ok o)) c.in_default.is found in
    subst (λ (o : Option Found). AreRootsLeft file (root_clearing o c.args.roots.now) c.roots_of.result)
    (sym c.in_default.is)
    (subst (λ (rows : List RootBox). AreRootsLeft file (Cut no_range) rows) (sym (c.roots_of.ensures ∙ c.in_ok-all.ensures ∙ c.as_slice-rows.ensures.boxes)) (all_left file c.args.roots.now roots none))

pub returns-in_default-clause-fill : goal.returns-in_default-clause-fill
returns-in_default-clause-fill c = λ len fill.
    subst (λ (o : Option Found). FillSource (cleared_len (root_clearing o c.args.roots.now) len) 0 c.roots_of.result)
    (sym c.in_default.is)
    (subst (λ (rows : List RootBox). FillSource (cleared_len (Cut no_range) len) 0 rows) (sym (c.roots_of.ensures ∙ c.in_ok-all.ensures ∙ c.as_slice-rows.ensures.boxes)) (all_fill len c.args.roots.now fill))

-- ---- one with a store

pub roots_of-requires-2 : goal.roots_of-requires-2
roots_of-requires-2 c =
    subst FillFile (sym c.in_ok-left.ensures)
    (file_left c.in-Some.store.start c.as_slice-rows.result.now c.as_slice-rows.ensures.fill)

pub returns-clause-roots : goal.returns-clause-roots
returns-clause-roots c = λ file roots found.
    let store = c.in-Some.store in
    let has = subst (λ (o : Option Found). IsStoreOr file (Ok o)) c.in-Some.is found in
    subst (λ (o : Option Found). AreRootsLeft file (root_clearing o c.args.roots.now) c.roots_of-2.result) (sym c.in-Some.is)
    (subst (λ (rows : List RootBox). AreRootsLeft file (clearing_in store.start c.args.roots.now) rows) (sym (c.roots_of-2.ensures ∙ c.in_ok-left.ensures ∙ ap (rows_left store.start) c.as_slice-rows.ensures.boxes))
    (are_left file c.args.roots.now store.start store.length store.store roots has))

pub returns-clause-fill : goal.returns-clause-fill
returns-clause-fill c = λ len fill.
    let store = c.in-Some.store in
    subst (λ (o : Option Found). FillSource (cleared_len (root_clearing o c.args.roots.now) len) 0 c.roots_of-2.result) (sym c.in-Some.is)
    (subst (λ (rows : List RootBox). FillSource (cleared_len (clearing_in store.start c.args.roots.now) len) 0 rows) (sym (c.roots_of-2.ensures ∙ c.in_ok-left.ensures ∙ ap (rows_left store.start) c.as_slice-rows.ensures.boxes)) (fill_left store.start len 0 c.args.roots.now fill))

-- The search for a store, a row at a time.
use Rattle.std.proofs.Common.{◌≡◌, ℕ, suc, ◌+◌, ◌≤◌, true, false, List, [], ◌∷◌, ◌++◌, length, take, drop, is_some, Option, Some, None, Ok, sym, ap, ◌∙◌, subst, arith}
use Rattle.std.proofs.lemmas.List.{take_all}
use Rattle.std.specs.List.{flat_map}
use Rattle.std.specs.Str.{bytes_eq}
use Rattle.c2_base.specs.declared.media.Found.{Found}
use Rattle.c2_base.specs.declared.media.MediaError.{MediaError}
use Rattle.c2_spec.specs.Bmff.Boxes.{Box, HasRoots, box_bytes, box_len, boxes_len, uuid_kind}
use Rattle.c2_spec.specs.Bmff.Store.{ProvenanceFault}
use Rattle.c2_bmff_rows.specs.Rows.{payload_at, row_of, rows_of}
use Rattle.c2_bmff_boxes.specs.Provenance.{payload_part}
use Rattle.c2_bmff_boxes.specs.Roots.{AreRootsOf}
use Rattle.c2_bmff_boxes.specs.Search.{FailsBy, IsStoreOr, Searched, SearchedTo, StepsBy}
use Rattle.c2_bmff_rows.specs.declared.row.RootBox.{RootBox}
use Rattle.c2_bmff_boxes.proofs.FoundLemmas.{searched_fails, searched_none, searched_not, searched_uuid}
use Rattle.c2_bmff_boxes.proofs.SearchLemmas.{BoxAt, box_at, payload_is}
use Rattle.c2_bmff_rows.proofs.Lists.{length-rows}

-- A row, and its box in the file.
record RowAt (file : List ℕ) (boxes : List Box) (n : ℕ) (r : RootBox) : Type 0 where
  pub at : BoxAt 0 boxes n r
  pub start : r.start ≡ boxes_len (take n boxes)
  pub len : r.length ≡ box_len at.box
  pub kind : r.kind ≡ at.box.kind
  pub payload : payload_at file r ≡ at.box.payload
  pub more : take (n + 1) boxes ≡ take n boxes ++ at.box ∷ []

-- each row has its box
row_at_file : (file : List ℕ) (boxes : List Box) (rows : List RootBox) (n : ℕ) (r : RootBox) (others : List RootBox)
    → HasRoots file boxes → rows ≡ rows_of boxes → drop n rows ≡ r ∷ others → RowAt file boxes n r
row_at_file file boxes rows n r others has same next =
    let b : BoxAt 0 boxes n r =
    box_at 0 boxes n r others has.forms (ap (λ (xs : List RootBox). drop n xs) (sym same) ∙ next) in
    let zero' : 0 + boxes_len (take n boxes) ≡ boxes_len (take n boxes) = omega arith in
    let one : n + 1 ≡ suc n = omega arith in
    let row : r ≡ row_of (record { at = boxes_len (take n boxes); box = b.box }) =
    b.row ∙ ap (λ (k : ℕ). row_of (record { at = k; box = b.box })) zero' in
    record {
      at = b;
      start = ap (λ (x : RootBox). x.start) row;
      len = ap (λ (x : RootBox). x.length) row;
      kind = ap (λ (x : RootBox). x.kind) row;
      payload =
          ap (payload_at file) row
          ∙ payload_is file (take n boxes) (drop (suc n) boxes) b.box b.is_box
          (has.bytes ∙ ap (flat_map box_bytes) b.split);
      more = ap (λ k. take k boxes) one ∙ b.more;
    }

-- past a box of another type
pub row_not : (file : List ℕ) (rows : List RootBox) (n : ℕ) (r : RootBox) (others : List RootBox) (found : Option Found)
    → drop n rows ≡ r ∷ others → SearchedTo file rows n found → bytes_eq r.kind uuid_kind ≡ false
    → SearchedTo file rows (n + 1) found
row_not file rows n r others found next s no' boxes has same =
    let b : RowAt file boxes n r = row_at_file file boxes rows n r others has same next in
    subst (λ (xs : List Box). Searched xs found) (sym b.more)
    (searched_not (take n boxes) b.at.box found (s boxes has same) (ap (λ (k : List ℕ). bytes_eq k uuid_kind) (sym b.kind) ∙ no'))

-- past a `uuid` box
pub row_uuid : (file : List ℕ) (rows : List RootBox) (n : ℕ) (r : RootBox) (others : List RootBox)
    (old new : Option Found) → drop n rows ≡ r ∷ others → SearchedTo file rows n old
    → bytes_eq r.kind uuid_kind ≡ true
    → StepsBy (payload_part (is_some old) (payload_at file r)) r (payload_at file r) old new
    → SearchedTo file rows (n + 1) new
row_uuid file rows n r others old new next s yes' step boxes has same =
    let b : RowAt file boxes n r = row_at_file file boxes rows n r others has same next in
    subst (λ (xs : List Box). Searched xs new) (sym b.more)
    (searched_uuid (take n boxes) b.at.box r old new (s boxes has same)
    (ap (λ (k : List ℕ). bytes_eq k uuid_kind) (sym b.kind) ∙ yes') b.start b.len
    (subst (λ (p : List ℕ). StepsBy (payload_part (is_some old) p) r p old new) b.payload step))

-- at a `uuid` box that fails
pub row_fails : (file : List ℕ) (rows : List RootBox) (n : ℕ) (r : RootBox) (others : List RootBox)
    (found : Option Found) (e : MediaError) → drop n rows ≡ r ∷ others → AreRootsOf file rows
    → SearchedTo file rows n found → bytes_eq r.kind uuid_kind ≡ true
    → FailsBy (payload_part (is_some found) (payload_at file r)) r e → ProvenanceFault file e
row_fails file rows n r others found e next roots s yes' fails =
    let b : RowAt file roots.boxes n r = row_at_file file roots.boxes rows n r others roots.has_roots roots.are next in
    searched_fails file roots.boxes (take n roots.boxes) (drop (suc n) roots.boxes) b.at.box r found e roots.has_roots
    b.at.split (s roots.boxes roots.has_roots roots.are) (ap (λ (k : List ℕ). bytes_eq k uuid_kind) (sym b.kind) ∙ yes')
    b.start
    (subst (λ (p : List ℕ). FailsBy (payload_part (is_some found) p) r e) b.payload fails)

-- before the first row
pub rows_start : (file : List ℕ) (rows : List RootBox) → SearchedTo file rows 0 None
rows_start file rows boxes has same = searched_none

-- after the last
pub rows_end : (file : List ℕ) (rows : List RootBox) (n : ℕ) (found : Option Found) → length rows ≤ n
    → AreRootsOf file rows → SearchedTo file rows n found → IsStoreOr file (Ok found)
rows_end file rows n found done roots s =
    let counted : length rows ≡ length roots.boxes = ap length roots.are ∙ length-rows roots.boxes in
    let all : take n roots.boxes ≡ roots.boxes = take_all n roots.boxes (omega (arith, counted, done)) in
    go found (subst (λ (xs : List Box). Searched xs found) all (s roots.boxes roots.has_roots roots.are))
  where
    go : (found : Option Found) → Searched roots.boxes found → IsStoreOr file (Ok found)
    go None h = record { roots = roots.boxes; has_roots = roots.has_roots; none = h.finds }
    go (Some f) h = record { roots = roots.boxes; has_roots = roots.has_roots; holds = h.finds }

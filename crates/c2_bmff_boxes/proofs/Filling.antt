-- Rows that fill a part of a source.
use Rattle.std.proofs.Common.{◌≡◌, ℕ, ◌+◌, ◌*◌, ◌≤◌, List, [], ◌∷◌, ◌++◌, length, sym, ap, ◌∙◌, arith}
use Rattle.std.specs.Prelude.{All}
use Rattle.std.specs.List.{AllByRecursion}
use Rattle.std.proofs.lemmas.List.Elements.{All-from_recursion}
use Rattle.std.proofs.lemmas.List.Sums.{sum_by-cons}
use Rattle.c2_bmff_rows.specs.Rows.{HasHeader, IsBoxWithin, IsRowWithin}
use Rattle.c2_bmff_rows.specs.declared.row.RootBox.{RootBox}
use Rattle.c2_bmff_boxes.specs.Children.{rows_len}
use Rattle.c2_bmff_boxes.specs.Roots.{FillSource}

-- one row more
pub fill_more : (at low : ℕ) (rows : List RootBox) (r : RootBox) → FillSource at low rows → r.start ≡ at
    → r.header ≤ r.length → 8 ≤ r.header → FillSource (at + r.length) low (rows ++ r ∷ [])
fill_more at low [] r f e h l = (e ∙ sym f, h, l, ap (λ n. n + r.length) f)
fill_more at low (x ∷ xs) r f e h l = (f.0, f.1, f.2, fill_more at (low + x.length) xs r f.3 e h l)

-- rows that fill a source end at its end
pub fill_end : (size low : ℕ) (rows : List RootBox) → FillSource size low rows → low ≤ size
fill_end size low [] f = omega (arith, f)
fill_end size low (r ∷ rs) f = omega (arith, fill_end size (low + r.length) rs f.3)

-- each of them ends in the source
pub fill_within_by : (size low : ℕ) (rows : List RootBox) → FillSource size low rows
    → AllByRecursion (IsBoxWithin size) rows
fill_within_by size low [] f = tt
fill_within_by size low (r ∷ rs) f =
    (omega (arith, f.0, fill_end size (low + r.length) rs f.3), fill_within_by size (low + r.length) rs f.3)

-- rows that fill a source end in it
pub fill_within : (size low : ℕ) (rows : List RootBox) → FillSource size low rows → All (IsBoxWithin size) rows
fill_within size low rows f = All-from_recursion (IsBoxWithin size) rows (fill_within_by size low rows f)

-- each of them has a header
fill_headed_by : (size low : ℕ) (rows : List RootBox) → FillSource size low rows → AllByRecursion HasHeader rows
fill_headed_by size low [] f = tt
fill_headed_by size low (r ∷ rs) f = ((f.1, f.2), fill_headed_by size (low + r.length) rs f.3)

-- rows that fill a source have headers
pub fill_headed : (size low : ℕ) (rows : List RootBox) → FillSource size low rows → All HasHeader rows
fill_headed size low rows f = All-from_recursion HasHeader rows (fill_headed_by size low rows f)

-- rows that end in a part of a source, and have headers
fill_rows_by : (size low len : ℕ) (rows : List RootBox) → FillSource size low rows → size ≤ len
    → AllByRecursion (IsRowWithin len) rows
fill_rows_by size low len [] f h = tt
fill_rows_by size low len (r ∷ rs) f h =
    ((omega (arith, f.0, fill_end size (low + r.length) rs f.3, h), f.1, f.2), fill_rows_by size (low + r.length) len rs f.3 h)

-- rows that fill a part of a source end in it, and have headers
pub fill_rows : (size low len : ℕ) (rows : List RootBox) → FillSource size low rows → size ≤ len
    → All (IsRowWithin len) rows
fill_rows size low len rows f h = All-from_recursion (IsRowWithin len) rows (fill_rows_by size low len rows f h)

-- how many bytes rows have together that fill a part of a source
pub fill_total : (size low : ℕ) (rows : List RootBox) → FillSource size low rows → low + rows_len rows ≡ size
fill_total size low [] f = let z : low + rows_len [] ≡ low = omega arith in z ∙ f
fill_total size low (r ∷ rs) f = let z : low + rows_len (r ∷ rs) ≡ low + r.length + rows_len rs = omega (arith, sum_by-cons (λ (x : RootBox). x.length) r rs) in z ∙ fill_total size (low + r.length) rs f.3

-- each of these rows has 8 bytes or more
pub fill_count : (size low : ℕ) (rows : List RootBox) → FillSource size low rows → low + 8 * length rows ≤ size
fill_count size low [] f = omega (arith, f)
fill_count size low (r ∷ rs) f = omega (arith, f.1, f.2, fill_count size (low + r.length) rs f.3)

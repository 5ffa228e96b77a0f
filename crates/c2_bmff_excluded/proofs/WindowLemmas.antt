-- Bytes of the file that were read last.
use Rattle.std.proofs.Common.{◌≡◌, ℕ, ◌+◌, ◌≤◌, List, take, drop, sym, ap, ◌∙◌}
use Rattle.std.proofs.lemmas.List.{drop-drop}
use Rattle.c2_bmff_excluded.specs.Windows.{IsWindow}
use Rattle.c2_bmff_excluded.specs.declared.far.Window.{Window}
use Rattle.c2_bmff_rows.proofs.Lists.{piece_of}

-- a piece of the window is the file's at its place
pub window_piece : (file bytes : List ℕ) (w : Window) (at from n : ℕ) → IsWindow file bytes w → w.start + from ≡ at
    → from + n ≤ w.count → take n (drop from bytes) ≡ take n (drop at file)
window_piece file bytes w at from n h place inside =
    sym (piece_of w.count from n bytes inside) ∙ ap (λ (xs : List ℕ). take n (drop from xs)) h
    ∙ piece_of w.count from n (drop w.start file) inside
    ∙ ap (take n) (drop-drop from w.start file ∙ ap (λ k. drop k file) place)

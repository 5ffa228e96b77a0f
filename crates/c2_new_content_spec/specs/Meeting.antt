-- What a file meets that a store is put into at a split, whichever the store is and wherever the split.
use Rattle.std.specs.Prelude.{◌≡◌, ℕ, List, length, Some}
use Rattle.c2_base.specs.declared.values.Question.{Question}
use Rattle.c2_spec.specs.Jumbf.Tree.{Tree, tree_bytes}
use Rattle.c2_spec.specs.declared.digest.Alg.{Alg}
use Rattle.c2_new_file_spec.specs.Fresh.{GivesDigests, MeetsTheRules}
use Rattle.c2_new_file_spec.specs.Unbound.{MeetsUnbound}
use Rattle.c2_new_content_spec.specs.Splits.{CanHold, Split, binding_at, split_file, split_len, split_piece, split_start}

-- Where a store meets every rule but its verdict and its binding, and its binding is that of the file at the split, the
-- file meets every rule but its verdict, and asks what the store asks. The split is one of segments or of root boxes;
-- nothing is said of how the store was made.
abbrev pub SplitFileMeets : Type 0
SplitFileMeets = (hash : Alg → List ℕ → List ℕ) (alg : Alg) (t : Tree) (base piece : List ℕ) (s : Split)
    (qs : List Question)
    → GivesDigests hash → CanHold base s (tree_bytes t) → split_piece s (tree_bytes t) ≡ Some piece
    → MeetsUnbound hash t (binding_at (hash alg) alg base s (split_len s (length (tree_bytes t)))) qs
    → MeetsTheRules hash (split_file base s piece) (split_start s) (split_len s (length (tree_bytes t))) t qs

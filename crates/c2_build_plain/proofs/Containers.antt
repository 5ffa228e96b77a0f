-- What a file comes to as a container.
use Rattle.std.proofs.Common.{ℕ, List, subst}
use Rattle.c2_spec.specs.Container.{IsLocated}
use Rattle.c2_spec.specs.Jumbf.Tree.{Tree}
use Rattle.c2_spec.specs.Located.{here}
use Rattle.c2_rules.specs.Opened.{IsOpened}
use Rattle.c2_new_file_spec.proofs.Somes.{located_here}

-- a file that is opened as a store of manifests in a range has a store there
pub opened_range : (file : List ℕ) (start len : ℕ) (t : Tree) → IsOpened file (here start len t)
    → (store : List ℕ) × IsLocated file (here start len store)
opened_range file start len t h =
    let at = located_here h.0 start len t h.2 in
    (at.0, subst (IsLocated file) at.1 h.1)

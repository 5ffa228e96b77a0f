-- The laws of this crate, for the proofs of the crates above it.
use Rattle.c2_jumbf.proofs.EachList.{each_told}
use Rattle.c2_spec.specs.Jumbf.Faults.{JumbfFault}
use Rattle.c2_spec.specs.Jumbf.Tree.{SpellsTree, Tree}
use Rattle.c2_spec.specs.declared.jumbf.JumbfError.{JumbfError}
use Rattle.std.specs.List.{All}
use Rattle.std.specs.Prelude.{List, ℕ, ◌<◌, ◌^◌, ◌⊎◌}

-- whatever the bytes are, they spell one legal tree, or one test is the first that fails
pub each_list_is_a_tree_or_not_some : (bytes : List ℕ) → All (λ b. b < 2 ^ 8) bytes
    → ((t : Tree) × SpellsTree bytes t) ⊎ ((e : JumbfError) × JumbfFault bytes e)
each_list_is_a_tree_or_not_some = each_told

-- The root of a list of bytes, and the one answer.
use Rattle.std.proofs.Common.{◌≡◌, ◌⊎◌, inl, inr, ⊎_elim, ℕ, ◌<◌, ◌≤◌, List, [], ◌++◌, length, drop, Result, Ok, Err, MatchResult, IfOk, IfErr, sym, ap, ◌∙◌, subst, arith}
use Rattle.std.proofs.lemmas.List.{length-drop, drop_all, append-nil}
use Rattle.c2_spec.specs.declared.jumbf.JumbfError.{JumbfError}
use Rattle.c2_spec.specs.declared.jumbf.JumbfError.TheVariants.{Trailing, NoMemory}
use Rattle.c2_spec.specs.Jumbf.Tree.{Tree, tree_bytes, SpellsTree}
use Rattle.c2_spec.specs.Jumbf.Faults.{JumbfFault}
use Rattle.c2_spec.proofs.JumbfOneTree.{spells_once}
use Rattle.c2_spec.proofs.JumbfNoFault.{no_fault}
use Rattle.c2_spec.proofs.JumbfOneFault.{first_once}
use Rattle.c2_jumbf.specs.declared.rows.Row.{Row}
use Rattle.c2_jumbf.specs.Labels.{Mark}
use Rattle.c2_jumbf.specs.Flat.{IsTreeAt, FaultAt, rows}
use Rattle.c2_jumbf.specs.Parsed.{IsParsed}
use Rattle.c2_spec.proofs.JumbfOneFault.{lonely}

-- bytes after the root are a fault
pub root_trailing : (bytes : List ℕ) (before after : List Mark) (total : ℕ) (old new : List Row)
    → IsTreeAt 1 0 bytes total before after old new → total < length bytes → JumbfFault bytes (Trailing total)
root_trailing bytes before after total old new t short =
    subst (λ n. JumbfFault bytes (Trailing n)) (sym t.size)
    (JumbfFault.trailing t.tree (drop total bytes) t.legal t.bytes (omega (arith, length-drop total bytes)))

-- a root that ends with the bytes makes them a tree
pub root_whole : (bytes : List ℕ) (before after : List Mark) (total : ℕ) (old new : List Row) → old ≡ []
    → IsTreeAt 1 0 bytes total before after old new → length bytes ≤ total → IsParsed bytes new
root_whole bytes before after total old new none t all = record {
  tree = t.tree;
  spells =
      record
      { whole = t.bytes ∙ ap (λ (x : List ℕ). tree_bytes t.tree ++ x) (drop_all total bytes all) ∙ append-nil (tree_bytes t.tree); legal = t.legal };
  rows_are = t.added ∙ ap (λ (x : List Row). x ++ rows 0 1 (length x) t.tree) none;
}

-- a fault of the root is a fault of the bytes
pub root_fault : (bytes : List ℕ) (before after : List Mark) (e : JumbfError) → FaultAt 1 0 bytes before after e
    → JumbfFault bytes e
root_fault bytes before after e f = JumbfFault.inside (f.inside [] (lonely f.label))

-- a tree that is answered is the one that is spelled, and no fault is answered beside it
pub tree_only : (bytes : List ℕ) (r : Result Tree JumbfError) → IfOk r (λ h. SpellsTree bytes h)
    → IfErr r (λ e. (e ≡ NoMemory) ⊎ JumbfFault bytes e)
    → (t : Tree) → SpellsTree bytes t → MatchResult r (λ h. h ≡ t) (λ e. e ≡ NoMemory)
tree_only bytes (Ok h) ok err t s = spells_once bytes h t ok s
tree_only bytes (Err e) ok err t s = ⊎_elim (λ m. m) (λ f. absurd (no_fault bytes t e s f)) err

-- an answer that is a fault is the first fault of the bytes, or out of memory
pub fault_only : (bytes : List ℕ) (r : Result Tree JumbfError) → IfOk r (λ h. SpellsTree bytes h)
    → IfErr r (λ e. (e ≡ NoMemory) ⊎ JumbfFault bytes e)
    → (f : JumbfError) → JumbfFault bytes f → MatchResult r (λ _. ⊥) (λ e. (e ≡ NoMemory) ⊎ (e ≡ f))
fault_only bytes (Ok h) ok err f s = no_fault bytes h f ok s
fault_only bytes (Err e) ok err f s = ⊎_elim inl (λ g. inr (first_once bytes e f g s)) err

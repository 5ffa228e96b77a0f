-- What the head of a box tells; for private clauses.
use Rattle.std.specs.Prelude.{◌≡◌, ◌≤◌, None, List, ℕ, length}
use Rattle.c2_jumbf.specs.declared.front.Front.{Front}
use Rattle.c2_spec.specs.Jumbf.Tree.{head_len}
use Rattle.c2_spec.specs.Jumbf.Faults.{box_head_fault, tells_wide, told_total, told_kind}

-- a header without fault, as it is read
pub record IsHead (region : List ℕ) (h : Front) : Type 0 where
  pub good : box_head_fault 0 region ≡ None
  pub header : h.header ≡ head_len (tells_wide region)
  pub total : h.total ≡ told_total region
  pub kind : h.kind ≡ told_kind region
  pub least : h.header ≤ h.total
  pub short : h.header ≤ 16
  pub inside : h.total ≤ length region

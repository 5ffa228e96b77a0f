-- The description of a superbox as it is read; for private clauses.
use Rattle.std.specs.Prelude.{◌≡◌, ◌-◌, ◌≤◌, ◌+◌, ℕ, List, take, drop}
use Rattle.c2_jumbf.specs.declared.front.Front.{Front}
use Rattle.c2_jumbf.specs.declared.reading.Own.{Own}
use Rattle.c2_jumbf.specs.Heads.{IsHead}
use Rattle.c2_jumbf.specs.Fields.{HasFields}
use Rattle.c2_spec.specs.declared.kinds.TheConstants.{JUMD}

-- the payload behind a superbox's header
abbrev pub behind_head : List ℕ → Front → List ℕ
behind_head region h = take (h.total - h.header) (drop h.header region)

-- the first box inside a superbox is this description
pub record IsOwn (region : List ℕ) (h : Front) (own : Own) : Type 0 where
  pub front : IsHead (behind_head region h) own.head
  pub kind : own.head.kind ≡ JUMD
  pub fields : HasFields (take (own.head.total - own.head.header) (drop own.head.header (behind_head region h))) own.fields
  pub inside : h.header + own.head.total ≤ h.total

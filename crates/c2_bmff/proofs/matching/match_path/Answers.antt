use Rattle.std.proofs.Common.{◌≡◌, ◌∙◌, List, sym, ap, subst}
use Rattle.std.specs.Prelude.{All}
use Rattle.std.specs.List.{list_any}
use Rattle.c2_base.specs.declared.values.Range.{Range}
use Rattle.c2_spec.specs.Cover.{is_excluded}
use Rattle.c2_bmff_excluded.specs.Marks.{excludes_row}
use Rattle.c2_bmff_rows.specs.Rows.{IsBoxWithin, rows_of}
use Rattle.c2_bmff_rows.specs.declared.row.RootBox.{RootBox}
use Rattle.c2_lemmas.proofs.Bytes.{are_bytes}
use Rattle.c2_bmff_rows.proofs.Lists.{rows_within}
use Rattle.c2_bmff.proofs.MatchLemmas.{excluded_rows, rows_excluded}
use Rattle.c2_bmff.proofs.matching.match_path.Goals as goal
use Rattle.c2_lemmas.proofs.Bools.{or_false}

-- root boxes that end in the source are rows inside it
pub mark_all-requires : goal.mark_all-requires
mark_all-requires g c =
    record
    { inside = rows_within (g.S.Source.len c.args.source.now) _ (subst (All (IsBoxWithin (g.S.Source.len c.args.source.now))) (sym c.as_slice.ensures.boxes) c.requires.inside) c.as_slice.ensures.headers }

-- the ranges hold exactly the positions that the exclusion excludes
pub returns-in-Ok-clause-excluded : goal.returns-in-Ok-clause-excluded
returns-in-Ok-clause-excluded g c file known boxes has rows i =
    let bytes = are_bytes file (g.met.S.Source.known_bytes c.args.source.now file known) in
    let same : is_excluded c.from_list.result i ≡ excludes_row file (rows_of boxes) i c.args.entry.now =
    ap (λ (rs : List Range). is_excluded rs i) c.from_list.ensures ∙ c.in-Ok.ensures.excluded file known i
    ∙ ap (list_any (excludes_row file c.as_slice.result.now i)) c.from_ref.ensures.value
    ∙ or_false (excludes_row file c.as_slice.result.now i c.args.entry.now)
    ∙ ap (λ (rs : List RootBox). excludes_row file rs i c.args.entry.now) (c.as_slice.ensures.boxes ∙ rows) in (
      λ yes. rows_excluded file boxes c.args.entry.now i bytes has (sym same ∙ yes),
      λ ex. same ∙ excluded_rows file boxes c.args.entry.now i bytes has ex,
    )

use Rattle.std.proofs.Common.{◌≡◌, ◌∙◌, List, length, subst, sym}
use Rattle.c2_bmff_boxes.specs.Causes.{IsBmffCaused}
use Rattle.c2_bmff_rows.specs.declared.row.RootBox.{RootBox}
use Rattle.c2_cover.specs.Telling.{IsToldBy}
use Rattle.c2_base.proofs.Written.{source_stays}
use Rattle.c2_cover.proofs.BmffTexts.{bmff_cover_of}
use Rattle.c2_cover.proofs.bmff.bmff_cover.Goals as goal

-- an error of the match has its cause since the call began
pub returns-in-Err-clause-cause : goal.returns-in-Err-clause-cause
returns-in-Err-clause-cause g c =
    c.matching_error.ensures (g.S.Source.faults c.args.source.now) (g.S.Source.faults c.match_paths.new.source)
    (subst (λ n. IsBmffCaused n (g.S.Source.faults c.match_paths.new.source) c.in-Err.error) c.in_ok-size.ensures.cause.ok c.in-Err.ensures.cause)

-- the ranges are those of the exclusions, merged, and the box offsets those of the root boxes
pub returns-clause-cover : goal.returns-clause-cover
returns-clause-cover g c file known boxes has rows =
    let len : length file ≡ c.in_ok-size.size =
    g.met.S.Source.known_len c.args.source.now file known ∙ sym c.in_ok-size.ensures.length in
    let told = c.in_ok-cover.ensures in
    bmff_cover_of file boxes c.args.roots.now c.args.entries.now c.in_ok-size.size _ c.in-Ok.ranges told.bare c.in_ok-cover.cover len told.cover
    c.as_slice.ensures
    (subst (λ (rs : List RootBox). IsToldBy rs told.bare c.in_ok-cover.cover) c.as_slice-2.ensures.boxes told.told)
    (c.in-Ok.ensures.excluded file (c.in_ok-size.ensures.stays.same_bytes ∙ known) boxes has rows) has rows

-- it has the source's size
pub returns-clause-size : goal.returns-clause-size
returns-clause-size g c =
    c.in_ok-cover.ensures.told.size ∙ c.in_ok-cover.ensures.cover.size ∙ c.in_ok-size.ensures.length

-- and its box offsets rise
pub returns-clause-offsets : goal.returns-clause-offsets
returns-clause-offsets g c = c.in_ok-cover.ensures.told.rise

-- what the search leaves of the source
pub returns-clause-stays : goal.returns-clause-stays
returns-clause-stays g c =
    source_stays g.S.Source.len g.S.Source.known g.S.Source.faults c.args.source.now c.size.new.self c.match_paths.new.source c.in_ok-size.ensures.stays c.in-Ok.ensures.stays

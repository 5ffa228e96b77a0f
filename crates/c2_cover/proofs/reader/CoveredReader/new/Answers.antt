use Rattle.std.proofs.Common.{◌∙◌, ap}
use Rattle.c2_cover.specs.Covers.{Covered}
use Rattle.c2_cover.proofs.StretchLemmas.{start_of}
use Rattle.c2_cover.proofs.reader.CoveredReader.new.Goals as goal

-- a new reader has the cover's whole text before it, as many bytes as positions are covered and its box offsets have
pub returns : goal.returns
returns c =
    start_of c.args.cover.now _ _ _ (ap (λ (v : Covered). v.size) c.cover.view_is)
    (c.deref.ensures.value ∙ ap (λ (v : Covered). v.ranges) c.cover.view_is)
    (c.deref-2.ensures.value ∙ ap (λ (v : Covered). v.offsets) c.cover.view_is)

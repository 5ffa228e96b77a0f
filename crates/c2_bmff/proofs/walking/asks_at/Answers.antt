use Rattle.std.proofs.Common.{◌∙◌, List, get_or, sym, ap, arith}
use Rattle.std.specs.List.{list_any}
use Rattle.std.proofs.lemmas.Option.{slice_get-get_or}
use Rattle.c2_spec.specs.Bmff.Hash.{Exclusion}
use Rattle.c2_bmff_excluded.specs.Marks.{SharedPath, marks, marks_any}
use Rattle.c2_bmff.proofs.TrailLemmas.{of_there}
use Rattle.c2_bmff.proofs.walking.asks_at.Goals as goal

-- the exclusions of the path exclude what those of the index do
pub returns : goal.returns
returns c file i row =
    let es : List SharedPath = c.args.entries.now in
    let e : SharedPath = c.index-entries-k.result in
    ap (λ (xs : List Exclusion). list_any (λ (x : Exclusion). marks file x i row) xs) c.as_slice.ensures.value
    ∙ ap (λ (s : SharedPath). marks_any file s i row) (c.entry.view_is ∙ c.index-entries-k.is)
    ∙ sym (of_there es c.args.k (get_or es c.args.k e) (λ (x : SharedPath). marks_any file x i row)
    (slice_get-get_or es c.args.k e (omega (arith, c.if-k-entries.false))))

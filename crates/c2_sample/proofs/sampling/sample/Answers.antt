use Rattle.std.proofs.Common.{ap, arith, length, map, subst}
use Rattle.std.proofs.lemmas.Result.{IfOk-weaker}
use Rattle.c2_spec.specs.Judges.Panel.{panel_says}
use Rattle.c2_calls_spec.proofs.PanelLemmas.{hears_nobody, hears_same}
use Rattle.c2_sample.specs.Sample.{IsNewFile, IsSampled, SampleAsks, sample_heard}
use Rattle.c2_sample.proofs.Builds.{built_asks, built_sampled, refused_asks, refused_sampled}
use Rattle.c2_sample.proofs.MediaLengths.{media_len}
use Rattle.c2_sample.proofs.sampling.sample.Goals as goal

-- what so many pieces come to is what the new file comes to
pub returns-in-Ok-Built-clause-sampled : goal.returns-in-Ok-Built-clause-sampled
returns-in-Ok-Built-clause-sampled g c =
    let said = panel_says (map (λ j. (goal.Judge-dyn g (j.vtable, j.value)).says j.value) c.args.judges.now.items) in
    let hash = g.H.Hashing.digest_of in
    let built = subst (IsNewFile hash c.in-Ok.media) c.in-Ok-Built.field-0-is c.in-Ok-Built.ensures in
    IfOk-weaker c.check.result _ (IsSampled hash said c.args.count)
    (λ s found. built_sampled hash said c.args.count c.in-Ok.media c.in-Ok-Built.file _ s c.in-Ok.ensures (ap length c.as_slice.ensures.value) built found)
    c.check.ensures.sampled

-- or what is refused
pub returns-in-Ok-Refused-clause-sampled : goal.returns-in-Ok-Refused-clause-sampled
returns-in-Ok-Refused-clause-sampled g c =
    let said = panel_says (map (λ j. (goal.Judge-dyn g (j.vtable, j.value)).says j.value) c.args.judges.now.items) in
    let hash = g.H.Hashing.digest_of in
    refused_sampled hash said c.args.count c.in-Ok.media c.in-Ok-Refused.error c.in-Ok.ensures
    (subst (IsNewFile hash c.in-Ok.media) c.in-Ok-Refused.field-0-is c.in-Ok-Refused.ensures)

-- what so many pieces ask is what the check of the new file asks
pub returns-in-Ok-Built-clause-panel : goal.returns-in-Ok-Built-clause-panel
returns-in-Ok-Built-clause-panel g c =
    let said = panel_says (map (λ j. (goal.Judge-dyn g (j.vtable, j.value)).says j.value) c.args.judges.now.items) in
    let built = subst (IsNewFile g.H.Hashing.digest_of c.in-Ok.media) c.in-Ok-Built.field-0-is c.in-Ok-Built.ensures in
    hears_same _ _ _ sample_heard (λ said. SampleAsks g.H.Hashing.digest_of said c.args.count) _ c.args.judges.now
    c.check.new.judges c.check.result
    (λ qs asks. built_asks g.H.Hashing.digest_of said c.args.count c.in-Ok.media c.in-Ok-Built.file qs c.in-Ok.ensures built asks) c.check.ensures.panel

-- nobody is asked where nothing is built
pub returns-in-Ok-Refused-clause-panel : goal.returns-in-Ok-Refused-clause-panel
returns-in-Ok-Refused-clause-panel g c =
    let said = panel_says (map (λ j. (goal.Judge-dyn g (j.vtable, j.value)).says j.value) c.args.judges.now.items) in
    let refused =
    subst (IsNewFile g.H.Hashing.digest_of c.in-Ok.media) c.in-Ok-Refused.field-0-is c.in-Ok-Refused.ensures in
    hears_nobody _ _ _ sample_heard (λ said. SampleAsks g.H.Hashing.digest_of said c.args.count) c.args.judges.now _
    (λ qs asks. refused_asks g.H.Hashing.digest_of said c.args.count c.in-Ok.media c.in-Ok-Refused.error qs c.in-Ok.ensures refused asks)

-- the media is small
pub build-requires : goal.build-requires
build-requires g c = omega (arith, ap length c.in-Ok.ensures, media_len c.args.count)

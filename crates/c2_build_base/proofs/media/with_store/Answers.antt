use Rattle.std.proofs.Common.{refl}
use Rattle.c2_build_base.proofs.Opened.{found_at, stored_stage}
use Rattle.c2_build_base.proofs.media.with_store.Goals as goal

-- its store is the one that was found
pub returns-clause-kind : goal.returns-clause-kind
returns-clause-kind c = λ bytes found store.
    let f = c.args.found.now in
    let located = found_at bytes c.args.file.now f c.requires found in
    record
    { stage = stored_stage bytes f _ store located; found = found; older = refl; clears = c.cleared_of.ensures.left bytes f c.requires found }

-- what was found lies in the file
pub returns-clause-inside : goal.returns-clause-inside
returns-clause-inside c =
    λ len within boxes. record { within = within; clears = c.cleared_of.ensures.is; boxes = boxes }

use Rattle.std.proofs.Common.{◌≡◌, length, drop}
use Rattle.std.specs.List.{slice_split}
use Rattle.c2_spec.proofs.CborEach.{after}
use Rattle.c2_spec.specs.Bmff.Paths.{each_step}
use Rattle.c2_spec.specs.C2pa.Uri.{is_slash}
use Rattle.c2_bmff_paths.proofs.paths.segments_of.Given as goal

-- the steps of the texts are those read so far and then those of the texts that are left
abbrev pub invariant-loop-part : goal.invariant-loop-part
invariant-loop-part l =
    each_step (slice_split is_slash l.parts) ≡ after l.segments.items
    (each_step (drop (length l.yielded) (slice_split is_slash l.parts)))

-- The first test on root boxes that fails is the first of the file.
use Rattle.std.proofs.Common.{ℕ, List}
use Rattle.c2_base.specs.declared.media.MediaError.{MediaError}
use Rattle.c2_spec.specs.Bmff.Store.{FirstBmffFault}
use Rattle.c2_spec.specs.Bmff.Store as all
use Rattle.c2_bmff_rows.specs.Faults.{FirstRootsFault, too_large, not_media, root}

-- no test on what a root box holds comes before it
pub first_of_all : (file : List ℕ) (e : MediaError) → FirstRootsFault file e → FirstBmffFault file e
first_of_all file e (too_large large) = all.too_large large
first_of_all file e (not_media fits other) = all.not_media fits other
first_of_all file e (root fault fits begins bad) = all.root fault fits begins bad

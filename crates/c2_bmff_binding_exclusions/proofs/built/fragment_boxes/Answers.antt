use Rattle.std.proofs.Common.{[], ◌∷◌, None, refl, codes}
use Rattle.c2_bmff_binding_exclusions.proofs.built.fragment_boxes.Goals as goal

-- the text is that of one step
pub whole_boxes-requires : goal.whole_boxes-requires
whole_boxes-requires c = record { path = (record { kind = codes "mfra"; nth = None } ∷ [], refl) }

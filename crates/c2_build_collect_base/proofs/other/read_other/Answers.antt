use Rattle.c2_build_base.proofs.Opened.{boxes_of}
use Rattle.c2_build_collect_base.proofs.Opened.{read_there, refused_there}
use Rattle.c2_build_collect_base.proofs.other.read_other.Goals as goal

-- a store of manifests
pub returns-in-Here-clause-there : goal.returns-in-Here-clause-there
returns-in-Here-clause-there c =
    λ file there. read_there file c.args.media.now c.in-Ok.read _ _ c.in-Here.is c.in-Ok.ensures there

pub returns-in-Here-clause-boxes : goal.returns-in-Here-clause-boxes
returns-in-Here-clause-boxes c = boxes_of c.args.media.now.found c.in-Ok.read _ _ c.in-Here.is c.in-Ok.ensures

-- a refused one
pub returns-in-Refused-clause-refused : goal.returns-in-Refused-clause-refused
returns-in-Refused-clause-refused c =
    λ file there. refused_there file c.args.media.now c.in-Ok.read c.in-Refused.reason c.in-Refused.number c.in-Refused.is c.in-Ok.ensures there

use Rattle.std.proofs.Common.{◌<◌, arith, refl}
use Rattle.c2_build_drafts.proofs.ready.ready_of.Goals as goal

-- this is to be written
pub returns-in-Ok-made_store-clause-ready : goal.returns-in-Ok-made_store-clause-ready
returns-in-Ok-made_store-clause-ready g c = c.in-Ok-made_store.ensures.made _ refl refl refl

-- and can be
pub returns-in-Ok-made_store-clause-can_write : goal.returns-in-Ok-made_store-clause-can_write
returns-in-Ok-made_store-clause-can_write g c = record {
  can =
      record { store = c.in-Ok-made_store.ensures.packs; size = c.requires.small.size; inside = c.requires.small.inside };
  room = let some : 0 < c.in-Ok.buffer.len = omega (arith, c.in-Ok.ensures.len) in some;
}

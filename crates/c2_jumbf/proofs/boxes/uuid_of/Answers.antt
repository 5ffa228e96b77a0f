use Rattle.std.proofs.Common.{arith, sym}
use Rattle.std.proofs.lemmas.List.{length-take-le}
use Rattle.c2_spec.specs.Jumbf.Boxes.{box_at}
use Rattle.c2_jumbf.proofs.DescriptionLemmas.{payload_long, uuid_missing, uuid_here}
use Rattle.c2_jumbf.proofs.boxes.uuid_of.Goals as goal

pub returns-in_default : goal.returns-in_default
returns-in_default c = uuid_missing (box_at c.args.tree.now c.args.i).box c.in_default.ensures.none

pub slice_bounds-copy_from_slice-end-2 : goal.slice_bounds-copy_from_slice-end-2
slice_bounds-copy_from_slice-end-2 c = omega (
  arith,
  payload_long (box_at c.args.tree.now c.args.i).box
      c.in-Some.payload.now c.in-Some.ensures.found,
  length-take-le 16 c.in-Some.payload.now
      (omega (arith, payload_long (box_at c.args.tree.now c.args.i).box c.in-Some.payload.now c.in-Some.ensures.found)),
)

pub copy_from_slice-requires : goal.copy_from_slice-requires
copy_from_slice-requires c =
    sym
    (length-take-le 16 c.in-Some.payload.now (omega (arith, payload_long (box_at c.args.tree.now c.args.i).box c.in-Some.payload.now c.in-Some.ensures.found)))

pub returns : goal.returns
returns c =
    uuid_here (box_at c.args.tree.now c.args.i).box c.in-Some.payload.now _ c.in-Some.ensures.found
    c.copy_from_slice.ensures.after

use Rattle.std.proofs.Common.{◌<◌, length, take, get_or}
use Rattle.std.specs.Prelude.{All}
use Rattle.c2_base.specs.declared.values.Range.{Range}
use Rattle.c2_bmff_excluded.specs.Parts.{AreRising, HoldSame, StartsBy}
use Rattle.c2_bmff_excluded.proofs.parts.joined_all.Given as goal

-- the joined parts hold what the parts so far do, rise, and begin no later than any that follows
abbrev pub invariant-loop-part : goal.invariant-loop-part
invariant-loop-part l = record {
  same : HoldSame l.done.items (take l.part-index l.parts);
  rising : AreRising l.done.items;
  below : (d : Range) → l.part-index < length l.parts
      → All (StartsBy (get_or l.parts l.part-index d).start) l.done.items;
}

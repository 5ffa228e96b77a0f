use Rattle.c2_build_collect_base.specs.Steps.{AreFirstFlags}
use Rattle.c2_build_collect_base.proofs.stores.flags_of.Given as goal

-- the flags of the first `i` manifests
abbrev pub invariant-loop-i : goal.invariant-loop-i
invariant-loop-i l = AreFirstFlags l.chain.readings l.i l.flags.items

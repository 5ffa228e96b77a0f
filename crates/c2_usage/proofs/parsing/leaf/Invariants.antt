use Rattle.std.proofs.Common.{map, take}
use Rattle.c2_usage.specs.CommandLine.{name_of}
use Rattle.c2_usage.specs.Parsing.{IsLeaf, leaf, rule_for}
use Rattle.c2_usage.proofs.parsing.leaf.Given as goal

-- the words so far have been added
abbrev pub invariant-loop-role : goal.invariant-loop-role
invariant-loop-role l = IsLeaf (leaf (name_of l.fn.command) (map rule_for (take l.role-index l.role-items))) l.parser

use Rattle.std.proofs.Common.{◌≡◌, take}
use Rattle.c2_layout.proofs.claims.copied_texts.Given as goal

-- the first ones are copied
abbrev pub invariant-loop-text : goal.invariant-loop-text
invariant-loop-text l = l.copies.items ≡ take l.text-index l.texts

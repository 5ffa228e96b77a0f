use Rattle.std.proofs.Common.{◌≡◌, length, arith, sym, ◌∙◌}
use Rattle.c2_bmff_boxes.proofs.WalkLemmas.{short_begins}
use Rattle.c2_bmff_boxes.proofs.root_boxes.is_bmff.Goals as goal

-- a file of less than 8 bytes doesn't begin as a BMFF file
pub returns-then-size-lt8-clause-begins : goal.returns-then-size-lt8-clause-begins
returns-then-size-lt8-clause-begins g c file known =
    let len : length file ≡ c.args.size = g.met.S.Source.known_len c.args.source.now file known ∙ sym c.requires.size in
    short_begins file (omega (arith, len, c.if-size-lt8.true))

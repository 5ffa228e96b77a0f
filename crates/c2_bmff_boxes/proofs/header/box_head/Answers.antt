use Rattle.std.proofs.Common.{true, false, sym, ◌∙◌}
use Rattle.c2_bmff_boxes.proofs.HeaderLemmas.{box_of_bad, box_of_good}
use Rattle.c2_bmff_boxes.proofs.header.box_head.Goals as goal

-- a header that fails is a box that fails
pub returns-in-Err-clause-err : goal.returns-in-Err-clause-err
returns-in-Err-clause-err c =
    box_of_bad c.args.left c.args.bytes.now c.in-Err.error c.requires.first c.in-Err.ensures.err

-- a `uuid` box without room for its user type fails
pub returns-then-lacks_user_type-clause-err : goal.returns-then-lacks_user_type-clause-err
returns-then-lacks_user_type-clause-err c = let h = c.if-lacks_user_type.true in box_of_good c.args.left c.args.bytes.now c.in-Ok.head true c.requires.first c.in-Ok.ensures.ok (sym c.lacks_user_type.ensures ∙ c.if-lacks_user_type.true)

-- any other passes
pub returns-else-lacks_user_type-clause-ok : goal.returns-else-lacks_user_type-clause-ok
returns-else-lacks_user_type-clause-ok c =
    let is = c.in-Ok.ensures.ok in
    record {
      good =
          box_of_good c.args.left c.args.bytes.now c.in-Ok.head false c.requires.first is
          (sym c.lacks_user_type.ensures ∙ c.if-lacks_user_type.false);
      header = is.header;
      length = is.length;
      kind = is.kind;
      to_end = is.to_end;
      least = is.least;
      inside = is.inside;
      some = is.some;
    }

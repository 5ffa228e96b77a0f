use Rattle.std.proofs.Common.{refl, Some, None}
use Rattle.c2_jumbf.proofs.Marks.{sorted_settles}
use Rattle.c2_jumbf.proofs.labels.none_repeated.Goals as goal

pub returns-in-Some-clause-err : goal.returns-in-Some-clause-err
returns-in-Some-clause-err c = (
  c.in-Some.place,
  refl,
  sorted_settles c.args.siblings.marks.items c.sort_unstable.new.self.items c.as_slice.result.now (Some c.in-Some.place) c.sort_unstable.ensures.permutation c.sort_unstable.ensures.sorted c.as_slice.ensures.value c.in-Some.ensures,
)

pub returns-clause-ok : goal.returns-clause-ok
returns-clause-ok c =
    sorted_settles c.args.siblings.marks.items c.sort_unstable.new.self.items c.as_slice.result.now None
    c.sort_unstable.ensures.permutation c.sort_unstable.ensures.sorted c.as_slice.ensures.value c.in-None.ensures

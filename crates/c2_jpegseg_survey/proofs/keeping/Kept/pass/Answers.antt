use Rattle.std.proofs.Common.{sym, subst, ◌++◌, ◌∷◌, []}
use Rattle.c2_jpegseg_segments.specs.Passing.{Marks}
use Rattle.c2_jpegseg_segments.proofs.Kept.{kept-less, kept-more}
use Rattle.c2_jpegseg_segments.proofs.NumberMarks.{marks-push}
use Rattle.c2_jpegseg_survey.specs.Keeping.{IsKept}
use Rattle.c2_jpegseg_survey.proofs.keeping.Kept.pass.Goals as goal

pub returns-then-taken-clause-kept : goal.returns-then-taken-clause-kept
returns-then-taken-clause-kept c ss s marker len reads k =
    kept-less (IsKept c.args.self.now) c.args.taken ss s c.if-taken.true k

pub returns-clause-kept : goal.returns-clause-kept
returns-clause-kept c ss s marker len reads k = kept-more (IsKept _) c.args.taken ss s c.if-taken.false (record {
  front = c.grown-self.ensures.front ss s marker len k.front;
  marks = subst (λ m. Marks m (ss ++ s ∷ [])) (sym c.note.ensures)
      (marks-push c.args.self.now.marks ss s c.args.packet reads k.marks);
})

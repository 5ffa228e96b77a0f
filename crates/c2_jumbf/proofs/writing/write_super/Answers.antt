use Rattle.std.proofs.Common.{◌≡◌, inr, arith, subst, ◌-◌, ◌^◌, min}
use Rattle.c2_spec.specs.declared.jumbf.WriteError.TheVariants.{TooLarge}
use Rattle.c2_spec.specs.Jumbf.Writing.{SuperRefused, super_size}
use Rattle.c2_jumbf.proofs.writing.write_super.Goals as goal

pub returns-then-not-is_written_label-clause-err : goal.returns-then-not-is_written_label-clause-err
returns-then-not-is_written_label-clause-err c = inr (SuperRefused.bad_label c.if-not-is_written_label.ensures.bad)

pub returns-then-total-gt-MAX_STORE_LEN-clause-err : goal.returns-then-total-gt-MAX_STORE_LEN-clause-err
returns-then-total-gt-MAX_STORE_LEN-clause-err c =
    let a = c.saturating_add.ensures in
    let b = c.saturating_add-total.ensures in
    let n : min (super_size c.args.label.now c.args.contents.now) (2 ^ 64 - 1) ≡ c.saturating_add-total.result =
    omega (arith, a, b) in
    inr
    (subst (λ k. SuperRefused c.args.label.now c.args.contents.now (TooLarge k)) n (SuperRefused.too_large c.if-not-is_written_label.ensures.good (omega (arith, a, b))))

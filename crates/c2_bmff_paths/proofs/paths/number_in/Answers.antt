use Rattle.std.proofs.Common.{◌+◌, ◌*◌, ◌∙◌, sym, ap, arith, rules}
use Rattle.c2_bmff_paths.proofs.PathLemmas.{next_value, next_digit, too_great, all_digits}
use Rattle.c2_bmff_paths.proofs.paths.number_in.Goals as goal

-- where the digits so far write a number that is too great, all of them write none for brackets
pub returns-then-value-gt-MAX_CHILD_INDEX : goal.returns-then-value-gt-MAX_CHILD_INDEX
returns-then-value-gt-MAX_CHILD_INDEX c =
    sym (too_great c.args.digits.now (c.loop-byte.byte-index + 1) (c.loop-byte.value * 10 + c.from.result)
    (ap (λ n. c.loop-byte.value * 10 + n) c.from.ensures ∙ next_value c.args.digits.now c.loop-byte.byte-index c.loop-byte.value c.loop-byte-test.true (search rules) c.loop-byte.invariant.value) (omega arith))

-- with the next digit, the value is the number that the digits so far write, and isn't too great
pub loop-byte-preserved : goal.loop-byte-preserved
loop-byte-preserved c = record {
  all =
      next_digit c.args.digits.now c.loop-byte.byte-index c.loop-byte-test.true (search rules)
      c.loop-byte.invariant.all;
  value =
      ap (λ n. c.loop-byte.value * 10 + n) c.from.ensures
      ∙ next_value c.args.digits.now c.loop-byte.byte-index c.loop-byte.value c.loop-byte-test.true (search rules)
      c.loop-byte.invariant.value;
  small = omega arith;
}

-- digits without a leading zero, whose number isn't too great, write the value
pub returns : goal.returns
returns c =
    all_digits c.args.digits.now c.loop-byte.byte-index c.loop-byte.value (omega arith)
    (sym c.is_empty.ensures ∙ c.if-is_empty.false) c.if-digits-eq48.false c.loop-byte.invariant.all
    c.loop-byte.invariant.value c.loop-byte.invariant.small

use Rattle.std.proofs.Common.{refl}
use Rattle.c2_judge.proofs.Digits.{none_decoded, one_decoded}
use Rattle.c2_judge.proofs.rows.decoded.Goals as goal

pub returns-in_default : goal.returns-in_default
returns-in_default c =
    none_decoded c.args.digits.now 32 _ _ c.in_default.field-0 refl c.decode_to_slice.ensures.value c.in_default.is

pub returns : goal.returns
returns c = one_decoded c.args.digits.now 32 _ _ refl c.decode_to_slice.ensures.value

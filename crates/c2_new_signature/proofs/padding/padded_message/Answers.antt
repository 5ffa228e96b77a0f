use Rattle.std.proofs.Common.{◌≡◌, ◌+◌, ℕ, Some, sym, subst}
use Rattle.c2_spec.specs.C2pa.Sign1.{parts_of}
use Rattle.c2_new_signature.specs.Refusals.{least_padding, reserve_needed}
use Rattle.c2_new_signature.proofs.Padded.{signed, unfilled}
use Rattle.c2_new_signature.proofs.padding.padded_message.Goals as goal

-- what is written with the fill of what is left
pub returns-in_ok-write_sign1-in-Some-clause-signed : goal.returns-in_ok-write_sign1-in-Some-clause-signed
returns-in_ok-write_sign1-in-Some-clause-signed c =
    let written = c.in_ok-write_sign1-in-Some.ensures in
    signed (parts_of c.args.sign.now) c.args.reserve c.in_ok-bare.bare c.in-Some.fill c.in_ok-write_sign1-in-Some.field-0 c.in_ok-bare.ensures c.if-reserve-bare.false (sym c.in-Some.ensures) written.written written.longer
    written.again

-- no fill for what is left
pub returns-in-None-clause-refused : goal.returns-in-None-clause-refused
returns-in-None-clause-refused c =
    subst (λ (n : ℕ). reserve_needed c.args.reserve n ≡ Some (c.in_ok-bare.bare + least_padding)) c.in_ok-bare.ensures
    (unfilled c.args.reserve c.in_ok-bare.bare c.requires.most c.if-reserve-bare.false (sym c.in-None.ensures))

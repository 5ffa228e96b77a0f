use Rattle.c2_cbor_spec.proofs.TheLaws.{sorting_keeps_the_length}
use Rattle.std.proofs.Common.{[], ◌++◌, length, sym, subst, ap, ◌∙◌}
use Rattle.std.proofs.lemmas.Result.{IfOk-weaker}
use Rattle.c2_spec.specs.Cbor.Item.{Item}
use Rattle.c2_spec.specs.Cbor.View.{view}
use Rattle.c2_spec.specs.Cbor.Legal.{IsLegal}
use Rattle.c2_spec.specs.Cbor.Plain.{IsPlain}
use Rattle.c2_spec.specs.Cbor.Answers.{BeginsWith}
use Rattle.c2_spec.specs.Cbor.Deterministic.{sorted, deterministic}
use Rattle.c2_spec.specs.C2pa.Sign1.{parts_of}
use Rattle.c2_sigstruct.proofs.Padding.{padded_plain, padded_length, read_padded}
use Rattle.c2_sigstruct.proofs.writing.write_sign1.Goals as goal

-- the padded message is plain, and so it is legal
pub written-requires : goal.written-requires
written-requires c =
    subst IsLegal (sym c.in_ok-item.ensures)
    (padded_plain (parts_of c.args.sign.now) c.requires.can.0 c.args.fill c.requires.can.1).legal

-- its deterministic bytes are written
pub returns-clause-written : goal.returns-clause-written
returns-clause-written c =
    IfOk-weaker c.written.result _ _ (λ b h. h ∙ ap deterministic c.in_ok-item.ensures) c.written.ensures.bytes

-- it is longer by the cost of its fill
pub returns-clause-longer : goal.returns-clause-longer
returns-clause-longer c =
    IfOk-weaker c.written.result _ _
    (λ b h. ap length (h ∙ ap deterministic c.in_ok-item.ensures)
    ∙ padded_length sorting_keeps_the_length (parts_of c.args.sign.now) c.requires.can.0 c.args.fill c.requires.can.1)
    c.written.ensures.bytes

-- it is read
pub returns-clause-again : goal.returns-clause-again
returns-clause-again c =
    let p = parts_of c.args.sign.now in
    let plain : IsPlain (view c.in_ok-item.item) =
    subst IsPlain (sym c.in_ok-item.ensures) (padded_plain p c.requires.can.0 c.args.fill c.requires.can.1) in
    IfOk-weaker c.written.result _ _
    (λ b h. read_padded p c.requires.can.0 c.args.fill b c.requires.can.1
    (subst (λ (v : Item). BeginsWith (b ++ []) (sorted v) (length b)) c.in_ok-item.ensures (h plain [])))
    c.written.ensures.again

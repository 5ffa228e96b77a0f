use Rattle.std.proofs.Common.{sym, ap, ◌∙◌, replicate}
use Rattle.c2_spec.specs.Cbor.Item.{text, bytes}
use Rattle.c2_spec.specs.Cbor.View.{pairs_view}
use Rattle.c2_spec.specs.declared.cbor.Cbor.{Bytes, Text}
use Rattle.c2_sigstruct.proofs.Entries.{then_none}
use Rattle.c2_sigstruct.proofs.Pushed.{pushed}
use Rattle.c2_sigstruct.proofs.writing.push_zeros.Goals as goal
use Rattle.c2_cbor_spec.proofs.Views.{view-text}
use Rattle.c2_spec.proofs.CborViews.{view-Bytes}

-- the entry stands behind the others
pub returns-in_ok-push : goal.returns-in_ok-push
returns-in_ok-push c =
    rw c.in-Some.is
    (ap pairs_view c.in_ok-push.ensures.items
    ∙ pushed c.args.pairs.now.items (Text c.in_ok-name.name) (Bytes c.in_ok-value.value) (text c.args.key.now)
    (bytes (replicate c.in-Some.zeros 0)) (view-text c.in_ok-name.name ∙ ap text c.in_ok-name.ensures)
    (view-Bytes c.in_ok-value.value ∙ ap bytes c.in_ok-value.ensures))

-- without an entry nothing changes
pub returns-in_default : goal.returns-in_default
returns-in_default c = rw c.in_default.is (sym (then_none (pairs_view c.args.pairs.now.items)))

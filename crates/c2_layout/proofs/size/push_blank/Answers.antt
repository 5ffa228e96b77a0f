use Rattle.std.proofs.Common.{ℕ, List, [], ◌∷◌, ◌++◌, ap, ◌∙◌}
use Rattle.c2_spec.specs.declared.cbor.Ref.{Ref}
use Rattle.c2_new_file_spec.specs.Built.{no_digest}
use Rattle.c2_new_file_spec.specs.Store.{entry_of, own_ref}
use Rattle.c2_layout.proofs.AllBoxed.{made_step, made_end}
use Rattle.c2_layout.proofs.size.push_blank.Goals as goal

pub loop-assertion-preserved : goal.loop-assertion-preserved
loop-assertion-preserved c = made_step (entry_of (no_digest c.args.alg)) c.args.all.now c.loop-assertion.assertion-index c.assertion-item.result _ _ _ c.loop-assertion-test.true c.assertion-item.is
    (c.in_ok-push.ensures.items ∙ ap (λ (r : Ref). c.loop-assertion.entries.items ++ r ∷ []) (c.in_ok-own_ref.ensures ∙ ap (λ (l : List ℕ). own_ref l c.as_slice-zeros.result.now) c.as_str.ensures.value ∙
    ap (λ (h : List ℕ). own_ref c.assertion-item.result.label h) (c.as_slice-zeros.ensures ∙ c.zeros-blank.ensures)))
    c.loop-assertion.invariant

pub returns : goal.returns
returns c =
    made_end (entry_of (no_digest c.args.alg)) c.args.all.now c.loop-assertion.assertion-index _ _
    c.loop-assertion-test.false c.loop-assertion.invariant

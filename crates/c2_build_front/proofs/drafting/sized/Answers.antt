use Rattle.std.proofs.Common.{ap, subst, sym, ◌+◌, ◌≤◌, ◌∙◌, ℕ, length}
use Rattle.c2_base.specs.declared.limits.TheConstants.{MAX_STORE_LEN}
use Rattle.c2_new_front_spec.specs.Order.{size_refusals}
use Rattle.c2_build_refusals.proofs.Outside.{outside_all}
use Rattle.c2_build_front.proofs.First.{file_is}
use Rattle.c2_build_front.specs.Steps.{IsFirstError, store_size}
use Rattle.c2_build_front.proofs.drafting.sized.Goals as goal

-- the new file is too long, or has too many root boxes
pub returns-in-Err-check_sizes-clause-refused : goal.returns-in-Err-check_sizes-clause-refused
returns-in-Err-check_sizes-clause-refused g c = λ file known short size.
    let d = c.args.definition.now in
    let e = c.in-Err-check_sizes.error in
    let len =
    file_is c.saturating_add-file_len.result c.in-Ok-size.size c.in-Ok.len (length file)
    c.saturating_add-file_len.ensures
    (c.in-Ok-size.ensures.length ∙ sym (g.met.A.Source.known_len c.args.media.now file known)) short
    c.in-Ok.ensures.small in
    let same = len ∙ ap (λ (n : ℕ). length file + (45 + n)) c.in-Ok.ensures.len in
    outside_all e (subst (λ (n : ℕ). IsFirstError (size_refusals (store_size d) n c.args.boxes) e) same
    (c.in-Err-check_sizes.ensures.refused (store_size d) (subst (λ (n : ℕ). n ≤ MAX_STORE_LEN) c.in-Ok.ensures.len c.in-Ok.ensures.small)))

use Rattle.std.proofs.Common.{◌≡◌, ◌+◌, ◌≤◌, ℕ, None, Some, refl, sym, ap, ◌∙◌, arith}
use Rattle.c2_base.specs.declared.limits.TheConstants.{MAX_STORE_LEN}
use Rattle.c2_spec.specs.declared.reason.Reason.TheVariants.{FileTooLarge}
use Rattle.c2_build_refusals.specs.Refusals.{new_range_len, new_store_len}
use Rattle.c2_build_refusals.specs.declared.error.BuildError.TheVariants.{MediaRefused, StoreTooLarge}
use Rattle.c2_build_refusals.proofs.Outside.{quiet_older}
use Rattle.c2_build_in_place.proofs.Numbered.{large_store, long_file, no_place, numbers_pass, point_range, point_store, told_is, told_small, too_many}
use Rattle.c2_build_in_place.proofs.numbers.draft_at.Goals as goal

-- nothing can be put in at the place
pub returns-in-Err-clause-refused : goal.returns-in-Err-clause-refused
returns-in-Err-clause-refused c =
    λ content base p told has at point. no_place c.args.size c.args.manifests content p c.in-Err.error (c.in-Err.ensures.refused base p at point)

-- there are too many manifests
pub returns-then-manifests-clause-refused : goal.returns-then-manifests-clause-refused
returns-then-manifests-clause-refused c =
    λ content base p told has at point. too_many c.args.size c.args.manifests content p (c.in-Ok.ensures.passed base p at point).passed (omega (arith, c.if-manifests.true))

-- the store is too large
pub returns-then-store_len-gt-MAX_STORE_LEN-clause-refused : goal.returns-then-store_len-gt-MAX_STORE_LEN-clause-refused
returns-then-store_len-gt-MAX_STORE_LEN-clause-refused c = λ content base p told has at point.
    let len : c.args.store_len ≡ new_store_len p content =
    told_is c.args.point.now content c.args.store_len told has
    ∙ sym (point_store c.args.point.now p content point) in
    large_store c.args.size c.args.manifests content p (c.in-Ok.ensures.passed base p at point).passed (omega (arith, c.if-manifests.false)) (omega (arith, len, c.if-store_len-gt-MAX_STORE_LEN.true)) ∙ ap (λ (n : ℕ). Some (StoreTooLarge n)) (sym len)

-- a store has its frame at least, and isn't too large here
pub range_len-length-requires : goal.range_len-length-requires
range_len-length-requires c =
    record { least = c.requires.least; most = omega (arith, c.if-store_len-gt-MAX_STORE_LEN.false) }

-- the file is too long
pub returns-then-file_len-ge-FILE_LEN_LIMIT-clause-refused : goal.returns-then-file_len-ge-FILE_LEN_LIMIT-clause-refused
returns-then-file_len-ge-FILE_LEN_LIMIT-clause-refused c = λ content base p told has at point.
    let small : c.args.store_len ≤ MAX_STORE_LEN = omega (arith, c.if-store_len-gt-MAX_STORE_LEN.false) in
    let own = told_small c.args.point.now content c.args.store_len told small in
    let len : c.args.store_len ≡ new_store_len p content = own ∙ sym (point_store c.args.point.now p content point) in
    let range : c.range_len-length.result ≡ new_range_len p content =
    c.range_len-length.ensures.len content (sym own) ∙ sym (point_range c.args.point.now p content point) in
    let size : c.args.size + c.range_len-length.result ≡ c.args.size + new_range_len p content =
    ap (λ (n : ℕ). c.args.size + n) range in
    long_file c.args.size c.args.manifests content p (c.in-Ok.ensures.passed base p at point).passed (omega (arith, c.if-manifests.false)) (omega (arith, len, small))
    (omega (arith, size, c.if-file_len-ge-FILE_LEN_LIMIT.true))
    ∙ ap (λ (n : ℕ). Some (MediaRefused FileTooLarge n)) (sym size)

-- the file has too many boxes
pub returns-in-Err-check_boxes-clause-refused : goal.returns-in-Err-check_boxes-clause-refused
returns-in-Err-check_boxes-clause-refused c = λ content base p told has at point.
    let small : c.args.store_len ≤ MAX_STORE_LEN = omega (arith, c.if-store_len-gt-MAX_STORE_LEN.false) in
    let own = told_small c.args.point.now content c.args.store_len told small in
    let len : c.args.store_len ≡ new_store_len p content = own ∙ sym (point_store c.args.point.now p content point) in
    let range : c.range_len-length.result ≡ new_range_len p content =
    c.range_len-length.ensures.len content (sym own) ∙ sym (point_range c.args.point.now p content point) in
    numbers_pass c.args.size c.args.manifests content p (Some c.in-Err-check_boxes.error) (c.in-Ok.ensures.passed base p at point).passed (omega (arith, c.if-manifests.false))
    (omega (arith, len, small)) (omega (arith, range, c.if-file_len-ge-FILE_LEN_LIMIT.false)) (c.in-Err-check_boxes.ensures.refused p point)

-- no test fails
pub returns-in-Ok-check_boxes-clause-passed : goal.returns-in-Ok-check_boxes-clause-passed
returns-in-Ok-check_boxes-clause-passed c = λ content base p told at point.
    let small : c.args.store_len ≤ MAX_STORE_LEN = omega (arith, c.if-store_len-gt-MAX_STORE_LEN.false) in
    let own = told_small c.args.point.now content c.args.store_len told small in
    let len : c.args.store_len ≡ new_store_len p content = own ∙ sym (point_store c.args.point.now p content point) in
    let range : c.range_len-length.result ≡ new_range_len p content =
    c.range_len-length.ensures.len content (sym own) ∙ sym (point_range c.args.point.now p content point) in
    numbers_pass c.args.size c.args.manifests content p None (c.in-Ok.ensures.passed base p at point).passed (omega (arith, c.if-manifests.false)) (omega (arith, len, small))
    (omega (arith, range, c.if-file_len-ge-FILE_LEN_LIMIT.false)) (c.in-Ok-check_boxes.ensures.passed p point)

-- these are its numbers
pub returns-in-Ok-check_boxes-clause-draft : goal.returns-in-Ok-check_boxes-clause-draft
returns-in-Ok-check_boxes-clause-draft c = λ content told.
    let small : c.args.store_len ≤ MAX_STORE_LEN = omega (arith, c.if-store_len-gt-MAX_STORE_LEN.false) in
    let own = told_small c.args.point.now content c.args.store_len told small in
    record { length = c.range_len-length.ensures.len content (sym own); size = refl; small = omega (arith, own, small); inside = c.in-Ok.ensures.inside c.args.size c.requires.inside; fitted = c.in-Ok.ensures.passed }

-- ---- such an error says where it comes from

pub returns-in-Err-check_boxes-clause-quiet : goal.returns-in-Err-check_boxes-clause-quiet
returns-in-Err-check_boxes-clause-quiet c = quiet_older _ c.in-Err-check_boxes.ensures.quiet

use Rattle.std.proofs.Common.{◌≡◌, ◌∙◌, ℕ, length, subst, sym, arith}
use Rattle.std.specs.Prelude.{All}
use Rattle.c2_base.specs.declared.media.MediaError.TheVariants.{FileTooLarge}
use Rattle.c2_bmff_boxes.specs.Causes.{IsRootsCause}
use Rattle.c2_bmff_rows.specs.Faults.{FirstRootsFault, too_large, not_media, root}
use Rattle.c2_bmff_rows.specs.Rows.{IsBoxWithin}
use Rattle.c2_bmff_boxes.proofs.Filling.{fill_headed, fill_within}
use Rattle.c2_bmff_boxes.proofs.WalkLemmas.{outside_map}
use Rattle.c2_bmff_boxes.proofs.reading.roots.Goals as goal

-- in a file of 2^62 bytes or more, its size is the first test to fail
pub returns-then-size-ge-FILE_LEN_LIMIT-clause-refused : goal.returns-then-size-ge-FILE_LEN_LIMIT-clause-refused
returns-then-size-ge-FILE_LEN_LIMIT-clause-refused g c file known =
    let len : length file ≡ c.in_ok-size.size =
    g.met.S.Source.known_len c.args.source.now file known ∙ sym c.in_ok-size.ensures.length in
    subst (λ n. FirstRootsFault file (FileTooLarge n)) len
    (too_large (omega (arith, len, c.if-size-ge-FILE_LEN_LIMIT.true)))

-- in a smaller file that doesn't begin as BMFF, that is the first test to fail
pub returns-then-not-branch-clause-refused : goal.returns-then-not-branch-clause-refused
returns-then-not-branch-clause-refused g c file known =
    let len : length file ≡ c.in_ok-size.size =
    g.met.S.Source.known_len c.args.source.now file known ∙ sym c.in_ok-size.ensures.length in
    not_media (omega (arith, len, c.if-size-ge-FILE_LEN_LIMIT.false))
    (c.in_ok-is_bmff.ensures.begins file (c.in_ok-size.ensures.stays.same_bytes ∙ known) ∙ c.if-not-branch.true)

-- in a smaller BMFF file, the first test to fail is that of the walk over its root boxes
pub returns-in-Err-clause-refused : goal.returns-in-Err-clause-refused
returns-in-Err-clause-refused g c file known =
    let len : length file ≡ c.in_ok-size.size =
    g.met.S.Source.known_len c.args.source.now file known ∙ sym c.in_ok-size.ensures.length in
    let first = c.in_ok-size.ensures.stays.same_bytes ∙ known in
    outside_map c.in-Err.error
    (root c.in-Err.error (omega (arith, len, c.if-size-ge-FILE_LEN_LIMIT.false)) (c.in_ok-is_bmff.ensures.begins file first ∙ c.if-not-branch.false))
    (c.in-Err.ensures.fault file (c.in_ok-is_bmff.ensures.stays.same_bytes ∙ first))

-- root boxes that fill the source have headers, and fill a file
pub invariant_of-result : goal.invariant_of-result
invariant_of-result g c = (
  fill_headed c.in_ok-size.size 0 c.in-Ok.rows.items c.in-Ok.ensures.fill,
  record { low = 0; size = c.in_ok-size.size; fill = c.in-Ok.ensures.fill; small = omega (arith, c.if-size-ge-FILE_LEN_LIMIT.false) },
)

-- and end in it
pub returns-in-Ok-clause-inside : goal.returns-in-Ok-clause-inside
returns-in-Ok-clause-inside g c =
    subst (λ (n : ℕ). All (IsBoxWithin n) c.in-Ok.rows.items) c.in_ok-size.ensures.length
    (fill_within c.in_ok-size.size 0 c.in-Ok.rows.items c.in-Ok.ensures.fill)

-- a source that is too long is refused with its length
pub returns-then-size-ge-FILE_LEN_LIMIT-clause-cause : goal.returns-then-size-ge-FILE_LEN_LIMIT-clause-cause
returns-then-size-ge-FILE_LEN_LIMIT-clause-cause g c =
    (c.in_ok-size.ensures.length, omega (arith, c.in_ok-size.ensures.length, c.if-size-ge-FILE_LEN_LIMIT.true), c.in_ok-size.ensures.cause.ok)

-- a shorter one that doesn't begin as BMFF, for that
pub returns-then-not-branch-clause-cause : goal.returns-then-not-branch-clause-cause
returns-then-not-branch-clause-cause g c =
    (omega (arith, c.in_ok-size.ensures.length, c.if-size-ge-FILE_LEN_LIMIT.false), c.in_ok-is_bmff.ensures.cause.ok ∙ c.in_ok-size.ensures.cause.ok)

-- one of its root boxes is refused
pub returns-in-Err-clause-cause : goal.returns-in-Err-clause-cause
returns-in-Err-clause-cause g c =
    let size = c.in_ok-size.ensures in
    let begins = c.in_ok-is_bmff.ensures in
    let len = g.S.Source.len in
    let faults = g.S.Source.faults in
    let new = c.walk.new.source in
    subst (λ n. IsRootsCause (len c.args.source.now) n (faults new) c.in-Err.error) (begins.cause.ok ∙ size.cause.ok)
    (subst (λ n. IsRootsCause n (faults c.is_bmff.new.source) (faults new) c.in-Err.error)
    (begins.stays.same_len ∙ size.stays.same_len) c.in-Err.ensures.reads.cause)

use Rattle.std.proofs.Common.{◌≡◌, ◌+◌, ◌-◌, length, drop, Some, sym, ap, ◌∙◌, arith}
use Rattle.std.proofs.lemmas.List.{length-drop}
use Rattle.c2_base.specs.declared.media.MediaError.TheVariants.{Truncated}
use Rattle.c2_bmff_boxes.specs.Heads.{media_error}
use Rattle.c2_bmff_boxes.proofs.HeaderLemmas.{head_of, fault_of, same_take}
use Rattle.c2_bmff_boxes.proofs.root_boxes.head_at.Goals as goal

-- the header that the first 16 bytes tell is that of the box at this position of the file
pub returns-in-Ok-clause-read : goal.returns-in-Ok-clause-read
returns-in-Ok-clause-read g c file known =
    let len : length file ≡ c.args.size = g.met.S.Source.known_len c.args.source.now file known ∙ sym c.requires.size in
    let left : length (drop c.args.at file) ≡ c.args.size - c.args.at =
    length-drop c.args.at file ∙ ap (λ n. n - c.args.at) len in
    head_of c.args.at (drop c.args.at file) _ _ c.in-Ok.head (c.in_ok-fill_first.ensures.filled file known ∙ same_take _ 16 (drop c.args.at file) (omega arith) (λ lt. omega (arith, lt, left))) (sym left) c.in-Ok.ensures.ok

-- where the header or its box ends after the file, the box's first fault is the file's end
pub returns-in-Err-Short-clause-read : goal.returns-in-Err-Short-clause-read
returns-in-Err-Short-clause-read g c file known =
    let len : length file ≡ c.args.size = g.met.S.Source.known_len c.args.source.now file known ∙ sym c.requires.size in
    let left : length (drop c.args.at file) ≡ c.args.size - c.args.at =
    length-drop c.args.at file ∙ ap (λ n. n - c.args.at) len in
    let whole : c.args.at + length (drop c.args.at file) ≡ c.args.size = omega (arith, left) in
    fault_of c.args.at (drop c.args.at file) _ _ c.in-Err-Short.field-0 (c.in_ok-fill_first.ensures.filled file known ∙ same_take _ 16 (drop c.args.at file) (omega arith) (λ lt. omega (arith, lt, left))) (sym left) c.in-Err-Short.ensures.err
    ∙ ap (λ e. Some (media_error c.args.at (length (drop c.args.at file)) e)) c.in-Err-Short.field-0-is ∙ ap (λ n. Some (Truncated n)) whole

-- where its size can't be, or leaves no room for a user type, the box at this position is bad
pub returns-in-Err-Bad-clause-read : goal.returns-in-Err-Bad-clause-read
returns-in-Err-Bad-clause-read g c file known =
    let len : length file ≡ c.args.size = g.met.S.Source.known_len c.args.source.now file known ∙ sym c.requires.size in
    let left : length (drop c.args.at file) ≡ c.args.size - c.args.at =
    length-drop c.args.at file ∙ ap (λ n. n - c.args.at) len in
    fault_of c.args.at (drop c.args.at file) _ _ c.in-Err-Bad.field-0 (c.in_ok-fill_first.ensures.filled file known ∙ same_take _ 16 (drop c.args.at file) (omega arith) (λ lt. omega (arith, lt, left))) (sym left) c.in-Err-Bad.ensures.err
    ∙ ap (λ e. Some (media_error c.args.at (length (drop c.args.at file)) e)) c.in-Err-Bad.field-0-is

-- a header or box that ends after the source has the source's length
pub returns-in-Err-Short-clause-cause : goal.returns-in-Err-Short-clause-cause
returns-in-Err-Short-clause-cause g c =
    (c.requires.size, omega (arith, c.requires.size, c.requires.bounded), c.in_ok-fill_first.ensures.cause.ok)

-- a box that is bad begins in the source
pub returns-in-Err-Bad-clause-cause : goal.returns-in-Err-Bad-clause-cause
returns-in-Err-Bad-clause-cause g c =
    (omega (arith, c.requires.size, c.requires.inside), omega (arith, c.requires.size, c.requires.bounded), c.in_ok-fill_first.ensures.cause.ok)

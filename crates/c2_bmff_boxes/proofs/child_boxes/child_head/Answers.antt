use Rattle.std.proofs.Common.{◌≡◌, ◌∙◌, length, take, drop, sym, ap, arith}
use Rattle.std.proofs.lemmas.List.{length-drop, length-take-le}
use Rattle.c2_bmff_boxes.proofs.PartLemmas.{take_first}
use Rattle.c2_bmff_boxes.proofs.HeaderLemmas.{head_of}
use Rattle.c2_bmff_boxes.proofs.ChildLemmas.{open_head, bad_head}
use Rattle.c2_bmff_boxes.proofs.child_boxes.child_head.Goals as goal

-- a header that states no size is that of no child
pub returns-then-head-clause-read : goal.returns-then-head-clause-read
returns-then-head-clause-read g c file known =
    let len : length file ≡ g.S.Source.len c.args.source.now = g.met.S.Source.known_len c.args.source.now file known in
    let left : c.args.left ≡ length (take c.args.left (drop c.args.at file)) =
    sym
    (length-take-le c.args.left (drop c.args.at file) (omega (arith, len, length-drop c.args.at file, c.requires.inside))) in
    open_head (take c.args.left (drop c.args.at file)) _ c.args.left c.in-Ok.head (c.in_ok-fill_first.ensures.filled file known ∙ ap (λ n. take n (drop c.args.at file)) c.min-count.ensures ∙ take_first 16 c.args.left (drop c.args.at file)) left c.in-Ok.ensures.ok c.if-head.true

-- a header that states its size and passes is that of a child in what is left
pub returns-else-head-clause-read : goal.returns-else-head-clause-read
returns-else-head-clause-read g c file known =
    let len : length file ≡ g.S.Source.len c.args.source.now = g.met.S.Source.known_len c.args.source.now file known in
    let left : c.args.left ≡ length (take c.args.left (drop c.args.at file)) = sym (length-take-le c.args.left (drop c.args.at file) (omega (arith, len, length-drop c.args.at file, c.requires.inside))) in (
      head_of 0 (take c.args.left (drop c.args.at file)) _ c.args.left c.in-Ok.head (c.in_ok-fill_first.ensures.filled file known ∙ ap (λ n. take n (drop c.args.at file)) c.min-count.ensures ∙ take_first 16 c.args.left (drop c.args.at file)) left c.in-Ok.ensures.ok,
      c.if-head.false,
    )

-- where the header fails a test in what is left, no child stands there
pub returns-in-Err-clause-read : goal.returns-in-Err-clause-read
returns-in-Err-clause-read g c file known =
    let len : length file ≡ g.S.Source.len c.args.source.now = g.met.S.Source.known_len c.args.source.now file known in
    let left : c.args.left ≡ length (take c.args.left (drop c.args.at file)) =
    sym
    (length-take-le c.args.left (drop c.args.at file) (omega (arith, len, length-drop c.args.at file, c.requires.inside))) in
    bad_head (take c.args.left (drop c.args.at file)) _ c.args.left c.in-Err.field-0 (c.in_ok-fill_first.ensures.filled file known ∙ ap (λ n. take n (drop c.args.at file)) c.min-count.ensures ∙ take_first 16 c.args.left (drop c.args.at file)) left c.in-Err.ensures.err

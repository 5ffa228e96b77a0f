use Rattle.std.proofs.Common.{length, ◌≡◌, ◌∙◌, ◌&&◌, sym, ap, arith, eqb}
use Rattle.c2_jpegseg_segments.proofs.Starts.{too_short, begun_is}
use Rattle.c2_jpegseg_segments.proofs.loading.is_jpeg.Goals as goal
use borrow.Author.Tests.{ne_eqb}

pub returns-then-size-lt2-clause-begun : goal.returns-then-size-lt2-clause-begun
returns-then-size-lt2-clause-begun g c file known =
    let size : length file ≡ g.S.Source.len c.args.source.now = g.met.S.Source.known_len c.args.source.now file known in
    too_short file (omega arith)

pub returns-then-first-clause-begun : goal.returns-then-first-clause-begun
returns-then-first-clause-begun g c file known =
    let size : length file ≡ g.S.Source.len c.args.source.now = g.met.S.Source.known_len c.args.source.now file known in
    let first = c.in_ok-first.ensures.byte file known in
    let second = c.in_ok-second.ensures.byte file (c.in_ok-first.ensures.stays.same_bytes ∙ known) in
    begun_is file c.in_ok-first.first c.in_ok-second.second _ (omega arith) first second
    (sym (ap (λ n. eqb n 255 && eqb c.in_ok-second.second 216) c.if-first.true))

pub returns-else-first-clause-begun : goal.returns-else-first-clause-begun
returns-else-first-clause-begun g c file known =
    let size : length file ≡ g.S.Source.len c.args.source.now = g.met.S.Source.known_len c.args.source.now file known in
    let first = c.in_ok-first.ensures.byte file known in
    let second = c.in_ok-second.ensures.byte file (c.in_ok-first.ensures.stays.same_bytes ∙ known) in
    let other = ne_eqb c.in_ok-first.first 255 c.if-first.false in
    begun_is file c.in_ok-first.first c.in_ok-second.second _ (omega arith) first second
    (other ∙ sym (ap (λ t. t && eqb c.in_ok-second.second 216) other))

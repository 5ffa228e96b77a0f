use Rattle.std.proofs.Common.{◌≡◌, ◌≤◌, ◌+◌, ◌∙◌, subst, sym, length, ap}
use Rattle.c2_spec.proofs.Kept.{kept_around}
use Rattle.c2_cmd_reading.proofs.outside.digest_outside.Goals as goal

-- where the bytes are known, the digest is that of those before the range and those after it
pub returns-in-Ok-clause-digest : goal.returns-in-Ok-clause-digest
returns-in-Ok-clause-digest g c file known =
    let size : length file ≡ g.S.Source.len c.args.source.now = g.met.S.Source.known_len c.args.source.now file known in
    let fits : c.args.range.start + c.args.range.length ≤ length file =
    subst (λ n. c.args.range.start + c.args.range.length ≤ n) (sym size) c.requires.inside in
    c.in-Ok.ensures.digest file (c.in_ok-size.ensures.stays.same_bytes ∙ known)
    ∙ ap (g.H.Hashing.digest_of c.args.alg) (c.in_ok-cover.ensures.cover.text file ∙ kept_around c.args.range file fits)

use Rattle.std.proofs.Common.{◌≡◌, ◌+◌, ◌-◌, ap, sym, ◌∙◌, arith}
use Rattle.c2_cover.specs.Counted.{passing, is_out}
use Rattle.c2_cover.proofs.CountLemmas.{outside_split}
use Rattle.c2_cover.proofs.counts.outside_range.Goals as goal

-- the positions before `start` and those from `end` on are all of the range that lie outside
pub returns : goal.returns
returns c =
    let n : c.args.range.start + c.args.range.length - c.args.range.start ≡ c.args.range.length = omega arith in
    let all =
    outside_split c.args.range.start (c.args.range.start + c.args.range.length) c.args.start c.args.end
    (omega arith) c.requires.ordered in
    rw c.min.ensures
    (rw c.min-2.ensures (rw c.max.ensures (rw c.max-2.ensures (sym all ∙ ap (passing (is_out c.args.start c.args.end) c.args.range.start) n))))

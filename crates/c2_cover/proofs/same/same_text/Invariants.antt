use Rattle.std.proofs.Common.{◌≡◌, ◌<◌, ◌+◌, length}
use Rattle.std.specs.Prelude.{bytes_eq}
use Rattle.std.specs.Option.{ForSome}
use Rattle.c2_base.specs.Source.{StaysSource}
use Rattle.c2_cover.specs.Covers.{text_len, text_of}
use Rattle.c2_cover.specs.Unread.{Lies, unread, unread_len}
use Rattle.c2_cover.proofs.same.same_text.Given as goal

-- the covered texts are equal just when their unread bytes are, as many bytes of each are compared, and neither source has failed
abbrev pub invariant-pieces : goal.invariant-pieces
invariant-pieces g l = record {
  left : 0 < length l.left;
  right : 0 < length l.right;
  left_len : length l.left ≡ length l.fn.left;
  right_len : length l.right ≡ length l.fn.right;
  size : g.A.Source.len l.fn.first ≡ l.one.size;
  other_size : g.B.Source.len l.fn.second ≡ l.two.size;
  mine : Lies l.mine (length l.left);
  theirs : Lies l.theirs (length l.right);
  first_stays : StaysSource g.A.Source.len g.A.Source.known g.A.Source.faults l.fn.first l.first;
  second_stays : StaysSource g.B.Source.len g.B.Source.known g.B.Source.faults l.fn.second l.second;
  first_count : g.A.Source.faults l.first ≡ g.A.Source.faults l.fn.first;
  second_count : g.B.Source.faults l.second ≡ g.B.Source.faults l.fn.second;
  lengths : unread_len l.mine l.one + text_len l.other ≡ unread_len l.theirs l.two + text_len l.cover;
  same : ForSome (g.A.Source.known l.fn.first) (λ file. ForSome (g.B.Source.known l.fn.second) (λ copy. bytes_eq (text_of l.cover file) (text_of l.other copy) ≡ bytes_eq (unread l.mine l.left l.one file) (unread l.theirs l.right l.two copy)));
}

-- the bytes of the first covered text that aren't compared yet, which get fewer with each turn
abbrev pub decreases-pieces : goal.decreases-pieces
decreases-pieces g l = unread_len l.mine l.one

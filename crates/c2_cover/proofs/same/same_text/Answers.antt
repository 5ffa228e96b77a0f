use Rattle.std.proofs.Common.{◌≡◌, ◌≤◌, ℕ, ◌+◌, ◌-◌, ◌∙◌, Bool, ◌&&◌, List, ap, sym, arith, length}
use Rattle.std.specs.Prelude.{bytes_eq}
use Rattle.c2_base.proofs.Written.{source_stays}
use Rattle.c2_cover.specs.Covers.{text_of}
use Rattle.c2_cover.specs.Unread.{Lies, unread}
use Rattle.c2_cover.proofs.UnreadLemmas.{both_none, ended_at, compared, pending}
use Rattle.c2_cover.proofs.same.same_text.Goals as goal

-- where one text has ended, they are equal just when nothing of either is unread
pub returns-then-count-eq0-clause-same : goal.returns-then-count-eq0-clause-same
returns-then-count-eq0-clause-same g c file known copy known2 =
    let before = c.pieces.invariant in
    let one = before.first_stays.same_bytes ∙ known in
    let two = before.second_stays.same_bytes ∙ known2 in
    let lies : Lies c.in_ok-mine.mine (length c.refill.new.buf) =
    rw c.refill.auto.buf c.in_ok-mine.ensures.filled.lies in
    let lies2 : Lies c.in_ok-theirs.theirs (length c.refill-in-pieces.new.buf) =
    rw c.refill-in-pieces.auto.buf c.in_ok-theirs.ensures.filled.lies in
    let left : List ℕ = unread c.in_ok-mine.mine c.refill.new.buf c.refill.new.reader file in
    let right : List ℕ = unread c.in_ok-theirs.theirs c.refill-in-pieces.new.buf c.refill-in-pieces.new.reader copy in
    let now : bytes_eq (text_of c.args.cover.now file) (text_of c.args.other.now copy) ≡ bytes_eq left right =
    before.same file known copy known2
    ∙ ap (λ xs. bytes_eq xs (unread c.pieces.theirs c.pieces.right c.pieces.two copy))
    (sym (c.in_ok-mine.ensures.filled.same file one))
    ∙ ap (λ ys. bytes_eq left ys) (sym (c.in_ok-theirs.ensures.filled.same copy two)) in
    ended_at c.in_ok-mine.mine c.in_ok-theirs.theirs c.refill.new.buf c.refill-in-pieces.new.buf c.refill.new.reader
    c.refill-in-pieces.new.reader file copy lies lies2 (sym c.min-count.ensures ∙ c.if-count-eq0.true)
    (λ e. c.in_ok-mine.ensures.filled.end e file one) (λ e. c.in_ok-theirs.ensures.filled.end e copy two)
    ∙ sym now

-- where neither has an unread byte, all of both are compared
pub returns-then-count-eq0-clause-lengths : goal.returns-then-count-eq0-clause-lengths
returns-then-count-eq0-clause-lengths g c e =
    let mine = c.in_ok-mine.ensures.filled in
    let theirs = c.in_ok-theirs.ensures.filled in
    let o = mine.lies.ordered in
    let k = theirs.lies.ordered in
    let both = both_none _ _ (sym c.min-count.ensures ∙ c.if-count-eq0.true) e in
    omega
    (arith, c.pieces.invariant.lengths, mine.left, theirs.left, mine.none (omega (arith, o, both.0)), theirs.none (omega (arith, k, both.1)), both.0, both.1)

-- covered texts that differ in the bytes compared here aren't equal
pub returns-then-not-same_slices-clause-same : goal.returns-then-not-same_slices-clause-same
returns-then-not-same_slices-clause-same g c file known copy known2 =
    let before = c.pieces.invariant in
    let one = before.first_stays.same_bytes ∙ known in
    let two = before.second_stays.same_bytes ∙ known2 in
    let lies : Lies c.in_ok-mine.mine (length c.refill.new.buf) =
    rw c.refill.auto.buf c.in_ok-mine.ensures.filled.lies in
    let lies2 : Lies c.in_ok-theirs.theirs (length c.refill-in-pieces.new.buf) =
    rw c.refill-in-pieces.auto.buf c.in_ok-theirs.ensures.filled.lies in
    let left : List ℕ = unread c.in_ok-mine.mine c.refill.new.buf c.refill.new.reader file in
    let right : List ℕ = unread c.in_ok-theirs.theirs c.refill-in-pieces.new.buf c.refill-in-pieces.new.reader copy in
    let now : bytes_eq (text_of c.args.cover.now file) (text_of c.args.other.now copy) ≡ bytes_eq left right =
    before.same file known copy known2
    ∙ ap (λ xs. bytes_eq xs (unread c.pieces.theirs c.pieces.right c.pieces.two copy))
    (sym (c.in_ok-mine.ensures.filled.same file one))
    ∙ ap (λ ys. bytes_eq left ys) (sym (c.in_ok-theirs.ensures.filled.same copy two)) in
    let mine = c.in_ok-mine.mine in
    let theirs = c.in_ok-theirs.theirs in
    let n : ℕ = c.min-count.result in
    let small : n ≤ mine.to - mine.from = omega (arith, c.min-count.ensures) in
    let small2 : n ≤ theirs.to - theirs.from = omega (arith, c.min-count.ensures) in
    let more : Bool =
    bytes_eq (unread (pending (mine.from + n) mine.to) c.refill.new.buf c.refill.new.reader file)
    (unread (pending (theirs.from + n) theirs.to) c.refill-in-pieces.new.buf c.refill-in-pieces.new.reader copy) in
    let prefixes =
    compared mine.from mine.to theirs.from theirs.to n c.refill.new.buf c.refill-in-pieces.new.buf c.refill.new.reader
    c.refill-in-pieces.new.reader file copy lies lies2 small small2 in
    sym (now ∙ prefixes ∙ ap (λ b. b && more) (sym c.if-not-same_slices.ensures))

-- after equal bytes, the covered texts are equal just when what is unread of them is
pub pieces-preserved : goal.pieces-preserved
pieces-preserved g c =
    let before = c.pieces.invariant in
    let mine = c.in_ok-mine.ensures in
    let theirs = c.in_ok-theirs.ensures in
    let len = c.refill.auto.buf in
    let len2 = c.refill-in-pieces.auto.buf in
    record {
      left = omega (arith, len, before.left);
      right = omega (arith, len2, before.right);
      left_len = len ∙ before.left_len;
      right_len = len2 ∙ before.right_len;
      size = before.size ∙ sym mine.same_size;
      other_size = before.other_size ∙ sym theirs.same_size;
      mine =
          record
          { ordered = omega (arith, c.min-count.ensures, mine.filled.lies.ordered); inside = omega (arith, len, mine.filled.lies.inside) };
      theirs =
          record
          { ordered = omega (arith, c.min-count.ensures, theirs.filled.lies.ordered); inside = omega (arith, len2, theirs.filled.lies.inside) };
      first_stays = record {
        same_len = mine.stays.same_len ∙ before.first_stays.same_len;
        same_bytes = mine.stays.same_bytes ∙ before.first_stays.same_bytes;
        later = omega (arith, mine.stays.later, before.first_stays.later);
      };
      second_stays = record {
        same_len = theirs.stays.same_len ∙ before.second_stays.same_len;
        same_bytes = theirs.stays.same_bytes ∙ before.second_stays.same_bytes;
        later = omega (arith, theirs.stays.later, before.second_stays.later);
      };
      first_count = mine.cause.ok ∙ before.first_count;
      second_count = theirs.cause.ok ∙ before.second_count;
      lengths =
          omega
          (arith, before.lengths, mine.filled.left, theirs.filled.left, c.min-count.ensures, mine.filled.lies.ordered, theirs.filled.lies.ordered);
      same = λ file known copy known2.
          let before = c.pieces.invariant in
          let one = before.first_stays.same_bytes ∙ known in
          let two = before.second_stays.same_bytes ∙ known2 in
          let lies : Lies c.in_ok-mine.mine (length c.refill.new.buf) =
          rw c.refill.auto.buf c.in_ok-mine.ensures.filled.lies in
          let lies2 : Lies c.in_ok-theirs.theirs (length c.refill-in-pieces.new.buf) =
          rw c.refill-in-pieces.auto.buf c.in_ok-theirs.ensures.filled.lies in
          let left : List ℕ = unread c.in_ok-mine.mine c.refill.new.buf c.refill.new.reader file in
          let right : List ℕ =
          unread c.in_ok-theirs.theirs c.refill-in-pieces.new.buf c.refill-in-pieces.new.reader copy in
          let now : bytes_eq (text_of c.args.cover.now file) (text_of c.args.other.now copy) ≡ bytes_eq left right =
          before.same file known copy known2
          ∙ ap (λ xs. bytes_eq xs (unread c.pieces.theirs c.pieces.right c.pieces.two copy))
          (sym (c.in_ok-mine.ensures.filled.same file one))
          ∙ ap (λ ys. bytes_eq left ys) (sym (c.in_ok-theirs.ensures.filled.same copy two)) in
          let mine = c.in_ok-mine.mine in
          let theirs = c.in_ok-theirs.theirs in
          let n : ℕ = c.min-count.result in
          let small : n ≤ mine.to - mine.from = omega (arith, c.min-count.ensures) in
          let small2 : n ≤ theirs.to - theirs.from = omega (arith, c.min-count.ensures) in
          let more : Bool =
          bytes_eq (unread (pending (mine.from + n) mine.to) c.refill.new.buf c.refill.new.reader file)
          (unread (pending (theirs.from + n) theirs.to) c.refill-in-pieces.new.buf c.refill-in-pieces.new.reader copy) in
          let prefixes =
          compared mine.from mine.to theirs.from theirs.to n c.refill.new.buf c.refill-in-pieces.new.buf c.refill.new.reader
          c.refill-in-pieces.new.reader file copy lies lies2 small small2 in
          now ∙ prefixes ∙ ap (λ b. b && more) (sym c.if-not-same_slices.ensures);
    }

-- what the calls leave of each source
pub returns-then-count-eq0-clause-first : goal.returns-then-count-eq0-clause-first
returns-then-count-eq0-clause-first g c = record {
  stays =
      source_stays g.A.Source.len g.A.Source.known g.A.Source.faults c.args.first.now c.pieces.first
      c.refill.new.source c.pieces.invariant.first_stays c.in_ok-mine.ensures.stays;
  quiet = c.in_ok-mine.ensures.cause.ok ∙ c.pieces.invariant.first_count;
  cause = tt;
}

pub returns-then-count-eq0-clause-second : goal.returns-then-count-eq0-clause-second
returns-then-count-eq0-clause-second g c = record {
  stays =
      source_stays g.B.Source.len g.B.Source.known g.B.Source.faults c.args.second.now c.pieces.second
      c.refill-in-pieces.new.source c.pieces.invariant.second_stays c.in_ok-theirs.ensures.stays;
  quiet = c.in_ok-theirs.ensures.cause.ok ∙ c.pieces.invariant.second_count;
  cause = tt;
}

pub returns-then-not-same_slices-clause-first : goal.returns-then-not-same_slices-clause-first
returns-then-not-same_slices-clause-first g c = record {
  stays =
      source_stays g.A.Source.len g.A.Source.known g.A.Source.faults c.args.first.now c.pieces.first
      c.refill.new.source c.pieces.invariant.first_stays c.in_ok-mine.ensures.stays;
  quiet = c.in_ok-mine.ensures.cause.ok ∙ c.pieces.invariant.first_count;
  cause = tt;
}

pub returns-then-not-same_slices-clause-second : goal.returns-then-not-same_slices-clause-second
returns-then-not-same_slices-clause-second g c = record {
  stays =
      source_stays g.B.Source.len g.B.Source.known g.B.Source.faults c.args.second.now c.pieces.second
      c.refill-in-pieces.new.source c.pieces.invariant.second_stays c.in_ok-theirs.ensures.stays;
  quiet = c.in_ok-theirs.ensures.cause.ok ∙ c.pieces.invariant.second_count;
  cause = tt;
}

-- the buffer isn't empty, and what is pending lies in it
pub refill-requires : goal.refill-requires
refill-requires g c =
    let before = c.pieces.invariant in
    record { room = before.left; size = before.first_stays.same_len ∙ before.size; lies = before.mine }

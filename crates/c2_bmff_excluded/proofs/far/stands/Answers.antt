use Rattle.std.proofs.Common.{◌≡◌, ◌∙◌, ◌+◌, ◌-◌, ◌≤◌, ◌&&◌, true, false, ℕ, List, [], ◌∷◌, length, take, drop, refl, sym, ap, arith}
use Rattle.std.specs.Prelude.{bytes_eq}
use Rattle.std.proofs.lemmas.List.{length-drop, take_all}
use Rattle.c2_bmff_excluded.specs.Marks.{stands_at}
use Rattle.c2_bmff_excluded.proofs.MarkLemmas.{stands_split}
use Rattle.c2_bmff_excluded.proofs.WindowLemmas.{window_piece}
use Rattle.c2_bmff_excluded.proofs.far.stands.Goals as goal

-- where one piece of the value differs, the value doesn't stand in the file
pub returns-then-not-is_same_at-clause-stands : goal.returns-then-not-is_same_at-clause-stands
returns-then-not-is_same_at-clause-stands g c file known =
    let before = c.pieces.invariant in
    let call = c.in_ok-last.ensures in
    let len : length file ≡ g.S.Source.len c.args.source.now = g.met.S.Source.known_len c.args.source.now file known in
    let n = c.min-count.result in
    let w = c.in_ok-last.last in
    let rest : List ℕ = c.pieces.rest.now in
    let split =
    stands_split file c.pieces.at rest n (omega (arith, c.min-count.ensures))
    (omega (arith, len, c.requires.inside, c.requires.end, before.inside)) in
    let piece =
    window_piece file c.window_at.new.bytes w c.pieces.at (c.pieces.at - w.start) n
    (call.window file (before.stays.same_bytes ∙ known)) (omega (arith, call.there.0))
    (omega (arith, call.there.0, call.there.1, c.min-count.ensures)) in
    let front : bytes_eq (take n (drop c.pieces.at file)) (take n rest) ≡ false =
    ap (λ (xs : List ℕ). bytes_eq xs (take n rest)) (sym piece) ∙ sym c.is_same_at.ensures
    ∙ c.if-not-is_same_at.true in
    sym (before.same file known ∙ split ∙ ap (λ b. b && stands_at file (c.pieces.at + n) (drop n rest)) front)

-- where a piece is the same, the value stands there just when what is left of it stands after it
pub pieces-preserved : goal.pieces-preserved
pieces-preserved g c =
    let before = c.pieces.invariant in
    let call = c.in_ok-last.ensures in
    let n = c.min-count.result in
    let w = c.in_ok-last.last in
    let rest : List ℕ = c.pieces.rest.now in
    let tail : take (length rest - n) (drop n rest) ≡ drop n rest =
    take_all (length rest - n) (drop n rest) (omega (arith, length-drop n rest)) in
    record {
      inside = omega (arith, ap length tail, length-drop n rest, c.min-count.ensures, before.inside);
      stays =
          record
          { same_len = call.stays.same_len ∙ before.stays.same_len; same_bytes = call.stays.same_bytes ∙ before.stays.same_bytes; later = omega (arith, call.stays.later, before.stays.later) };
      count = call.cause.ok ∙ before.count;
      same = λ file known.
          let len : length file ≡ g.S.Source.len c.args.source.now =
          g.met.S.Source.known_len c.args.source.now file known in
          let split =
          stands_split file c.pieces.at rest n (omega (arith, c.min-count.ensures))
          (omega (arith, len, c.requires.inside, c.requires.end, before.inside)) in
          let piece =
          window_piece file c.window_at.new.bytes w c.pieces.at (c.pieces.at - w.start) n
          (call.window file (before.stays.same_bytes ∙ known)) (omega (arith, call.there.0))
          (omega (arith, call.there.0, call.there.1, c.min-count.ensures)) in
          let front : bytes_eq (take n (drop c.pieces.at file)) (take n rest) ≡ true =
          ap (λ (xs : List ℕ). bytes_eq xs (take n rest)) (sym piece) ∙ sym c.is_same_at.ensures
          ∙ c.if-not-is_same_at.false in
          before.same file known ∙ split ∙ ap (λ b. b && stands_at file (c.pieces.at + n) (drop n rest)) front ∙ ap (stands_at file (c.pieces.at + n)) (sym tail);
      few = call.few;
      window = λ file known. call.window file (before.stays.same_bytes ∙ known);
    }

-- a value of no bytes stands everywhere
none_stands : (file : List ℕ) (at : ℕ) (rest : List ℕ) → length rest ≤ 0 → stands_at file at rest ≡ true
none_stands file at [] none = refl
none_stands file at (x ∷ xs) none = absurd (omega (arith, none))

-- where nothing is left of the value, it stands in the file
pub returns-clause-stands : goal.returns-clause-stands
returns-clause-stands g c file known =
    sym
    (c.pieces.invariant.same file known ∙ none_stands file c.pieces.at c.pieces.rest.now (omega (arith, c.pieces-test.false)))

-- at first the whole value is left
pub pieces-init : goal.pieces-init
pieces-init g c = record {
  inside = omega arith;
  stays = record { same_len = refl; same_bytes = refl; later = omega arith };
  count = refl;
  same = λ file known. refl;
  few = c.requires.few;
  window = c.requires.window;
}

-- a piece is looked for before the end, and the window has bytes of the file
pub window_at-requires : goal.window_at-requires
window_at-requires g c =
    let before = c.pieces.invariant in
    record {
      inside = omega (arith, before.inside, c.requires.inside, c.pieces-test.true);
      end = omega (arith, before.stays.same_len, c.requires.end);
      few = before.few;
      window = λ file known. before.window file (sym before.stays.same_bytes ∙ known);
    }

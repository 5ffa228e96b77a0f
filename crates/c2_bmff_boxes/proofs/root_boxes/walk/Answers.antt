use Rattle.std.proofs.Common.{◌≡◌, ◌∙◌, ◌+◌, ◌<◌, ◌≤◌, [], ◌∷◌, ◌++◌, length, drop, sym, ap, refl, subst, arith, length-append}
use Rattle.c2_base.specs.declared.media.MediaError.TheVariants.{TooManyBoxes}
use Rattle.c2_spec.specs.Bmff.Boxes.{most_roots}
use Rattle.c2_bmff_boxes.specs.Causes.{IsRootsCause}
use Rattle.c2_bmff_boxes.specs.Roots.{FillSource, Walks, row_at}
use Rattle.c2_lemmas.proofs.Bytes.{are_bytes}
use Rattle.c2_bmff_boxes.proofs.Filling.{fill_count, fill_more}
use Rattle.c2_bmff_boxes.proofs.WalkLemmas.{many_fault, outside_map, room_fault, walks_end, walks_fault, walks_more, walks_start}
use Rattle.c2_bmff_boxes.proofs.root_boxes.walk.Goals as goal

-- before the first root box, the walk stands at position 0 and has no rows
pub boxes-init : goal.boxes-init
boxes-init g c =
    let none = c.new-rows.ensures.items in
    record {
      inside = omega arith;
      stays = record { same_len = refl; same_bytes = refl; later = omega arith };
      count = refl;
      fill = subst (FillSource 0 0) (sym none) refl;
      few = omega (arith, ap length none);
      walked = λ file known. subst (Walks file 0) (sym none) (walks_start file);
    }

-- as many root boxes as a file may have, and a byte after them, are too many
pub returns-then-len-ge-MAX_ROOT_BOXES-clause-fault : goal.returns-then-len-ge-MAX_ROOT_BOXES-clause-fault
returns-then-len-ge-MAX_ROOT_BOXES-clause-fault g c file known =
    let len : length file ≡ c.args.size = g.met.S.Source.known_len c.args.source.now file known ∙ sym c.requires.size in
    let many : most_roots ≤ length c.boxes.rows.items = omega (arith, c.if-len-ge-MAX_ROOT_BOXES.true, c.len.ensures) in
    walks_fault file c.boxes.at c.boxes.rows.items TooManyBoxes (c.boxes.invariant.walked file known)
    (omega (arith, len, c.boxes-test.true)) c.boxes.invariant.few
    (many_fault (length c.boxes.rows.items) c.boxes.at (drop c.boxes.at file) many)

-- a root box that fails its tests is the first fault of the file
pub returns-in-Err-clause-fault : goal.returns-in-Err-clause-fault
returns-in-Err-clause-fault g c file known =
    let len : length file ≡ c.args.size = g.met.S.Source.known_len c.args.source.now file known ∙ sym c.requires.size in
    let few : length c.boxes.rows.items < most_roots = omega (arith, c.if-len-ge-MAX_ROOT_BOXES.false, c.len.ensures) in
    outside_map c.in-Err.error
    (λ fails. walks_fault file c.boxes.at c.boxes.rows.items c.in-Err.error (c.boxes.invariant.walked file known) (omega (arith, len, c.boxes-test.true)) c.boxes.invariant.few (room_fault (length c.boxes.rows.items) c.boxes.at (drop c.boxes.at file) c.in-Err.error few fails))
    (c.in-Err.ensures.read file (c.boxes.invariant.stays.same_bytes ∙ known))

-- with the row of one root box more, the rows are those of the boxes up to that box's end
pub boxes-preserved : goal.boxes-preserved
boxes-preserved g c =
    let before = c.boxes.invariant in
    let call = c.in-Ok.ensures in
    let more = c.in_ok-keep.ensures in
    let few : length c.boxes.rows.items < most_roots = omega (arith, c.if-len-ge-MAX_ROOT_BOXES.false, c.len.ensures) in
    let one : length (c.boxes.rows.items ++ row_at c.boxes.at c.in-Ok.head ∷ []) ≡ length c.boxes.rows.items + 1 =
    length-append c.boxes.rows.items (row_at c.boxes.at c.in-Ok.head ∷ []) in
    record {
      inside = call.within.1;
      stays = record {
        same_len = call.stays.same_len ∙ before.stays.same_len;
        same_bytes = call.stays.same_bytes ∙ before.stays.same_bytes;
        later = omega (arith, call.stays.later, before.stays.later);
      };
      count = call.count ∙ before.count;
      fill =
          subst (FillSource (c.boxes.at + c.in-Ok.head.length) 0) (sym more)
          (fill_more c.boxes.at 0 c.boxes.rows.items (row_at c.boxes.at c.in-Ok.head) before.fill refl call.within.2 call.within.0);
      few = omega (arith, ap length more, one, few);
      walked = λ file known.
          let len : length file ≡ c.args.size =
          g.met.S.Source.known_len c.args.source.now file known ∙ sym c.requires.size in
          let bytes = are_bytes file (g.met.S.Source.known_bytes c.args.source.now file known) in
          subst (Walks file (c.boxes.at + c.in-Ok.head.length)) (sym more)
          (walks_more file c.boxes.at c.boxes.rows.items c.in-Ok.head (before.walked file known) bytes
          (omega (arith, len, c.requires.bounded)) (omega (arith, len, c.boxes-test.true))
          (call.read file (before.stays.same_bytes ∙ known)));
    }

-- where the walk has reached the end of the file, the rows are those of its root boxes
pub returns-clause-walked : goal.returns-clause-walked
returns-clause-walked g c file known =
    let len : length file ≡ c.args.size = g.met.S.Source.known_len c.args.source.now file known ∙ sym c.requires.size in
    walks_end file c.boxes.at c.boxes.rows.items (c.boxes.invariant.walked file known)
    (omega (arith, len, c.boxes-test.false)) (omega (arith, len, c.requires.bounded)) (c.requires.begins file known)
    c.boxes.invariant.few

-- so many boxes have 8 bytes each, and a byte follows
pub returns-then-len-ge-MAX_ROOT_BOXES-clause-reads : goal.returns-then-len-ge-MAX_ROOT_BOXES-clause-reads
returns-then-len-ge-MAX_ROOT_BOXES-clause-reads g c =
    let before = c.boxes.invariant in
    let filled = fill_count c.boxes.at 0 c.boxes.rows.items before.fill in
    record {
      stays = before.stays;
      quiet = tt;
      cause = (
        omega (arith, filled, c.if-len-ge-MAX_ROOT_BOXES.true, c.len.ensures, c.boxes-test.true, c.requires.size),
        omega (arith, c.requires.size, c.requires.bounded),
        before.count,
      );
    }

-- a root box is refused where it stands
pub returns-in-Err-clause-reads : goal.returns-in-Err-clause-reads
returns-in-Err-clause-reads g c =
    let before = c.boxes.invariant in
    let call = c.in-Err.ensures in
    let len = g.S.Source.len in
    let faults = g.S.Source.faults in
    let new = c.head_at.new.source in
    record {
      stays = record {
        same_len = call.stays.same_len ∙ before.stays.same_len;
        same_bytes = call.stays.same_bytes ∙ before.stays.same_bytes;
        later = omega (arith, call.stays.later, before.stays.later);
      };
      quiet = tt;
      cause =
          subst (λ n. IsRootsCause (len c.args.source.now) n (faults new) c.in-Err.error) before.count
          (subst (λ n. IsRootsCause n (faults c.boxes.source) (faults new) c.in-Err.error) before.stays.same_len call.cause);
    }

use Rattle.std.proofs.Common.{◌≡◌, ◌∙◌, ℕ, ◌+◌, ◌-◌, ◌<◌, List, ◌∷◌, [], ◌++◌, length, take, drop, subst, sym, ap, refl, arith}
use Rattle.std.specs.Prelude.{IfSome}
use Rattle.std.specs.declared.option.Option.{Option}
use Rattle.std.proofs.lemmas.List.{length-drop}
use Rattle.c2_bmff_boxes.specs.declared.header.BoxHead.{BoxHead}
use Rattle.c2_bmff_boxes.specs.Children.{IsChildHead, IsHeadWithin, ListWalk, part_between}
use Rattle.c2_bmff_boxes.specs.Roots.{FillSource, row_at}
use Rattle.c2_bmff_boxes.proofs.ChildLemmas.{part_len, rest_is, walk_end, walk_more, walk_none, walk_start}
use Rattle.c2_bmff_boxes.proofs.Filling.{fill_more}
use Rattle.c2_bmff_boxes.proofs.child_boxes.list_between.Goals as goal

-- before the first box no bytes are walked, and there are no rows
pub boxes-init : goal.boxes-init
boxes-init g c =
    let none = c.new-rows.ensures.items in
    record {
      inside = omega arith;
      stays = record { same_len = refl; same_bytes = refl; later = omega arith };
      count = refl;
      fill =
          subst (FillSource (c.args.start + 0) c.args.start) (sym none) (let z : c.args.start ≡ c.args.start + 0 = omega arith in z);
      walked =
          λ file known. subst (ListWalk file c.args.start c.args.end 0) (sym none) (walk_start file c.args.start c.args.end);
    }

-- where no box that says its size stands next, there is no list
pub returns-in_default-clause-list : goal.returns-in_default-clause-list
returns-in_default-clause-list g c file known =
    let start = c.args.start in
    let end = c.args.end in
    let len = end - start in
    let size : length file ≡ g.S.Source.len c.args.source.now = g.met.S.Source.known_len c.args.source.now file known in
    let part : length (part_between file start end) ≡ len =
    part_len file start end c.requires.ordered (omega (arith, size, c.requires.inside)) in
    let rest : drop c.boxes.done (part_between file start end) ≡ take (len - c.boxes.done) (drop (start + c.boxes.done) file) =
    rest_is file start len c.boxes.done c.boxes.invariant.inside in
    let some : 0 < length (take (len - c.boxes.done) (drop (start + c.boxes.done) file)) =
    omega
    (arith, ap length (sym rest), length-drop c.boxes.done (part_between file start end), part, c.boxes-test.true) in
    sym (walk_none file start end c.boxes.done c.boxes.rows.items (take (len - c.boxes.done) (drop (start + c.boxes.done) file)) (c.boxes.invariant.walked file known) rest some
    (subst (IsChildHead (take (len - c.boxes.done) (drop (start + c.boxes.done) file))) c.in_default.is (c.in_ok-head.ensures.read file (c.boxes.invariant.stays.same_bytes ∙ known))))

-- with the row of the next box, the walk stands after that box
pub boxes-preserved : goal.boxes-preserved
boxes-preserved g c =
    let before = c.boxes.invariant in
    let start = c.args.start in
    let end = c.args.end in
    let len = end - start in
    let h = c.in-Some.head in
    let call = c.in_ok-head.ensures in
    let within : IsHeadWithin (len - c.boxes.done) h =
    subst (λ (o : Option BoxHead). IfSome o (IsHeadWithin (len - c.boxes.done))) c.in-Some.is call.within in
    let next : (start + c.boxes.done) + h.length ≡ start + (c.boxes.done + h.length) = omega arith in
    record {
      inside = omega (arith, within.1, c.boxes-test.true);
      stays =
          record
          { same_len = call.stays.same_len ∙ before.stays.same_len; same_bytes = call.stays.same_bytes ∙ before.stays.same_bytes; later = omega (arith, call.stays.later, before.stays.later) };
      count = call.cause.ok ∙ before.count;
      fill = subst (FillSource (start + (c.boxes.done + h.length)) start) (sym c.in_ok-keep.ensures)
          (subst (λ n. FillSource n start (c.boxes.rows.items ++ row_at (start + c.boxes.done) h ∷ [])) next (fill_more (start + c.boxes.done) start c.boxes.rows.items (row_at (start + c.boxes.done) h) before.fill refl within.2 within.0));
      walked = λ file known.
          let size : length file ≡ g.S.Source.len c.args.source.now =
          g.met.S.Source.known_len c.args.source.now file known in
          let part : length (part_between file start end) ≡ len =
          part_len file start end c.requires.ordered (omega (arith, size, c.requires.inside)) in
          let left : List ℕ = take (len - c.boxes.done) (drop (start + c.boxes.done) file) in
          let rest : drop c.boxes.done (part_between file start end) ≡ left =
          rest_is file start len c.boxes.done before.inside in
          let some : 0 < length left =
          omega (arith, ap length (sym rest), length-drop c.boxes.done (part_between file start end), part, c.boxes-test.true) in
          let head = subst (IsChildHead left) c.in-Some.is (call.read file (before.stays.same_bytes ∙ known)) in
          subst (ListWalk file start end (c.boxes.done + h.length)) (sym c.in_ok-keep.ensures)
          (walk_more file start end c.boxes.done c.boxes.rows.items left h (before.walked file known) rest some head.0 head.1
          (omega (arith, within.0, within.2)));
    }

-- where the boxes fill the bytes, their rows are those of the list
pub returns-clause-list : goal.returns-clause-list
returns-clause-list g c file known =
    let size : length file ≡ g.S.Source.len c.args.source.now = g.met.S.Source.known_len c.args.source.now file known in
    let part : length (part_between file c.args.start c.args.end) ≡ c.args.end - c.args.start =
    part_len file c.args.start c.args.end c.requires.ordered (omega (arith, size, c.requires.inside)) in
    walk_end file c.args.start c.args.end c.boxes.done c.boxes.rows.items (c.boxes.invariant.walked file known)
    (omega (arith, part, c.boxes-test.false))

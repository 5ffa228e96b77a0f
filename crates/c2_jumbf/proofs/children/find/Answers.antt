use Rattle.std.proofs.Common.{◌≡◌, ◌+◌, length, ◌++◌, ◌∷◌, [], lit<, sym, subst}
use Rattle.std.proofs.lemmas.List.{length_push}
use Rattle.std.proofs.lemmas.Iterator.Splits.{YieldsList-from_str_split}
use Rattle.std.proofs.lemmas.Iterator.Consumers.{YieldsList-turn, YieldsList-end}
use Rattle.c2_spec.specs.Jumbf.Boxes.{path_labels}
use Rattle.c2_jumbf.proofs.Records.{legal_here}
use Rattle.c2_jumbf.proofs.Leading.{Walked, walked_next, walked_none, walked_end, only_lead}
use Rattle.c2_jumbf.proofs.children.find.Goals as goal

pub loop-label-preserved : goal.loop-label-preserved
loop-label-preserved c =
    let road = YieldsList-from_str_split {s = c.into_iter-label-iterator.result} 0x2F c.args.path.now (lit< tt)
    (rw c.into_iter-label-iterator.ensures.into_iter_gives c.split-label-items.ensures.text)
    (rw c.into_iter-label-iterator.ensures.into_iter_gives c.split-label-items.ensures.has_more)
    (rw c.into_iter-label-iterator.ensures.into_iter_gives c.split-label-items.ensures.pattern) in
    let turn =
    YieldsList-turn road c.loop-label.yielded _ c.loop-label.yielded_by _ _ c.in-Some.label c.in-Some.is
    c.next.ensures.steps in
    let n : length c.loop-label.yielded + 1 ≡ length (c.loop-label.yielded ++ c.in-Some.label ∷ []) =
    sym (length_push c.loop-label.yielded c.in-Some.label) in
    record {
      can = tt;
      ends = tt;
      walked = subst (λ k. Walked c.args.tree.now c.args.start (path_labels c.args.path.now) k c.in-Some-labelled_child.next) n
          (walked_next c.args.tree.now c.args.start (path_labels c.args.path.now) (length c.loop-label.yielded) c.loop-label.at c.in-Some-labelled_child.next c.in-Some.label.now c.loop-label.invariant.walked c.labelled_child.ensures.legal turn c.in-Some-labelled_child.ensures.found);
    }

pub returns-in-None-labelled_child-clause-none : goal.returns-in-None-labelled_child-clause-none
returns-in-None-labelled_child-clause-none c =
    let road = YieldsList-from_str_split {s = c.into_iter-label-iterator.result} 0x2F c.args.path.now (lit< tt)
    (rw c.into_iter-label-iterator.ensures.into_iter_gives c.split-label-items.ensures.text)
    (rw c.into_iter-label-iterator.ensures.into_iter_gives c.split-label-items.ensures.has_more)
    (rw c.into_iter-label-iterator.ensures.into_iter_gives c.split-label-items.ensures.pattern) in
    let turn =
    YieldsList-turn road c.loop-label.yielded _ c.loop-label.yielded_by _ _ c.in-Some.label c.in-Some.is
    c.next.ensures.steps in
    walked_none c.args.tree.now c.args.start (path_labels c.args.path.now) (length c.loop-label.yielded) c.loop-label.at c.in-Some.label.now c.loop-label.invariant.walked turn c.in-None-labelled_child.ensures.none

pub returns-in-None-labelled_child-clause-only : goal.returns-in-None-labelled_child-clause-only
returns-in-None-labelled_child-clause-only c = λ i lead.
    let road = YieldsList-from_str_split {s = c.into_iter-label-iterator.result} 0x2F c.args.path.now (lit< tt)
    (rw c.into_iter-label-iterator.ensures.into_iter_gives c.split-label-items.ensures.text)
    (rw c.into_iter-label-iterator.ensures.into_iter_gives c.split-label-items.ensures.has_more)
    (rw c.into_iter-label-iterator.ensures.into_iter_gives c.split-label-items.ensures.pattern) in
    let turn =
    YieldsList-turn road c.loop-label.yielded _ c.loop-label.yielded_by _ _ c.in-Some.label c.in-Some.is
    c.next.ensures.steps in
    absurd (walked_none c.args.tree.now c.args.start (path_labels c.args.path.now) (length c.loop-label.yielded) c.loop-label.at c.in-Some.label.now c.loop-label.invariant.walked turn c.in-None-labelled_child.ensures.none i lead)

pub returns-clause-found : goal.returns-clause-found
returns-clause-found c =
    let road = YieldsList-from_str_split {s = c.into_iter-label-iterator.result} 0x2F c.args.path.now (lit< tt)
    (rw c.into_iter-label-iterator.ensures.into_iter_gives c.split-label-items.ensures.text)
    (rw c.into_iter-label-iterator.ensures.into_iter_gives c.split-label-items.ensures.has_more)
    (rw c.into_iter-label-iterator.ensures.into_iter_gives c.split-label-items.ensures.pattern) in
    let end =
    YieldsList-end road c.loop-label.yielded _ c.loop-label.yielded_by _ _ c.in-None.is c.next.ensures.steps in
    walked_end c.args.tree.now c.args.start (path_labels c.args.path.now) (length c.loop-label.yielded) c.loop-label.at
    c.loop-label.invariant.walked end.1

pub returns-clause-only : goal.returns-clause-only
returns-clause-only c =
    let road = YieldsList-from_str_split {s = c.into_iter-label-iterator.result} 0x2F c.args.path.now (lit< tt)
    (rw c.into_iter-label-iterator.ensures.into_iter_gives c.split-label-items.ensures.text)
    (rw c.into_iter-label-iterator.ensures.into_iter_gives c.split-label-items.ensures.has_more)
    (rw c.into_iter-label-iterator.ensures.into_iter_gives c.split-label-items.ensures.pattern) in
    let end =
    YieldsList-end road c.loop-label.yielded _ c.loop-label.yielded_by _ _ c.in-None.is c.next.ensures.steps in
    only_lead c.args.tree.now c.args.start (path_labels c.args.path.now) c.loop-label.at c.requires
    (legal_here c.tree.inside.bytes.now c.tree.inside.rows.items c.tree.inside.parsed c.args.tree.now c.tree.view_is)
    (walked_end c.args.tree.now c.args.start (path_labels c.args.path.now) (length c.loop-label.yielded) c.loop-label.at c.loop-label.invariant.walked end.1)

use Rattle.std.proofs.Common.{inl, inr, ⊎_elim, ℕ, List, length, subst, ◌+◌, arith, ◌≤◌}
use Rattle.std.proofs.lemmas.Result.{err_from_is_err_and}
use Rattle.std.proofs.lemmas.List.{take_rest}
use Rattle.c2_spec.specs.Jumbf.Faults.{TreeFault}
use Rattle.c2_jumbf.specs.Labels.{marked}
use Rattle.c2_jumbf.specs.Flat.{IsTreeAt, FaultAt}
use Rattle.c2_jumbf.proofs.Opening.{unlabelled_fault}
use Rattle.c2_jumbf.proofs.Trees.{filled_none, filled_more, filled_first}
use Rattle.c2_jumbf.proofs.Whole.{leaf_pushed, super_written, super_fault}
use Rattle.c2_jumbf.proofs.reading.+tree.Goals as goal

pub tree_at-returns-in_err-head-clause-err : goal.tree_at-returns-in_err-head-clause-err
tree_at-returns-in_err-head-clause-err t c =
    let p = err_from_is_err_and c.from_residual.result c.from_residual.ensures.1 in
    rw (p.1, p.2)
    (inr (unlabelled_fault c.args.region.now c.args.depth c.args.at (marked c.args.siblings.now) c.in_err-head.field-0.0 (λ earlier. TreeFault.head c.in_err-head.ensures.err)))

pub tree_at-returns-then-head-ne-JUMB-clause-ok : goal.tree_at-returns-then-head-ne-JUMB-clause-ok
tree_at-returns-then-head-ne-JUMB-clause-ok t c = leaf_pushed c.args.region.now c.in_ok-head.head (marked c.args.siblings.now) c.args.depth c.args.at c.len-index.result c.args.rows.now.items c.push.new.self.items
    (λ i. omega (arith, c.type_inv.region i)) (omega arith) c.in_ok-head.ensures.ok c.if-head-ne-JUMB.true
    c.in_ok-push.ensures.items (omega (arith, c.len-index.ensures, c.args.rows.now.ok.0))

pub tree_at-returns-in_err-trees_in-clause-err : goal.tree_at-returns-in_err-trees_in-clause-err
tree_at-returns-in_err-trees_in-clause-err t c =
    let p = err_from_is_err_and c.from_residual-in_err-trees_in.result c.from_residual-in_err-trees_in.ensures.1 in
    rw (p.1, p.2) (⊎_elim inl (λ f. inr (super_fault c.args.region.now c.in_ok-head.head (marked c.args.siblings.now) (marked c.open_super.new.siblings) c.args.depth c.args.at c.in_ok-from.from c.args.rows.now.items c.open_super.new.rows.items c.in_err-trees_in.field-0.0
    c.in_ok-head.ensures.ok c.if-head-ne-JUMB.false c.in_ok-from.ensures.ok f)) c.in_err-trees_in.ensures.err)

pub tree_at-index_mut-requires : goal.tree_at-index_mut-requires
tree_at-index_mut-requires t c =
    omega
    (arith, c.len-index.ensures, c.args.rows.now.ok.0, c.open_super.new.rows.ok.0, c.trees_in.new.rows.ok.0, c.in_ok-from.ensures.kept, c.in_ok-trees_in.ensures.kept)

pub tree_at-returns-clause-ok : goal.tree_at-returns-clause-ok
tree_at-returns-clause-ok t c = super_written c.args.region.now c.in_ok-head.head (marked c.args.siblings.now) (marked c.open_super.new.siblings) c.args.depth c.args.at c.in_ok-from.from c.args.rows.now.items c.open_super.new.rows.items c.trees_in.new.rows.items
    c.index_mut.result.now c.len-index.result c.len-after.result (λ i. omega (arith, c.type_inv.region i)) (omega arith)
    c.in_ok-head.ensures.ok c.if-head-ne-JUMB.false c.in_ok-from.ensures.ok c.in_ok-trees_in.ensures.ok
    c.index_mut.ensures.value (omega (arith, c.len-index.ensures, c.args.rows.now.ok.0))
    (omega (arith, c.len-after.ensures, c.trees_in.new.rows.ok.0))

pub trees_in-loop-from-init : goal.trees_in-loop-from-init
trees_in-loop-from-init t c =
    filled_none c.args.depth c.args.at c.args.payload.now (marked c.no_siblings-siblings.result) c.args.rows.now.items
    c.no_siblings-siblings.ensures

pub trees_in-loop-from-preserved : goal.trees_in-loop-from-preserved
trees_in-loop-from-preserved t c = filled_more c.args.depth c.args.at c.args.payload.now c.loop-from.from c.in-Ok.total (marked c.loop-from.siblings) (marked c.tree_at.new.siblings) c.args.rows.now.items c.loop-from.rows.items c.tree_at.new.rows.items
    c.loop-from.invariant c.loop-from-test.true c.in-Ok.ensures.within.0 (subst (λ (x : List ℕ). c.in-Ok.total ≤ length x) (take_rest c.args.payload.now c.loop-from.from) c.in-Ok.ensures.within.1)
    (subst (λ (x : List ℕ). IsTreeAt c.args.depth (c.args.at + c.loop-from.from) x c.in-Ok.total (marked c.loop-from.siblings) (marked c.tree_at.new.siblings) c.loop-from.rows.items c.tree_at.new.rows.items) (take_rest c.args.payload.now c.loop-from.from) c.in-Ok.ensures.ok)

pub trees_in-returns-in-Err-clause-err : goal.trees_in-returns-in-Err-clause-err
trees_in-returns-in-Err-clause-err t c =
    filled_first c.args.depth c.args.at c.args.payload.now c.loop-from.from (marked c.loop-from.siblings) (marked c.tree_at.new.siblings) c.args.rows.now.items c.loop-from.rows.items c.in-Err.fault c.first_fault.result c.loop-from.invariant c.loop-from-test.true
    (⊎_elim inl (λ x. inr (subst (λ (y : List ℕ). FaultAt c.args.depth (c.args.at + c.loop-from.from) y (marked c.loop-from.siblings) (marked c.tree_at.new.siblings) c.in-Err.fault) (take_rest c.args.payload.now c.loop-from.from) x)) c.in-Err.ensures.err)
    c.first_fault.ensures

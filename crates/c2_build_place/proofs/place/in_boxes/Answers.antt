use Rattle.std.proofs.Common.{ℕ, sym, subst, arith}
use Rattle.c2_bmff_boxes.specs.Roots.{FillSource}
use Rattle.c2_without_store.specs.Clears.{cleared_len, root_clearing}
use Rattle.c2_build_place.proofs.Points.{boxes_point, cleared_most}
use Rattle.c2_build_place.proofs.place.in_boxes.Goals as goal

-- the root boxes that are left are the place
pub returns-clause-point : goal.returns-clause-point
returns-clause-point c =
    λ bytes form roots found. boxes_point bytes (root_clearing c.args.found.now c.args.roots.now) c.in_ok-left.left form (c.in_ok-left.ensures.roots bytes roots found)

-- they end where what is left does
pub returns-clause-size : goal.returns-clause-size
returns-clause-size c =
    λ len fill. c.roots_len-size.ensures (cleared_len (root_clearing c.args.found.now c.args.roots.now) len) (c.in_ok-left.ensures.fill len fill)

-- so they fill it
pub returns-clause-inside : goal.returns-clause-inside
returns-clause-inside c =
    let w = c.requires in
    let fill = c.in_ok-left.ensures.fill w.0 w.2 in
    subst (λ (n : ℕ). FillSource n 0 c.in_ok-left.left)
    (sym (c.roots_len-size.ensures (cleared_len (root_clearing c.args.found.now c.args.roots.now) w.0) fill)) fill

-- which is no longer than the file was
pub returns-clause-short : goal.returns-clause-short
returns-clause-short c =
    let w = c.requires in
    let how = root_clearing c.args.found.now c.args.roots.now in
    omega
    (arith, c.roots_len-size.ensures (cleared_len how w.0) (c.in_ok-left.ensures.fill w.0 w.2), cleared_most how w.0, w.1)

use Rattle.std.proofs.Common.{◌≡◌, ◌∙◌, Bool, true, false, sym, subst, arith, length}
use Rattle.c2_spec.specs.Jumbf.Boxes.{box_at, any_contents, any_kind, any_wide}
use Rattle.c2_spec.specs.Jumbf.Tree.{FitsHead}
use Rattle.c2_parent.proofs.Contents.{wide_appended}
use Rattle.c2_parent.proofs.Walking.{box_fits, long_fits, short_fits}
use Rattle.c2_parent.proofs.boxes.append_head.Goals as goal

pub overflow_add-long : goal.overflow_add-long
overflow_add-long c =
    let b = (box_at c.args.tree.now c.args.i).box in
    let wide : any_wide b ≡ true = sym c.is_wide.ensures ∙ c.if-is_wide.true in
    let h =
    long_fits (any_kind b) (length (any_contents b))
    (subst (λ (w : Bool). FitsHead (any_kind b) w (length (any_contents b))) wide (box_fits c.args.tree.now c.args.i c.requires.inside c.count-count.ensures.legal)) in
    omega (arith, h, c.requires.fits)

pub overflow_add-short : goal.overflow_add-short
overflow_add-short c =
    let b = (box_at c.args.tree.now c.args.i).box in
    let wide : any_wide b ≡ false = sym c.is_wide.ensures ∙ c.if-is_wide.false in
    let h =
    short_fits (any_kind b) (length (any_contents b))
    (subst (λ (w : Bool). FitsHead (any_kind b) w (length (any_contents b))) wide (box_fits c.args.tree.now c.args.i c.requires.inside c.count-count.ensures.legal)) in
    omega (arith, h, c.requires.fits)

pub overflow_cast-short : goal.overflow_cast-short
overflow_cast-short c =
    let b = (box_at c.args.tree.now c.args.i).box in
    let wide : any_wide b ≡ false = sym c.is_wide.ensures ∙ c.if-is_wide.false in
    let h =
    short_fits (any_kind b) (length (any_contents b))
    (subst (λ (w : Bool). FitsHead (any_kind b) w (length (any_contents b))) wide (box_fits c.args.tree.now c.args.i c.requires.inside c.count-count.ensures.legal)) in
    omega (arith, h, c.requires.fits)

pub returns-in_ok-extend_from_slice-3 : goal.returns-in_ok-extend_from_slice-3
returns-in_ok-extend_from_slice-3 c =
    let b = (box_at c.args.tree.now c.args.i).box in
    let wide : any_wide b ≡ true = sym c.is_wide.ensures ∙ c.if-is_wide.true in
    wide_appended (any_kind b) c.args.len (any_wide b) c.args.out.now.items c.extend_from_slice.new.self.items
    c.extend_from_slice-then-is_wide.new.self.items c.extend_from_slice-then-is_wide-2.new.self.items
    c.to_be_bytes.result c.kind-name.result c.to_be_bytes-then-is_wide.result wide c.to_be_bytes.ensures
    c.kind-name.ensures c.to_be_bytes-then-is_wide.ensures
    c.in_ok-extend_from_slice.ensures.items c.in_ok-extend_from_slice-2.ensures.items
    c.in_ok-extend_from_slice-3.ensures.items

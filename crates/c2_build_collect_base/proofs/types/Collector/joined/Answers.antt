use Rattle.std.proofs.Common.{◌∙◌, List, subst, ℕ}
use Rattle.c2_new_file_spec.specs.Store.{new_alg}
use Rattle.c2_build_collect_base.specs.Steps.{AreJoined, NameLast, boxes_of, ingredient_stores, old_boxes, old_readings, readings_of}
use Rattle.c2_build_collect_base.proofs.Stages.{clash_stage, joined_apart, joined_ground, some_kept, test_stage, tests_pass, tests_refuse}
use Rattle.c2_build_collect_base.proofs.types.Collector.joined.Goals as goal

-- they clash
pub returns-in-Err-joined_boxes-clause-ground : goal.returns-in-Err-joined_boxes-clause-ground
returns-in-Err-joined_boxes-clause-ground g c =
    λ hash file m o ours theirs. clash_stage c.args.self.now.definition.now hash file c.args.ours.now c.args.theirs.now m o c.in-Err-joined_boxes.error ours theirs c.in-Err-joined_boxes.ensures.clash

-- a test refuses
pub returns-clause-ground : goal.returns-clause-ground
returns-clause-ground g c = λ hash file m o ours theirs.
    let d = c.args.self.now.definition.now in
    let e = c.in-Err-check_joined.error in
    let apart =
    joined_apart hash file _ c.args.ours.now c.args.theirs.now m o c.in-Ok-joined_boxes.joined ours theirs
    c.in-Ok-joined_boxes.ensures.joined in
    test_stage d m o e apart (tests_refuse hash file d c.args.ours.now c.args.theirs.now m o e ours theirs apart c.in-Err-check_joined.ensures.tested)

-- nothing is refused
pub returns-in-Ok-check_joined-clause-ground : goal.returns-in-Ok-check_joined-clause-ground
returns-in-Ok-check_joined-clause-ground g c = λ hash file m o ours theirs.
    let d = c.args.self.now.definition.now in
    let store = c.args.ours.now.store in
    let same = c.in-Ok.ensures ∙ c.as_slice.ensures in
    let joined =
    subst
    (λ (rs : List (List ℕ)). AreJoined rs (old_boxes store) (old_readings store) (boxes_of c.args.theirs.now) (readings_of c.args.theirs.now) c.in-Ok-joined_boxes.joined)
    same c.in-Ok-joined_boxes.ensures.joined in
    let apart =
    joined_apart hash file _ c.args.ours.now c.args.theirs.now m o c.in-Ok-joined_boxes.joined ours theirs joined in
    joined_ground (g.H.Hashing.digest_of (new_alg d)) hash file d
    c.args.ours.now c.args.theirs.now m o c.in-Ok-joined_boxes.joined c.in-Ok-ingredients.ingredients (λ text. (g.met.H.Hashing.is_digest (new_alg d) text).sized) ours theirs c.requires.ours joined
    (subst (λ (rs : List (List ℕ)). NameLast (g.H.Hashing.digest_of (new_alg d)) rs (ingredient_stores store c.args.theirs.now) c.in-Ok-ingredients.ingredients.items) same c.in-Ok-ingredients.ensures)
    (tests_pass hash file d c.args.ours.now c.args.theirs.now m o ours theirs apart c.in-Ok-check_joined.ensures.tested)

pub returns-in-Ok-check_joined-clause-some : goal.returns-in-Ok-check_joined-clause-some
returns-in-Ok-check_joined-clause-some g c =
    let d = c.args.self.now.definition.now in
    let store = c.args.ours.now.store in
    let same = c.in-Ok.ensures ∙ c.as_slice.ensures in
    some_kept (g.H.Hashing.digest_of (new_alg d)) d c.args.ours.now.clearing c.args.ours.now c.args.theirs.now c.in-Ok-joined_boxes.joined c.in-Ok-ingredients.ingredients (λ text. (g.met.H.Hashing.is_digest (new_alg d) text).sized)
    (subst (λ (rs : List (List ℕ)). AreJoined rs (old_boxes store) (old_readings store) (boxes_of c.args.theirs.now) (readings_of c.args.theirs.now) c.in-Ok-joined_boxes.joined) same c.in-Ok-joined_boxes.ensures.joined)
    (subst (λ (rs : List (List ℕ)). NameLast (g.H.Hashing.digest_of (new_alg d)) rs (ingredient_stores store c.args.theirs.now) c.in-Ok-ingredients.ingredients.items) same c.in-Ok-ingredients.ensures)

use Rattle.std.proofs.Common.{sym, subst}
use Rattle.std.specs.Prelude.{All}
use Rattle.c2_new_file_spec.specs.Store.{new_alg}
use Rattle.c2_layout.specs.Parts.{CanBeBoxed}
use Rattle.c2_layout.proofs.Contents.{all_boxed, content_parts, parts_long}
use Rattle.c2_layout.proofs.parts.bound_parts.Goals as goal
use Rattle.c2_lemmas.proofs.Results.{both_if_ok}

-- there is room for the box of each assertion
pub parts_over-requires-clause-defined : goal.parts_over-requires-clause-defined
parts_over-requires-clause-defined g c =
    let can = c.requires.small in
    (all_boxed (g.H.Hashing.digest_of (new_alg c.args.definition.now)) c.args.definition.now c.args.carried.now can.content c.args.binding.now can.is c.requires.known.label c.requires.formed can.small).defined

pub parts_over-requires-clause-ingredients : goal.parts_over-requires-clause-ingredients
parts_over-requires-clause-ingredients g c =
    let can = c.requires.small in
    subst (All CanBeBoxed) (sym c.as_slice-ingredients.ensures.value)
    (all_boxed (g.H.Hashing.digest_of (new_alg c.args.definition.now)) c.args.definition.now c.args.carried.now can.content c.args.binding.now can.is c.requires.known.label c.requires.formed can.small).more

pub parts_over-requires-clause-binding : goal.parts_over-requires-clause-binding
parts_over-requires-clause-binding g c =
    let can = c.requires.small in
    (all_boxed (g.H.Hashing.digest_of (new_alg c.args.definition.now)) c.args.definition.now c.args.carried.now can.content c.args.binding.now can.is c.requires.known.label c.requires.formed can.small).last

-- what is made are the parts
pub returns-clause-parts : goal.returns-clause-parts
returns-clause-parts g c =
    let d = c.args.definition.now in
    let hash = g.H.Hashing.digest_of (new_alg d) in
    both_if_ok c.parts_over.result _ _ _
    (λ p boxes claim content is. content_parts hash d c.args.carried.now content c.args.binding.now _ c.as_slice-ingredients.ensures.value is p boxes claim)
    c.parts_over.ensures.boxes c.parts_over.ensures.claim

-- and they are as long as was told
pub returns-clause-size : goal.returns-clause-size
returns-clause-size g c =
    let d = c.args.definition.now in
    let hash = g.H.Hashing.digest_of (new_alg d) in
    both_if_ok c.parts_over.result _ _ _ (λ p boxes claim content is. parts_long hash d c.args.carried.now content c.args.binding.now is p
    (content_parts hash d c.args.carried.now content c.args.binding.now _ c.as_slice-ingredients.ensures.value is p boxes claim)) c.parts_over.ensures.boxes c.parts_over.ensures.claim

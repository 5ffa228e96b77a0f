use Rattle.std.proofs.Common.{◌≤◌, IfSome, List, Option, ℕ, length, ap, arith, sym, subst, ◌∙◌}
use Rattle.c2_base.specs.declared.limits.TheConstants.{MAX_STORE_LEN}
use Rattle.c2_base.specs.declared.media.Found.{Found}
use Rattle.c2_spec.specs.Located.{absent, here}
use Rattle.c2_container.proofs.TheLaws.{said_absent, said_here}
use Rattle.c2_sidecar.specs.Extracts.{IsExtracted}
use Rattle.c2_sidecar.specs.declared.error.Extracted.TheVariants.{Done}
use Rattle.c2_sidecar.proofs.Extraction.{all_written, located_is, part_written, refused_is, refused_room}
use Rattle.c2_sidecar.proofs.extracting.extract.Goals as goal

-- the container is refused
pub returns-in-Err-clause-answer : goal.returns-in-Err-clause-answer
returns-in-Err-clause-answer g c =
    λ file known. refused_is file c.in-Err.error c.refused.result (c.in-Err.ensures.said file known) c.refused.ensures

pub returns-in-Err-clause-spare : goal.returns-in-Err-clause-spare
returns-in-Err-clause-spare g c = refused_room c.in-Err.error c.refused.result _ _ c.refused.ensures

-- there is no store
pub returns-in_default-clause-answer : goal.returns-in_default-clause-answer
returns-in_default-clause-answer g c = λ file known.
    located_is file absent (said_absent file c.in-Ok.contained (c.in-Ok.ensures.said file known) (sym c.found_in.ensures ∙ c.in_default.is))

-- the store is written
pub returns-in-Ok-write_store-clause-answer : goal.returns-in-Ok-write_store-clause-answer
returns-in-Ok-write_store-clause-answer g c = λ file known.
    let f = c.in-Some.found in
    subst (λ (n : ℕ). IsExtracted file (Done n)) (sym (ap (λ (xs : List ℕ). length xs) c.as_slice-store.ensures.value))
    (located_is file (here f.start f.length f.store) (said_here file c.in-Ok.contained f (c.in-Ok.ensures.said file known) (sym c.found_in.ensures ∙ c.in-Some.is)))

pub returns-in-Ok-write_store-clause-written : goal.returns-in-Ok-write_store-clause-written
returns-in-Ok-write_store-clause-written g c = λ file known.
    let f = c.in-Some.found in
    all_written g.K.Sink.written g.K.Sink.spare g.K.Sink.finished file f c.as_slice-store.result.now c.args.out.now
    c.write_store.new.sink c.as_slice-store.ensures.value
    (said_here file c.in-Ok.contained f (c.in-Ok.ensures.said file known) (sym c.found_in.ensures ∙ c.in-Some.is)) c.in-Ok-write_store.ensures.stored

-- the sink fails
pub returns-clause-written : goal.returns-clause-written
returns-clause-written g c = λ file known.
    let f = c.in-Some.found in
    part_written g.K.Sink.written g.K.Sink.spare g.K.Sink.finished file f c.as_slice-store.result.now c.args.out.now
    c.write_store.new.sink c.as_slice-store.ensures.value
    (said_here file c.in-Ok.contained f (c.in-Ok.ensures.said file known) (sym c.found_in.ensures ∙ c.in-Some.is)) c.in-Err-write_store.ensures.stored

pub returns-clause-spare : goal.returns-clause-spare
returns-clause-spare g c = λ s there.
    let f = c.in-Some.found in
    let small : length f.store ≤ MAX_STORE_LEN =
    subst (λ (o : Option Found). IfSome o (λ (x : Found). length x.store ≤ MAX_STORE_LEN)) (sym c.found_in.ensures ∙ c.in-Some.is)
    c.in-Ok.ensures.within.store in
    omega (arith, c.in-Err-write_store.ensures.stored.over s there, small, ap (λ (xs : List ℕ). length xs) c.as_slice-store.ensures.value)

use Rattle.std.proofs.Common.{Ok, Some, refl, ◌∙◌}
use Rattle.c2_rules.specs.Binding.{bound_tests}
use Rattle.c2_rules.specs.Chains.{label_in}
use Rattle.c2_rules.specs.Ingredients.{assertion_uri}
use Rattle.c2_hard_binding.proofs.BoundLemmas.{digest_other, digest_same, digested, found_fails, text_is}
use Rattle.c2_hard_binding.proofs.FieldLemmas.{bad_range_count, reads_after}
use Rattle.c2_hard_binding.proofs.bound.check_fields.Goals as goal

-- a range isn't in order
pub returns-in-Err-BadRange-clause-reads : goal.returns-in-Err-BadRange-clause-reads
returns-in-Err-BadRange-clause-reads g c =
    reads_after g.S.Source.len g.S.Source.known g.S.Source.faults c.args.source.now c.cover.new.source
    c.fails-in-Err-BadRange.result c.in-Err-BadRange.ensures.reads.stays
    (bad_range_count _ _ c.in-Err-BadRange.field-0 c.in-Err-BadRange.field-0-0 c.in-Err-BadRange.field-0-is
    c.in-Err-BadRange.ensures.reads.cause) c.fails-in-Err-BadRange.ensures.cause

-- the digest is another
pub returns-then-not-is_digest-clause-found : goal.returns-then-not-is_digest-clause-found
returns-then-not-is_digest-clause-found g c = λ file known kind b coded comes.
    let hash = g.H.Hashing.digest_of in
    let own = c.args.own.now in
    let uri = assertion_uri (label_in own) c.args.name.now in
    let tests = bound_tests hash own uri kind (Ok b) in
    found_fails c.fails-then-not-is_digest.result tests own file (Some (Ok b))
    (record { code = c.mismatch.result; uri = uri })
    (digest_other tests uri kind c.is_digest.result c.mismatch.result
    (digested hash own uri kind file c.args.fields.now b c.alg.result.now c.known_alg.result c.in-Some.alg c.in-Ok.cover _ c.hash.result.now c.is_digest.result comes c.alg.ensures c.known_alg.ensures c.in-Some.is (c.in-Ok.ensures.cover file known b comes)
    (c.in-Ok-covered_digest.ensures.digest file (c.in-Ok.ensures.reads.stays.same_bytes ∙ known)) c.hash.ensures c.is_digest.ensures)
    c.if-not-is_digest.true (c.mismatch.ensures ∙ coded)) c.fails-then-not-is_digest.ensures.found

-- the digest is the same
pub returns-in-Ok-copied-clause-found : goal.returns-in-Ok-copied-clause-found
returns-in-Ok-copied-clause-found g c = λ file known kind b coded comes.
    let hash = g.H.Hashing.digest_of in
    let own = c.args.own.now in
    let uri = assertion_uri (label_in own) c.args.name.now in
    let covers = c.in-Ok.ensures.cover file known b comes in (
      digest_same (bound_tests hash own uri kind (Ok b)) uri kind c.is_digest.result
          (digested hash own uri kind file c.args.fields.now b c.alg.result.now c.known_alg.result c.in-Some.alg c.in-Ok.cover _ c.hash.result.now c.is_digest.result comes c.alg.ensures c.known_alg.ensures c.in-Some.is covers
          (c.in-Ok-covered_digest.ensures.digest file (c.in-Ok.ensures.reads.stays.same_bytes ∙ known)) c.hash.ensures c.is_digest.ensures)
          c.if-not-is_digest.false,
      b,
      refl,
      text_is own file c.args.fields.now b (record { cover = c.in-Ok.cover; alg = c.in-Ok-copied.alg }) c.in-Ok.cover c.alg-2.result.now c.alg_name.result.now c.in-Ok-copied.alg comes covers c.alg-2.ensures c.alg_name.ensures c.in-Ok-copied.ensures refl refl,
    )

use Rattle.c2_shift.proofs.BoxLemmas.{outside_map}
use Rattle.c2_shift.proofs.walking.inner_boxes.Goals as goal

-- where the source failed or memory ran out, nothing is said of the box
pub returns-in-Err-clause-refused : goal.returns-in-Err-clause-refused
returns-in-Err-clause-refused g c file known =
    outside_map c.list_error.result (λ (never : ⊥). absurd never) c.list_error.ensures.outside

-- and the error has its cause
pub returns-in-Err-clause-reads : goal.returns-in-Err-clause-reads
returns-in-Err-clause-reads g c = record {
  stays = c.in-Err.ensures.reads.stays;
  quiet = tt;
  cause = c.list_error.ensures.cause _ _ _ c.in-Err.ensures.reads.cause;
}

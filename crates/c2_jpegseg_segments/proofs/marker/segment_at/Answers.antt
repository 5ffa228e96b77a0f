use Rattle.c2_jpegseg_segments.proofs.marker.segment_at.Goals as goal

pub returns-clause-read : goal.returns-clause-read
returns-clause-read g c = record {
  count = c.next_at.ensures.count;
  cause = c.next_at.ensures.cause;
  inside = c.next_at.ensures.inside;
  error = c.next_at.ensures.error;
  next = c.next_at.ensures.next;
}

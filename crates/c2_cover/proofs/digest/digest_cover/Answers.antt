use Rattle.std.proofs.Common.{[], ◌++◌, length, take, sym, ap, ◌∙◌, refl, arith, append_assoc}
use Rattle.std.proofs.lemmas.List.{append-nil}
use Rattle.c2_cover.proofs.digest.digest_cover.Goals as goal

-- before the first piece, nothing is hashed, and the whole covered text is still to come
pub pieces-init : goal.pieces-init
pieces-init g c = record {
  room = c.requires.room;
  size = c.requires.size ∙ sym c.new-reader.ensures.size;
  stays = record { same_len = refl; same_bytes = refl; later = omega arith };
  count = refl;
  held = ([], c.start-state.ensures);
  hashed =
      λ file known. record { prefix = []; held = c.start-state.ensures; joined = sym (c.new-reader.ensures.text file) };
}

-- with one piece more hashed, what is hashed and what is still to come are the covered text
pub pieces-preserved : goal.pieces-preserved
pieces-preserved g c =
    let before = c.pieces.invariant in
    let call = c.in_ok-count.ensures in
    record {
      room = omega (arith, before.room, c.next.auto.buf);
      size = before.size ∙ sym call.same_size;
      stays =
          record
          { same_len = call.stays.same_len ∙ before.stays.same_len; same_bytes = call.stays.same_bytes ∙ before.stays.same_bytes; later = omega (arith, call.stays.later, before.stays.later) };
      count = call.cause.ok ∙ before.count;
      held =
          (before.held.0 ++ take c.in_ok-count.count c.next.new.buf, c.update.ensures c.args.alg before.held.0 before.held.1);
      hashed = λ file known.
          let h = before.hashed file known in
          record {
            prefix = h.prefix ++ take c.in_ok-count.count c.next.new.buf;
            held = c.update.ensures c.args.alg h.prefix h.held;
            joined =
                h.joined ∙ ap (λ xs. h.prefix ++ xs) (call.piece.piece file (before.stays.same_bytes ∙ known))
                ∙ sym (append_assoc h.prefix _ _);
          };
    }

-- after the last piece, the digest is that of the whole covered text
pub returns-clause-digest : goal.returns-clause-digest
returns-clause-digest g c file known =
    let h = c.pieces.invariant.hashed file known in
    let end =
    c.in_ok-count.ensures.piece.nothing c.if-count-eq0.true file (c.pieces.invariant.stays.same_bytes ∙ known) in
    c.finish.ensures _ _ h.held
    ∙ ap (g.H.Hashing.digest_of c.args.alg) (sym (h.joined ∙ ap (λ xs. h.prefix ++ xs) end ∙ append-nil h.prefix))

-- the digest of whatever was hashed has the algorithm's length
pub returns-clause-len : goal.returns-clause-len
returns-clause-len g c =
    let held = c.pieces.invariant.held in
    ap length (c.finish.ensures _ _ held.1) ∙ (g.met.H.Hashing.is_digest c.args.alg held.0).sized

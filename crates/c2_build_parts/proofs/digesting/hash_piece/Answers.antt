use Rattle.std.proofs.Common.{◌≡◌, ℕ, ◌++◌, length, take, drop, [], refl, sym, ◌∙◌, subst, arith, append-nil, append_assoc}
use Rattle.std.proofs.lemmas.List.{length-take-le}
use Rattle.c2_build_parts.specs.Bound.{HasTaken}
use Rattle.c2_build_parts.proofs.Pieces.{read_piece}
use Rattle.c2_copying.proofs.TheLaws.{piece_none}
use Rattle.c2_build_parts.proofs.digesting.hash_piece.Goals as goal

-- with one piece more, the state has taken so many bytes more
pub pieces-preserved : goal.pieces-preserved
pieces-preserved g c =
    let before = c.pieces.invariant in
    let call = c.in_ok-fill_at.ensures in
    let n = c.min-len.result in
    record {
      begun = omega (arith, before.begun);
      within = omega (arith, c.min-len.ensures, before.within, c.pieces-test.true);
      stays =
          record
          { same_len = call.stays.same_len ∙ before.stays.same_len; same_bytes = call.stays.same_bytes ∙ before.stays.same_bytes; later = omega (arith, call.stays.later, before.stays.later) };
      count = call.cause.ok ∙ before.count;
      taken = λ alg list held.
          let h = before.taken alg list held in
          let more = take n (c.fill_at.new.buf ++ drop n c.pieces.buf) in (
            h.0 ++ more,
            subst (λ x. g.H.Hashing.holds c.update.new.state alg x) (append_assoc list h.0 more) (c.update.ensures alg (list ++ h.0) h.1),
            λ file known.
                let size : length c.fill_at.new.buf ≡ n =
                c.fill_at.auto.buf ∙ length-take-le n c.pieces.buf (omega (arith, c.min-len.ensures)) in
                read_piece file h.0 c.fill_at.new.buf (drop n c.pieces.buf) c.args.from c.pieces.at n before.begun size (h.2 file known) (call.filled file (before.stays.same_bytes ∙ known)),
          );
    }

-- nothing was read yet
pub pieces-init : goal.pieces-init
pieces-init g c = record {
  begun = omega arith;
  within = c.requires.ordered;
  stays = record { same_len = refl; same_bytes = refl; later = omega arith };
  count = refl;
  taken =
      λ alg list held. ([], subst (λ x. g.H.Hashing.holds c.args.state.now alg x) (sym (append-nil list)) held, λ file known. sym (piece_none file c.args.from));
}

-- in the end all was
pub returns-clause-taken : goal.returns-clause-taken
returns-clause-taken g c =
    let end : c.pieces.at ≡ c.args.to = omega (arith, c.pieces.invariant.within, c.pieces-test.false) in
    subst
    (λ (n : ℕ). HasTaken g.H.Hashing.holds (g.S.Source.known c.args.source.now) c.args.from n c.args.state.now c.pieces.state)
    end c.pieces.invariant.taken

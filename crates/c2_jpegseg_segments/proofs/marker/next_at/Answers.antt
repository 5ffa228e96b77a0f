use Rattle.std.proofs.lemmas.Result.{err_from_is_err_and}
use Rattle.std.proofs.Common.{length, ◌≡◌, ◌∙◌, subst, arith}
use Rattle.c2_jpegseg_segments.specs.Segments.{IsMarkerFrom, IsMarkerAt}
use Rattle.c2_jpegseg_segments.proofs.Markers.{no_marker_left, no_fill, bad_kind, end_here, alone_extent, sized_is, sized_error}
use Rattle.c2_jpegseg_segments.proofs.marker.next_at.Goals as goal

pub returns-in_default-clause-next : goal.returns-in_default-clause-next
returns-in_default-clause-next g c file known =
    let size : length file ≡ g.S.Source.len c.args.source.now = g.met.S.Source.known_len c.args.source.now file known in
    no_marker_left file c.args.at c.args.size (omega arith) (omega arith)
    (subst (IsMarkerFrom file c.args.at) c.in_default.is (c.in_ok-marker.ensures.place file known))

pub returns-then-marker-at-clause-next : goal.returns-then-marker-at-clause-next
returns-then-marker-at-clause-next g c file known =
    let size : length file ≡ g.S.Source.len c.args.source.now = g.met.S.Source.known_len c.args.source.now file known in
    let place : IsMarkerAt file c.args.at c.in-Some.marker =
    subst (IsMarkerFrom file c.args.at) c.in-Some.is (c.in_ok-marker.ensures.place file known) in
    let inside = rw c.in-Some.is at c.in_ok-marker.ensures.inside in
    let code = rw c.in-Some.is at c.in_ok-marker.ensures.code in
    no_fill file c.args.at c.in-Some.marker c.if-marker-at.true (omega (arith, inside.1)) place code

pub returns-in-Bad-clause-next : goal.returns-in-Bad-clause-next
returns-in-Bad-clause-next g c file known =
    let size : length file ≡ g.S.Source.len c.args.source.now = g.met.S.Source.known_len c.args.source.now file known in
    let place : IsMarkerAt file c.args.at c.in-Some.marker =
    subst (IsMarkerFrom file c.args.at) c.in-Some.is (c.in_ok-marker.ensures.place file known) in
    let inside = rw c.in-Some.is at c.in_ok-marker.ensures.inside in
    bad_kind file c.args.at c.in-Some.marker (omega (arith, inside.0)) (omega (arith, inside.1)) place c.in-Bad.ensures

pub returns-in-End-clause-next : goal.returns-in-End-clause-next
returns-in-End-clause-next g c file known =
    let size : length file ≡ g.S.Source.len c.args.source.now = g.met.S.Source.known_len c.args.source.now file known in
    let place : IsMarkerAt file c.args.at c.in-Some.marker =
    subst (IsMarkerFrom file c.args.at) c.in-Some.is (c.in_ok-marker.ensures.place file known) in
    let inside = rw c.in-Some.is at c.in_ok-marker.ensures.inside in
    end_here file c.args.at c.in-Some.marker (omega (arith, inside.0)) (omega (arith, inside.1)) place c.in-End.ensures

pub returns-in-Alone-clause-next : goal.returns-in-Alone-clause-next
returns-in-Alone-clause-next g c file known =
    let size : length file ≡ g.S.Source.len c.args.source.now = g.met.S.Source.known_len c.args.source.now file known in
    let place : IsMarkerAt file c.args.at c.in-Some.marker =
    subst (IsMarkerFrom file c.args.at) c.in-Some.is (c.in_ok-marker.ensures.place file known) in
    let inside = rw c.in-Some.is at c.in_ok-marker.ensures.inside in
    alone_extent file c.args.at c.in-Some.marker (omega (arith, inside.0)) (omega (arith, inside.1)) place c.in-Alone.ensures.0 c.in-Alone.ensures.1

pub returns-in_ok-sized_at-in-Sized-clause-next : goal.returns-in_ok-sized_at-in-Sized-clause-next
returns-in_ok-sized_at-in-Sized-clause-next g c file known =
    let size : length file ≡ g.S.Source.len c.args.source.now = g.met.S.Source.known_len c.args.source.now file known in
    let place : IsMarkerAt file c.args.at c.in-Some.marker =
    subst (IsMarkerFrom file c.args.at) c.in-Some.is (c.in_ok-marker.ensures.place file known) in
    let inside = rw c.in-Some.is at c.in_ok-marker.ensures.inside in
    sized_is file c.args.at c.in-Some.marker _ (omega (arith, inside.0)) (omega (arith, inside.1)) place c.in-Sized.ensures.0 c.in-Sized.ensures.1
    (c.in_ok-sized_at-in-Sized.ensures.sized file (c.in_ok-marker.ensures.stays.same_bytes ∙ known))

pub returns-in_err-sized_at-in-Sized-clause-next : goal.returns-in_err-sized_at-in-Sized-clause-next
returns-in_err-sized_at-in-Sized-clause-next g c file known =
    let size : length file ≡ g.S.Source.len c.args.source.now = g.met.S.Source.known_len c.args.source.now file known in
    let place : IsMarkerAt file c.args.at c.in-Some.marker =
    subst (IsMarkerFrom file c.args.at) c.in-Some.is (c.in_ok-marker.ensures.place file known) in
    let inside = rw c.in-Some.is at c.in_ok-marker.ensures.inside in
    let p =
    err_from_is_err_and c.from_residual-in_err-sized_at-in-Sized.result
    c.from_residual-in_err-sized_at-in-Sized.ensures.1 in
    rw (p.1, p.2) (sized_error file c.args.at c.in-Some.marker c.in_err-sized_at-in-Sized.field-0.0 (omega (arith, inside.0)) (omega (arith, inside.1)) place c.in-Sized.ensures.0 c.in-Sized.ensures.1
    (c.in_err-sized_at-in-Sized.ensures.sized file (c.in_ok-marker.ensures.stays.same_bytes ∙ known)))

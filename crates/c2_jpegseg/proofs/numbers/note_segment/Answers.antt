use Rattle.std.proofs.Common.{length, ◌≡◌, ◌∙◌, ap, sym, subst, ◌++◌, ◌∷◌, [], Some}
use Rattle.c2_jpegseg_segments.specs.Passing.{Marks}
use Rattle.c2_jpegseg_segments.specs.Segments.{segment_of}
use Rattle.c2_jpegseg_segments.specs.Windows.{Shows}
use Rattle.c2_jpegseg_segments.proofs.Kept.{kept-less, kept-more}
use Rattle.c2_jpegseg_segments.proofs.NumberMarks.{marks-push, noted-len}
use Rattle.c2_jpegseg_segments.proofs.WindowLemmas.{shows_same}
use Rattle.c2_jpegseg.proofs.numbers.note_segment.Goals as goal

pub returns-then-passed-clause-notes : goal.returns-then-passed-clause-notes
returns-then-passed-clause-notes g c file known fill ss m =
    kept-less (Marks c.args.marks.now) c.args.passed ss (segment_of fill file c.args.extent) c.if-passed.true m

pub returns-clause-sized : goal.returns-clause-sized
returns-clause-sized g c =
    ap length c.note.ensures ∙ noted-len c.packet_at.result c.args.marks.now ∙ c.requires.sized

pub returns-clause-notes : goal.returns-clause-notes
returns-clause-notes g c file known fill ss m =
    let size : length file ≡ g.S.Source.len c.args.source.now =
    g.met.S.Source.known_len c.args.source.now file known in
    let shows = shows_same Shows _ (length file) _ (Some file) _ (sym size) known c.in_ok-load_packet.ensures.shows in
    let s = segment_of fill file c.args.extent in
    kept-more (Marks c.note.new.marks) c.args.passed ss s c.if-passed.false
    (subst (λ t. Marks t (ss ++ s ∷ [])) (sym c.note.ensures)
    (marks-push c.args.marks.now ss s c.packet_at.result (c.packet_at.ensures.packet file shows) m))

use Rattle.std.proofs.Common.{◌∙◌, ap, take, List, ℕ, arith}
use Rattle.std.proofs.lemmas.List.{take_at}
use Rattle.c2_jpegseg_segments.proofs.window.Window.load.Goals as goal

pub returns-clause-shows : goal.returns-clause-shows
returns-clause-shows g c = record {
  size = c.requires.shows.size;
  room = c.requires.shows.room;
  in_room = omega arith;
  inside = omega arith;
  bytes = λ file known.
      ap (λ (x : List ℕ). take c.min-room.result x) (take_at c.fill_first.new.bytes _ _ (c.fill_first.auto.bytes ∙ c.deref_mut.ensures.len)) ∙ c.in_ok-fill_first.ensures.filled file known;
}

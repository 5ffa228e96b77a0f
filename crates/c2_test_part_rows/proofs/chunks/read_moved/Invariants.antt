use Rattle.c2_test_part_rows.proofs.chunks.read_moved.Given as goal

-- the borrow is that of the film as it was handed in
abbrev pub ghosts-read_over : goal.ghosts-read_over
ghosts-read_over g a = record {
  name = a.media.ghost_name;
  len = g.S.Source.len a.media.now;
  known = g.S.Source.known a.media.now;
}

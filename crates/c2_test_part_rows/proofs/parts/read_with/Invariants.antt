use Rattle.c2_test_part_rows.proofs.parts.read_with.Given as goal

-- the borrow is that of the file as it was handed in
abbrev pub ghosts-read_over : goal.ghosts-read_over
ghosts-read_over g a = record {
  name = a.base.ghost_name;
  len = g.S.Source.len a.base.now;
  known = g.S.Source.known a.base.now;
}

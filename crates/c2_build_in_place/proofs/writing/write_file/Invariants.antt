use Rattle.c2_build_in_place.proofs.writing.write_file.Given as goal

-- the borrow is that of the media as it was handed in
abbrev pub ghosts-write_left : goal.ghosts-write_left
ghosts-write_left g a = record {
  name = a.media.ghost_name;
  len = g.A.Source.len a.media.now;
  known = g.A.Source.known a.media.now;
}

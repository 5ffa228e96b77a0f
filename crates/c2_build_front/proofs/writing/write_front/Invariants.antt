use Rattle.c2_build_front.proofs.writing.write_front.Given as goal

-- the borrow is that of the media as it was handed in
abbrev pub ghosts-write_named : goal.ghosts-write_named
ghosts-write_named g a = record {
  name = a.media.ghost_name;
  len = g.A.Source.len a.media.now;
  known = g.A.Source.known a.media.now;
}

use Rattle.c2_bmff_binding_front.proofs.digesting.Digesting.moved.Given as goal

-- the borrow is that of the media as it was handed in
abbrev pub ghosts-moved_named : goal.ghosts-moved_named
ghosts-moved_named g a = record {
  name = a.media.ghost_name;
  len = g.A.Source.len a.media.now;
  known = g.A.Source.known a.media.now;
}

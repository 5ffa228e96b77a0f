use Rattle.c2_build_parts.proofs.parts.bound_digest.Given as goal

-- the borrow is that of the media as it was handed in
abbrev pub ghosts-digest_left : goal.ghosts-digest_left
ghosts-digest_left g a = record {
  name = a.media.ghost_name;
  len = g.A.Source.len a.media.now;
  known = g.A.Source.known a.media.now;
}

use Rattle.c2_bmff_binding_front.proofs.digesting.Digesting.over.Given as goal

-- the borrow is that of the file as it was handed in
abbrev pub ghosts-over_named : goal.ghosts-over_named
ghosts-over_named g a = record {
  name = a.base.ghost_name;
  len = g.B.Source.len a.base.now;
  known = g.B.Source.known a.base.now;
}

use Rattle.euler_holes.proofs.moves.join_solids.Goals as goal

pub returns : goal.returns
returns c = rw (c.set_solid_used-2.ensures, c.set_solid_used.ensures, c.move_faces.ensures)

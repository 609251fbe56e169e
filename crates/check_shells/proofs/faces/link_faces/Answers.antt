use Rattle.std.proofs.Common.{◌≡◌, arith}
use Rattle.check_shells.specs.ShellsLaws.{joined_start, joined_shells}
use Rattle.check_shells.proofs.faces.link_faces.Goals as goal

pub loop-k-init : goal.loop-k-init
loop-k-init c = joined_start c.separate.ensures c.requires.faces_le_most_items.0

pub returns : goal.returns
returns c = let n : c.loop-k.k ≡ c.args.sh.edges = omega arith in joined_shells (rw n at c.loop-k.invariant)

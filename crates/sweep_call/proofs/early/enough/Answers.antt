use Prim.Native.Nat.{◌*◌}
use lib.Dec.{leb}
use Rattle.sweep_call.specs.CallLaws.{every_four}
use Rattle.sweep_call.proofs.early.enough.Goals as goal

pub returns : goal.returns
returns c = every_four (leb c.args.n c.args.vertices) (leb (2 * c.args.n) c.args.edges)
    (leb c.args.n c.args.faces)
    (leb c.args.n c.args.loops)

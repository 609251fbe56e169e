use native.Mathlib.Omega.{arith}
use Rattle.layout.specs.Fields.{Face}
use Rattle.euler.specs.Scans.{column_short, least_by}
use Rattle.takedown_search.proofs.free.free_loop.Goals as goal

pub least_naming_one-requires : goal.least_naming_one-requires
least_naming_one-requires c = column_short c.args.sh Face c.faces_of_loops.ensures
    (omega (arith, c.requires.loops))

pub returns : goal.returns
returns c = (
  least_by c.args.sh Face c.faces_of_loops.ensures _ _ _
      c.least_naming_one.ensures.0,
  c.least_naming_one.ensures.1,
)

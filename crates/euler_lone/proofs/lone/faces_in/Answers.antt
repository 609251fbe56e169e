use native.Mathlib.Omega.{arith}
use Rattle.layout.specs.Fields.{Solid}
use Rattle.euler.specs.Scans.{column_short, count_by}
use Rattle.euler_lone.proofs.lone.faces_in.Goals as goal

pub count_naming-requires : goal.count_naming-requires
count_naming-requires c = column_short c.args.sh Solid c.solids_of_faces.ensures
    (omega arith)

pub returns : goal.returns
returns c = (
  count_by c.args.sh Solid c.solids_of_faces.ensures _ _ _
      c.count_naming.ensures.0,
  c.count_naming.ensures.1,
)

use native.Mathlib.Omega.{arith}
use Rattle.layout.specs.Fields.{Solid}
use Rattle.euler.specs.Scans.{column_short, least_by}
use Rattle.euler_lone.proofs.lone.face_in.Goals as goal

pub least_naming_one-requires : goal.least_naming_one-requires
least_naming_one-requires c = column_short c.args.sh Solid c.solids_of_faces.ensures
    (omega arith)

pub returns : goal.returns
returns c = (
  least_by c.args.sh Solid c.solids_of_faces.ensures _ _ _
      c.least_naming_one.ensures.0,
  c.least_naming_one.ensures.1,
)

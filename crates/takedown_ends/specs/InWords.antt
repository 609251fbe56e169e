-- Numbers that are asked of the table are words.
use Rattle.std.specs.Prelude.{◌<◌}
use Rattle.takedown.specs.declared.ends.Ends.{Ends}

-- the solid, its root, and the half-edges that are asked again
pub record InWords (e : Ends) : Type 0 where
  pub solid : e.solid < 65536
  pub root : e.root < 65536
  pub spur : e.spur < 65536
  pub tip : e.tip < 65536
  pub tip2 : e.tip2 < 65536
  pub tip3 : e.tip3 < 65536
  pub tip4 : e.tip4 < 65536

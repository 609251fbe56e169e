use Rattle.std.proofs.Common.{rules, ◌∙◌, arith}
use Rattle.euler.specs.Scans.{least_all}
use Rattle.takedown_search.specs.Sought.{seek_by}
use Rattle.takedown_search.proofs.free.free_edge.Goals as goal

pub returns : goal.returns
returns c = (
  seek_by _ c.seek.ensures.0 (λ k l u b p. search rules) ∙ least_all _ _,
  omega (arith, c.seek.ensures.1),
)

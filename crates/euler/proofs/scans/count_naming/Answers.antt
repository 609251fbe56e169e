use Rattle.searching.specs.SearchingLaws.{count_by}
use Rattle.std.proofs.Common.{rules, arith}
use Rattle.euler.proofs.scans.count_naming.Goals as goal

pub returns : goal.returns
returns c = (count_by _ c.count.ensures (λ k l u b p. search rules), omega (arith, c.count.ensures.bound))

use mathlib.Core.Path.{sym}
use native.Mathlib.Omega.{arith}
use lib.ListN.{get_or-eq_default}
use Rattle.layout.proofs.cells.word.Goals as goal

pub returns : goal.returns
returns c = (sym (get_or-eq_default c.args.links.now 0 c.if-i-links.false), omega arith)

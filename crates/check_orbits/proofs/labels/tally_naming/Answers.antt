use Rattle.std.proofs.Common.{ap, arith, ◌+◌}
use Rattle.layout.specs.Column.{entry_of}
use Rattle.check_orbits.specs.Labels.{tally}
use Rattle.check_orbits.specs.LabelsLaws.{tally_turn, down_out, long_set, blank_long, blank_most}
use Rattle.check_orbits.specs.LabelsLaws.{most_bump}
use Rattle.check_orbits.proofs.labels.tally_naming.Goals as goal

pub loop-k-init : goal.loop-k-init
loop-k-init c = let a = c.args in
    let e = c.requires.1 in (
      blank_long _ e,
      ap (tally (entry_of a.column a.links.now) a.column.count) e,
      (0, omega arith, blank_most _ e),
    )

pub loop-k-preserved : goal.loop-k-preserved
loop-k-preserved c = let inv = c.loop-k.invariant in
    let e = c.bump.ensures in (
      long_set c.loop-k.counts _ _ _ _ inv.0 e,
      tally_turn _ _ _ _ _ _ inv.1 (omega arith) c.cell-v.ensures.0 e,
      (inv.2.0 + 1, omega (arith, inv.2.1), most_bump _ _ _ _ inv.2.2 e),
    )

pub returns : goal.returns
returns c = down_out _ _ _ _ c.loop-k.invariant.1 (omega arith)

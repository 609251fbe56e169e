use Rattle.std.proofs.Common.{◌≡◌, length}
use Rattle.bounds.specs.Bounds.{item_places}
use Rattle.layout.specs.Layout.{loop_first}
use Rattle.check_orbits.specs.Labels.{blank, copied}
use Rattle.check_orbits.proofs.labels.loop_firsts.Given as goal

abbrev pub invariant-loop-l : goal.invariant-loop-l
invariant-loop-l l = (length l.firsts ≡ item_places)
    × (copied (loop_first l.sh l.links) l.l l.firsts ≡ copied (loop_first l.sh l.links) l.sh.loops blank)

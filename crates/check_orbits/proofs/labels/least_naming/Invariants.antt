use Rattle.std.proofs.Common.{◌≡◌, length}
use Rattle.bounds.specs.Bounds.{item_places}
use Rattle.layout.specs.Column.{entry_of}
use Rattle.check_orbits.specs.Labels.{blank, least_naming}
use Rattle.check_orbits.proofs.labels.least_naming.Given as goal

abbrev pub invariant-loop-k : goal.invariant-loop-k
invariant-loop-k l = (length l.least ≡ item_places)
    × (least_naming (entry_of l.column l.links) l.k l.least
    ≡ least_naming (entry_of l.column l.links) l.column.count blank)

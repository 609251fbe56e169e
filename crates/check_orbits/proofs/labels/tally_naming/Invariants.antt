use Rattle.std.proofs.Common.{◌≡◌, ℕ, ◌+◌, ◌≤◌, length}
use Rattle.bounds.specs.Bounds.{item_places}
use Rattle.layout.specs.Column.{entry_of}
use Rattle.check_orbits.specs.Labels.{blank, tally}
use Rattle.check_orbits.specs.LabelsLaws.{AtMost}
use Rattle.check_orbits.proofs.labels.tally_naming.Given as goal

-- each of the records that are done has made one entry larger by one
abbrev pub invariant-loop-k : goal.invariant-loop-k
invariant-loop-k l = (length l.counts ≡ item_places)
    × (tally (entry_of l.column l.links) l.k l.counts ≡ tally (entry_of l.column l.links) l.column.count blank)
    × ((done : ℕ) × (done + l.k ≤ l.column.count) × AtMost done l.counts)

use Rattle.std.proofs.Common.{◌≡◌, ℕ, ◌<◌, ◌-◌, length}
use Rattle.laws.specs.Marks.{mark_from}
use Rattle.bounds.specs.Bounds.{half_places}
use Rattle.check_orbits.specs.Cycles.{Follows}
use Rattle.check_orbits.proofs.cycles.mark_from.Given as goal

abbrev pub invariant-loop : goal.invariant-loop
invariant-loop g l = (l.k < 65536) × (length l.marks ≡ half_places)
    × ((f : ℕ → ℕ) → Follows (goal.F-post g l.step) f
    → mark_from f (l.fuel - l.counter) l.k l.marks ≡ mark_from f l.fuel l.from l.initial.marks)

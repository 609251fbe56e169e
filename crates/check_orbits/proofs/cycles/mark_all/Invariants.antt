use Rattle.std.proofs.Common.{◌≡◌, ℕ, ◌+◌, ◌-◌, ◌≤◌, length}
use Rattle.laws.specs.Marks.{mark_to}
use Rattle.bounds.specs.Bounds.{half_places}
use Rattle.check_orbits.specs.Cycles.{Follows, entry_of}
use Rattle.check_orbits.proofs.cycles.mark_all.Given as goal

abbrev pub invariant-loop-l : goal.invariant-loop-l
invariant-loop-l g l = (length l.marks ≡ half_places) × (l.l ≤ l.labels + 1)
    × ((f : ℕ → ℕ) → Follows (goal.F-post g l.step) f
    → l.marks ≡ mark_to f l.fuel (entry_of l.reps) (l.l - 1) l.initial.marks)

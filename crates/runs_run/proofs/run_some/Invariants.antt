use Rattle.std.proofs.Common.{◌≡◌, ◌-◌, ◌≤◌, length}
use Rattle.runs.specs.Run.{state, run_from}
use Rattle.runs_steps.specs.Standing.{Standing}
use Rattle.runs_run.proofs.run_some.Given as goal

abbrev pub invariant-loop-done : goal.invariant-loop-done
invariant-loop-done l = (length l.links ≡ length l.initial.links) × (length l.points ≡ length l.initial.points)
    × (length l.log ≡ length l.initial.log)
    × Standing l.sh l.links l.points l.counts × (l.low ≤ length l.log)
    × (run_from (l.n - l.done) l.sh l.script l.at l.done (state l.links l.points l.log l.low)
    ≡ run_from l.n l.sh l.script l.from 0 (state l.initial.links l.initial.points l.initial.log l.start))

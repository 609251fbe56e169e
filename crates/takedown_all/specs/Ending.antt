-- How the turns ended, as the code holds it.
use Rattle.std.specs.Prelude.{List, ℕ, ℤ, true, false, Result, Ok, Err}
use Rattle.takedown.specs.Inversion.{Ended, ended}
use Rattle.takedown_acts.specs.Held.{held}
use Rattle.takedown_acts.specs.declared.acts.Progress.{Progress}

-- whether for want of a number, how far they had come, and the lists
abbrev pub ended_at : Result Progress Progress → List ℕ → List ℤ → List ℕ → Ended
ended_at (Ok at) x p log = ended false (held at x p log)
ended_at (Err at) x p log = ended true (held at x p log)

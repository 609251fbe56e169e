-- The work as the code holds it.
use Rattle.std.specs.Prelude.{List, ℕ, ℤ}
use Rattle.runs.specs.Run.{state}
use Rattle.takedown.specs.Inversion.{Work, work}
use Rattle.takedown_acts.specs.declared.acts.Progress.{Progress}

-- how far it has come, and the lists
abbrev pub held : Progress → List ℕ → List ℤ → List ℕ → Work
held at x p log = work at.done (state x p log at.start)

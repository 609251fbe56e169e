use mathlib.Core.Path.{◌∙◌}
use Rattle.runs.specs.Clauses.{part_whole}
use borrow.Author.Rules.{rules}
use Rattle.runs_run.proofs.run.Goals as goal

pub returns : goal.returns
returns c = c.run_part.ensures ∙ part_whole _ _

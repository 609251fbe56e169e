use native.Mathlib.Omega.{arith}
use Rattle.sessions_entry.specs.EntryLaws.{run_left}
use Rattle.sessions_entry.proofs.run.Goals as goal

pub returns : goal.returns
returns c = run_left _ _ _ _ _ _ _ _ _ _ _ _ _ c.run-answer.ensures
    c.emptied-start.ensures (omega arith) (omega arith) (omega arith)

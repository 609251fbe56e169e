use native.Mathlib.Omega.{arith}
use Rattle.sessions_entry.specs.EntryLaws.{invert_left}
use Rattle.sessions_entry.proofs.invert.Goals as goal

pub returns : goal.returns
returns c = invert_left _ _ _ _ _ _ _ _ _ _ _ _ c.invert-answer.ensures
    c.emptied-start.ensures (omega arith) _ (omega arith) (omega arith) (omega arith) (omega arith) (omega arith)
    (omega arith)

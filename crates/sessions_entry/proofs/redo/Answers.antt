use native.Mathlib.Omega.{arith}
use Rattle.sessions_entry.specs.EntryLaws.{redo_left}
use Rattle.sessions_entry.proofs.redo.Goals as goal

pub returns : goal.returns
returns c = rw c.from.ensures (redo_left _ _ _ _ _ _ _ _ _ _ _ _ (omega arith) _ _ c.move_operators-moved.ensures
    (omega arith) (omega arith) _ _ _
    (omega arith) (omega arith) (omega arith) (omega arith) (omega arith))

use native.Mathlib.Omega.{arith}
use Rattle.sessions_entry.specs.EntryLaws.{clear_kept, clear_begun}
use Rattle.sessions_entry.proofs.clear.Goals as goal

pub returns-then-answer-ne0 : goal.returns-then-answer-ne0
returns-then-answer-ne0 c = clear_kept _ _ _ _ _ _ _ _ _ _ _ _ _ _ _ _ _ _ c.clear-answer.ensures
    (omega arith) (omega arith) (omega arith) (omega arith) (omega arith) _
    (λ z. omega (arith, z, c.if-answer-ne0.true)) (omega arith) (omega arith)

pub returns : goal.returns
returns c = clear_begun _ _ _ _ _ _ _ _ _ _ _ _ _ _ _ _ _ _ c.clear-answer.ensures
    (omega arith) (omega arith) (omega arith) (omega arith) (omega arith) _
    (omega (arith, c.if-answer-ne0.false)) (omega arith) (omega arith)

use Rattle.takedown_entry.specs.Entry.{invert_beyond, invert_refused}
use Rattle.takedown_entry.proofs.invert.invert.Goals as goal

pub returns-then-start-log : goal.returns-then-start-log
returns-then-start-log c = rw c.answer.ensures (invert_beyond _ _ _ _ c.if-start-log.true)

pub returns-then-counts-ne0 : goal.returns-then-counts-ne0
returns-then-counts-ne0 c = invert_refused _ _ _ _ c.if-start-log.false _ c.count-counts.ensures c.if-counts-ne0.true

pub returns : goal.returns
returns c = rw c.answer-2.ensures c.taken_down.ensures

use Rattle.euler.specs.AdmitLaws.{use_none, use_free, use_used}
use Rattle.euler.proofs.admit.use_refusal.Goals as goal

pub returns-then-n-eq0 : goal.returns-then-n-eq0
returns-then-n-eq0 c = use_none _ _ _ _ c.if-n-eq0.true

pub returns-then-word-eq0 : goal.returns-then-word-eq0
returns-then-word-eq0 c = use_free _ _ _ _ c.if-n-eq0.false _ c.use_word-word.ensures
    c.if-word-eq0.true _ c.when_free.ensures

pub returns : goal.returns
returns c = use_used _ _ _ _ c.if-n-eq0.false _ c.use_word-word.ensures
    c.if-word-eq0.false _ c.when_used.ensures

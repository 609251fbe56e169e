use Rattle.std.proofs.Common.{rules}
use Rattle.table.specs.Clear.{clear_of}
use Rattle.table.specs.ClearLaws.{clear_done}
use Rattle.table.proofs.clear.clear.Goals as goal

pub returns-then-not-sizes_fit : goal.returns-then-not-sizes_fit
unfolding clear_of
returns-then-not-sizes_fit c = search rules

pub returns : goal.returns
returns c = clear_done _ _ _ _ _ _ _ (search rules) _ _ _
    (c.fill.ensures.after (λ y e. e)) c.put_capacities.ensures (c.fill-2.ensures.after (λ y e. e))

use Rattle.std.proofs.Common.{rules}
use Rattle.table.specs.Count.{count_of}
use Rattle.table.specs.CountLaws.{counted_small}
use Rattle.table.proofs.count.count.Goals as goal

pub tally_of-requires : goal.tally_of-requires
tally_of-requires c = search (rules, counted_small)

pub returns-in-Ok : goal.returns-in-Ok
unfolding count_of
returns-in-Ok c = search rules

pub returns-in-Err : goal.returns-in-Err
unfolding count_of
returns-in-Err c = search rules

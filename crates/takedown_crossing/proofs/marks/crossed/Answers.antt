use mathlib.Core.Path.{refl}
use Rattle.takedown_crossing.specs.Marking.{crossed_steps}
use Rattle.takedown_crossing.proofs.marks.crossed.Goals as goal

pub returns : goal.returns
returns c = crossed_steps _ _ _ c.requires.0.edges _ _ _
    c.next_of-from.ensures.0
    c.mate_of-stop.ensures.0 refl _ c.mark_run.ensures _
    c.any_unpaired.ensures

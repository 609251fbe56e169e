use Rattle.check_orbits.specs.CyclesLaws.{rep_none, rep_some}
use Rattle.check_orbits.proofs.cycles.mark_rep.Goals as goal

pub returns-then-r-eq0 : goal.returns-then-r-eq0
returns-then-r-eq0 g c = λ f h. rep_none f _ _ _ c.if-r-eq0.true

pub returns : goal.returns
returns g c = λ f h. rep_some f _ _ _ _ c.if-r-eq0.false (c.mark_from.ensures f h)

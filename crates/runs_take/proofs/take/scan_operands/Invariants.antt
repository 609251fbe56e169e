use Rattle.std.proofs.Common.{◌≡◌, length, take, drop}
use Rattle.refusals.specs.Numbers.{refusal_in}
use Rattle.runs_take.specs.Take.{scan}
use Rattle.runs_take.proofs.take.scan_operands.Given as goal

abbrev pub invariant-loop-i : goal.invariant-loop-i
invariant-loop-i l = (length l.kinds ≡ 8)
    × (scan l.sh l.links l.script (drop l.i (take l.count l.kinds)) l.i l.next (refusal_in l.admitted) l.args
    ≡ scan l.sh l.links l.script (take l.count l.kinds) 0 l.behind 0 l.initial.args)

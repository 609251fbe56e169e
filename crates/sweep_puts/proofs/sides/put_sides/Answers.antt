use Rattle.sweep_puts.specs.SideLaws.{names_in, sides_one, sides_more}
use Rattle.sweep_puts.proofs.sides.put_sides.Goals as goal

pub returns-then-z-eq0 : goal.returns-then-z-eq0
returns-then-z-eq0 c = sides_one (names_in c.args.numbers.edges.now
    c.args.numbers.faces.now
    c.args.numbers.loops.now)
    c.args.l
    c.args.z
    c.args.b _ _ _ _ _ _
    c.if-z-eq0.true c.put_only.ensures

pub returns : goal.returns
returns c = sides_more (names_in c.args.numbers.edges.now
    c.args.numbers.faces.now
    c.args.numbers.loops.now)
    c.args.l
    c.args.z
    c.args.b _ _ _ _ _ _
    c.if-z-eq0.false c.put_round.ensures

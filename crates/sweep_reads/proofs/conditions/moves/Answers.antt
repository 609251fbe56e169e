use Rattle.sweep_reads.specs.ConditionLaws.{moves_free, moves_else, moves_is}
use borrow.Author.Rules.{rules}
use Rattle.sweep_reads.proofs.conditions.moves.Goals as goal

pub returns-then-start-eq0 : goal.returns-then-start-eq0
returns-then-start-eq0 c = moves_free c.args.sh c.args.links.now
    c.args.points.now c.args.f _
    c.args.k _ c.start_of-start.ensures.0 c.if-start-eq0.true

pub returns-then-side_of-f : goal.returns-then-side_of-f
returns-then-side_of-f c = moves_else c.args.sh
    c.args.links.now
    c.args.points.now
    c.args.f _ c.args.k _
    c.start_of-start.ensures.0 _
    c.side_of.ensures.0 c.if-side_of-f.true

pub returns : goal.returns
returns c = moves_is c.args.sh c.args.links.now c.args.points.now c.args.f c.args.v c.args.k _ _ _ _ _ (search rules)
    (search rules) (search rules) c.start_of-start.ensures.0 c.if-start-eq0.false c.side_of.ensures.0
    c.if-side_of-f.false c.fits-x.ensures c.fits-y.ensures c.fits-z.ensures

use Rattle.wavefront_entry.specs.ObjLaws.{check_refused, checked, call_drawn}
use Rattle.wavefront_entry.proofs.obj.obj.Goals as goal

pub returns-then-a-ne0 : goal.returns-then-a-ne0
returns-then-a-ne0 c = check_refused c.args.links.now c.args.points.now c.args.s _ c.check-a.ensures c.args.out.now
    c.if-a-ne0.true

pub draw-requires : goal.draw-requires
draw-requires c = checked c.args.links.now c.args.points.now c.args.s _ c.check-a.ensures c.if-a-ne0.false _
    c.shape_of.ensures

pub returns-in-Ok : goal.returns-in-Ok
returns-in-Ok c = call_drawn c.args.links.now c.args.points.now c.args.s _ c.check-a.ensures c.if-a-ne0.false _
    c.shape_of.ensures c.args.out.now _ c.in-Ok.ensures

pub returns-in-Err : goal.returns-in-Err
returns-in-Err c = call_drawn c.args.links.now c.args.points.now c.args.s _ c.check-a.ensures c.if-a-ne0.false _
    c.shape_of.ensures c.args.out.now _ (rw c.number.ensures c.in-Err.ensures)

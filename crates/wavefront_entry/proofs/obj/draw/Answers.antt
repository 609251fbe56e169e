use Rattle.wavefront_entry.specs.ObjLaws.{solid_refused, drawable, answered}
use Rattle.wavefront_entry.proofs.obj.draw.Goals as goal

pub write_solid-requires : goal.write_solid-requires
write_solid-requires c = drawable _ _ _ _ c.requires c.in-Ok.ensures

pub returns-in-Ok : goal.returns-in-Ok
returns-in-Ok c = answered c.args.sh c.args.links.now c.args.points.now c.args.s c.requires c.in-Ok.ensures
    c.args.out.now _ c.write_solid.ensures

pub returns-in-Err : goal.returns-in-Err
returns-in-Err c = solid_refused c.args.sh c.args.links.now c.args.points.now c.args.s c.requires _ c.in-Err.ensures
    c.args.out.now

use Rattle.wavefront_entry.specs.ObjLaws.{drawable_ranges, drawable_small, room_enough}
use Rattle.wavefront_entry.specs.ObjLaws.{measured_short, measured_long}
use Rattle.wavefront_entry.proofs.obj.overlong.Goals as goal

pub longest-requires : goal.longest-requires
longest-requires c = drawable_small c.requires.0

pub returns-then-room-longest : goal.returns-then-room-longest
returns-then-room-longest c = room_enough c.requires.0 _ _ c.longest.ensures c.if-room-longest.true

pub put_text-length-requires : goal.put_text-length-requires
put_text-length-requires c = let a = c.requires.0 in
    let k = c.requires.1 in
    record {
      low = (k.low, drawable_small a);
      all_in_range = drawable_ranges a;
    }

pub returns-then-length-room : goal.returns-then-length-room
returns-then-length-room c = measured_short c.requires.0
    c.args.ranks.now
    c.requires.1
    _ _ _ _ c.put_text-length.ensures c.if-length-room.true

pub returns : goal.returns
returns c = measured_long c.requires.0
    c.args.ranks.now
    c.requires.1
    _ _ _ _ c.put_text-length.ensures c.if-length-room.false

use Rattle.wavefront_entry.specs.ObjLaws.{drawable_ranges, drawable_small, written_in, refused_13}
use Rattle.wavefront_entry.proofs.obj.write_solid.Goals as goal

pub rank_vertices-requires : goal.rank_vertices-requires
rank_vertices-requires c = drawable_small c.requires

pub returns-in-Some : goal.returns-in-Some
returns-in-Some c = refused_13 _ c.args.out.now _ c.in-Some.ensures

pub put_text-requires : goal.put_text-requires
put_text-requires c = let k = c.rank_vertices.ensures in record {
  low = (k.low, drawable_small c.requires);
  all_in_range = drawable_ranges c.requires;
}

pub returns : goal.returns
returns c = written_in c.requires _ c.rank_vertices.ensures c.args.out.now _ _ _ c.overlong.ensures c.in_default.is
    c.put_text.ensures

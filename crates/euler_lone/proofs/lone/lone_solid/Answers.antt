use Rattle.std.proofs.Common.{refl, ◌∙◌, arith}
use Rattle.std.proofs.Math.Path.{ap}
use Rattle.layout.specs.Layout.{face_outer, loop_isolated}
use Rattle.euler_lone.proofs.lone.lone_solid.Goals as goal

pub returns : goal.returns
returns c = let a = c.args in let e = c.face_in-face.ensures in
    let o = c.face_outer-outer.ensures in let v = c.loop_isolated-vertex.ensures in
    let l = o.0 ∙ ap (face_outer a.sh a.links.now) e.0 in
    let w = v.0 ∙ ap (loop_isolated a.sh a.links.now) l in record {
      any = record {
        solid = refl;
        face = e.0;
        outer = l;
        vertex = w;
        face_small = e.1;
        outer_small = o.1;
        vertex_small = v.1;
      };
      small = λ b. record {
        solid = refl;
        face = e.0;
        outer = l;
        vertex = w;
        solid_small = omega (arith, b);
        face_small = e.1;
        outer_small = o.1;
        vertex_small = v.1;
      };
    }

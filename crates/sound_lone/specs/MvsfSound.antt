-- mvsf on the columns: free numbers s, f, l and v become a solid of one face with one isolated loop.
use Rattle.std.specs.Prelude.{◌≡◌, true, List, ℕ, ℤ}
use Rattle.std.proofs.Common.{sym, ap, ◌∙◌, arith}
use Rattle.layout.specs.declared.shape.Shape.{Shape}
use Rattle.layout.specs.Fields.{SolidUsed, Solid, Face, VertexUsed, Columns}
use Rattle.sound_tables.specs.Sound.{In, PointSound, Sound}
use Rattle.sound_tables.specs.Names.{loop_unnamed, start_unnamed, isolated_unnamed}
use Rattle.sound_lone.specs.Placed.{placed, Detached, placed_sound}

-- s, f, l and v are free
pub record Free (sh : Shape) (c : Columns) (s f l v : ℕ) : Type 0 where
  pub solid_in : In sh.solids s
  pub face_in_lem : In sh.faces f
  pub loop_in : In sh.loops l
  pub vertex_in : In sh.vertices v
  pub solid : c SolidUsed s ≡ 0
  pub face : c Solid f ≡ 0
  pub loop : c Face l ≡ 0
  pub vertex : c VertexUsed v ≡ 0

module _ {sh : Shape} {p : List ℤ} {c : Columns} (a : Sound sh p c) {s f l v : ℕ} (r : Free sh c s f l v) where
  -- what is free is named by nothing and names nothing
  pub free_detached : Detached sh c s f l v
  free_detached = record {
    solid_in = r.solid_in;
    face_in_lem = r.face_in_lem;
    loop_in = r.loop_in;
    vertex_in = r.vertex_in;
    no_face = λ g i n e. (a.face g i (λ z. omega (arith, r.solid_in.0, sym e ∙ z))).solid_used_lem
        (ap (c SolidUsed) e ∙ r.solid);
    no_loop = λ m i n e. (a.loop m i (λ z. omega (arith, r.face_in_lem.0, sym e ∙ z))).face_used
        (ap (c Solid) e ∙ r.face);
    no_lone = λ m i n. isolated_unnamed a v r.vertex_in r.vertex m i;
    no_half = loop_unnamed a l r.loop_in r.loop;
    no_start = start_unnamed a v r.vertex_in r.vertex;
    face_own = λ n i d e. omega (arith, i.0, sym r.face ∙ e);
    loop_own = λ g i d e. omega (arith, i.0, sym r.loop ∙ e);
    lone_own = λ w i d e. omega (arith, i.0, sym (a.loop_free l r.loop_in r.loop).1 ∙ e);
  }

  -- the table is sound afterwards
  pub mvsf_sound : {q : List ℤ} → ((w : ℕ) → In sh.vertices w → PointSound q (placed c s f l v 1 s l f v) w)
      → Sound sh q (placed c s f l v 1 s l f v)
  mvsf_sound = placed_sound a free_detached true

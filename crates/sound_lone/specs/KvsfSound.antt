-- kvsf on the columns: a solid of one face with one isolated loop goes. What stays does not name what goes.
use Rattle.std.specs.Prelude.{◌≡◌, ◌≢◌, false, List, ℕ, ◌*◌, ℤ}
use Rattle.std.proofs.Common.{sym, ap, ◌∙◌, arith}
use Rattle.layout.specs.declared.shape.Shape.{Shape}
use Rattle.layout.specs.Fields.{Solid, Outer, Face, First, Isolated, Start, VertexUsed, Columns}
use Rattle.sound_tables.specs.Sound.{In, PointSound, Sound}
use Rattle.sound_tables.specs.Names.{lone_used, lone_unnamed, lone_alone}
use Rattle.sound_lone.specs.Placed.{placed, Detached, placed_sound}

-- solid s has the face f alone, f the loop l alone, and l is isolated at v
pub record OneLoop (sh : Shape) (c : Columns) (s f l v : ℕ) : Type 0 where
  pub solid_in : In sh.solids s
  pub face_in_lem : In sh.faces f
  pub loop_in : In sh.loops l
  pub vertex_in : In sh.vertices v
  pub solid : c Solid f ≡ s
  pub outer : c Outer f ≡ l
  pub face : c Face l ≡ f
  pub first : c First l ≡ 0
  pub isolated : c Isolated l ≡ v
  pub only_face : (g : ℕ) → In sh.faces g → c Solid g ≡ s → g ≡ f
  pub only_loop_lem : (m : ℕ) → In sh.loops m → c Face m ≡ f → m ≡ l

-- its loop is isolated
one_isolated : {sh : Shape} {c : Columns} {s f l v : ℕ} → OneLoop sh c s f l v → c Isolated l ≢ 0
one_isolated o z = omega (arith, o.vertex_in.0, sym o.isolated ∙ z)

-- so the vertex is in use
pub one_used : {sh : Shape} {p : List ℤ} {c : Columns} → Sound sh p c → {s f l v : ℕ} → OneLoop sh c s f l v
    → c VertexUsed v ≢ 0
one_used {c = c} a {l = l} o z = (lone_used a l o.loop_in (one_isolated o)).2 (ap (c VertexUsed) o.isolated ∙ z)

module _ {sh : Shape} {p : List ℤ} {c : Columns} (a : Sound sh p c) {s f l v : ℕ} (o : OneLoop sh c s f l v) where
  -- v is isolated in l alone and starts nothing
  v_only : ((m : ℕ) → In sh.loops m → c Isolated m ≡ v → m ≡ l) × ((k : ℕ) → In (2 * sh.edges) k → c Start k ≢ v)
  v_only = rw o.isolated at (lone_alone a l o.loop_in (one_isolated o))

  -- no other item names one of the four, and they name no other
  one_detached : Detached sh c s f l v
  one_detached = record {
    solid_in = o.solid_in;
    face_in_lem = o.face_in_lem;
    loop_in = o.loop_in;
    vertex_in = o.vertex_in;
    no_face = λ g i n e. n (o.only_face g i e);
    no_loop = λ m i n e. n (o.only_loop_lem m i e);
    no_lone = λ m i n e. n (v_only.0 m i e);
    no_half = lone_unnamed a l o.loop_in (one_isolated o);
    no_start = v_only.1;
    face_own = λ n i d e. d (sym e ∙ o.solid);
    loop_own = λ g i d e. d (sym e ∙ o.face);
    lone_own = λ w i d e. d (sym e ∙ o.isolated);
  }

  -- the table is sound afterwards
  pub kvsf_sound : {q : List ℤ} → ((w : ℕ) → In sh.vertices w → PointSound q (placed c s f l v 0 0 0 0 0) w)
      → Sound sh q (placed c s f l v 0 0 0 0 0)
  kvsf_sound = placed_sound a one_detached false

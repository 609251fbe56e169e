-- WHAT A SWEEP LEAVES (document 02, job 7): "one riser per corner and one side face per side", "the lifted face keeps
-- its number, each side face is the new one". Loop l has corners 0 .. z from its first half-edge, and b corners of the
-- face are swept before it. N are the numbers that are free at the call, by rank.
use Rattle.std.specs.Prelude.{◌≡◌, refl, ◌≢◌, List, ℕ, suc, ◌+◌, ◌-◌, ◌*◌, ◌≤◌, ◌<◌, ℤ}
use Rattle.std.proofs.Common.{sym, ap, ◌∙◌, subst, inr, arith, lit≤}
use Rattle.laws.specs.Bools.{split, eqb_same, eqb_other}
use Rattle.layout.specs.declared.shape.Shape.{Shape}
use Rattle.layout.specs.Mate.{mate}
use Rattle.layout.specs.MateLaws.{mate_mate}
use Rattle.layout.specs.Points.{coordinate}
use Rattle.layout.specs.Fields.{SolidUsed, Solid, Outer, Face, Isolated, Start, Loop, Next, VertexUsed, Columns}
use Rattle.sound_tables.specs.Sound.{In, HalfUsed, Sound}
use Rattle.sound_tables.specs.Good.{own, Good}
use Rattle.chains.specs.Numbers.{Names, free_names}
use Rattle.sweeps.specs.declared.Vector.{Vector}
use Rattle.sweeps.specs.Sweep.{corner_of, corners_in, corners_to, down_at, moved_by}
use Rattle.sweeps.specs.Rising.{On}
use Rattle.sweeps.specs.Frames.{SameHalf, SamePoint}
use Rattle.sweeps.specs.Lifted.{up_at, after_at, top_at, top_after, Side, Four, only_in, only_four, Lifted}
use Rattle.sweeps.specs.Amid.{riser_rank, side_rank, corner_rank}
use Rattle.sweeps.specs.Laps.{lap_all}
use Rattle.sweeps.specs.Accepted.{Sweepable, supply, corners_up, setting, sweep_reach}

-- one side: loop m, the outer one of face g, is the corner k, the riser s up, the new edge's half t, the riser h down,
-- and no more
pub record SweptSide (sh : Shape) (d : Columns) (m g k s t h : ℕ) : Type 0 where
  -- the four follow each other, round, in loop m, which lies in face g and is its outer one; the face is in use
  pub round : Side sh d m g k s t h
  -- no other half-edge lies in loop m
  pub only : (i : ℕ) → HalfUsed sh d i → d Loop i ≡ m → Four k s t h i

-- one of the lifted halves of the sides' new edges
abbrev pub OneTop : Names → ℕ → ℕ → ℕ → Type 0
OneTop N z b i = (j : ℕ) × (j ≤ z) × (i ≡ top_at N z b j)

-- one loop: its half-edges at the call are its corners, each once; it stays in face f and is the lifted halves, in
-- order, and no more; each corner has its side, in a new loop, the outer one of a new face of the same solid; its two
-- new edges and its new vertex were free at the call; each riser leads from the corner's vertex to the new vertex,
-- where the lifted half starts and which lies at the corner's point moved by v
pub record SweptLoop (sh : Shape) (x : List ℕ) (p : List ℤ) (v : Vector) (N : Names) (f l z b : ℕ) (d : Columns)
    (q : List ℤ) : Type 0 where
  -- the corners were in use and lay in loop l
  pub corner_in : (j : ℕ) → j ≤ z → HalfUsed sh (own sh x) (corner_of sh x l j)
      × (own sh x Loop (corner_of sh x l j) ≡ l)
  -- they are different half-edges
  pub corner_apart : (i j : ℕ) → i ≤ z → j ≤ z → corner_of sh x l i ≡ corner_of sh x l j → i ≡ j
  -- each half-edge that lay in loop l is one of them
  pub corners : (i : ℕ) → HalfUsed sh (own sh x) i → own sh x Loop i ≡ l → (j : ℕ) × (j ≤ z) × (i ≡ corner_of sh x l j)
  -- the loop lies in face f
  pub face : d Face l ≡ f
  -- in it follow each other, round, the lifted halves of the sides' new edges
  pub top : (j : ℕ) → j ≤ z → On sh d l (top_at N z b j) (top_after N z b j)
  -- and no other half-edge lies in it
  pub only : (i : ℕ) → HalfUsed sh d i → d Loop i ≡ l → OneTop N z b i
  -- the side over corner j
  pub side : (j : ℕ) → j ≤ z → SweptSide sh d (N.loop (b + j)) (N.face (b + j)) (corner_of sh x l j)
      (after_at N z b j) (mate (top_at N z b j)) (down_at N b j)
  -- its loop and its face were free
  pub side_new : (j : ℕ) → j ≤ z → (own sh x Face (N.loop (b + j)) ≡ 0) × (own sh x Solid (N.face (b + j)) ≡ 0)
  -- its face is of the solid of face f
  pub side_solid : (j : ℕ) → j ≤ z → d Solid (N.face (b + j)) ≡ own sh x Solid f
  -- its loop is the outer one of its face
  pub side_outer : (j : ℕ) → j ≤ z → d Outer (N.face (b + j)) ≡ N.loop (b + j)
  -- the edge of riser j and the new edge of side j were free
  pub edge_new : (j : ℕ) → j ≤ z → (own sh x Start (2 * N.edge (2 * b + j)) ≡ 0)
      × (own sh x Start (2 * N.edge (2 * b + suc z + j)) ≡ 0)
  -- the corner starts where it did
  pub corner_start : (j : ℕ) → j ≤ z → d Start (corner_of sh x l j) ≡ own sh x Start (corner_of sh x l j)
  -- the riser's up half starts there
  pub up_start : (j : ℕ) → j ≤ z → d Start (up_at N b j) ≡ own sh x Start (corner_of sh x l j)
  -- its down half at the new vertex
  pub down_start : (j : ℕ) → j ≤ z → d Start (down_at N b j) ≡ N.vertex (b + j)
  -- so does the lifted half
  pub top_start : (j : ℕ) → j ≤ z → d Start (top_at N z b j) ≡ N.vertex (b + j)
  -- the new vertex was free
  pub vertex_new : (j : ℕ) → j ≤ z → own sh x VertexUsed (N.vertex (b + j)) ≡ 0
  -- and is in use
  pub vertex_used : (j : ℕ) → j ≤ z → d VertexUsed (N.vertex (b + j)) ≢ 0
  -- its first coordinate is that of the corner's start, moved by v
  pub point_x : (j : ℕ) → j ≤ z → coordinate q (N.vertex (b + j)) 0 ≡ moved_by sh x p 0 v.x (corner_of sh x l j)
  -- so is its second
  pub point_y : (j : ℕ) → j ≤ z → coordinate q (N.vertex (b + j)) 1 ≡ moved_by sh x p 1 v.y (corner_of sh x l j)
  -- and its third
  pub point_z : (j : ℕ) → j ≤ z → coordinate q (N.vertex (b + j)) 2 ≡ moved_by sh x p 2 v.z (corner_of sh x l j)

-- the rest, of what was in use at the call: half-edges of other faces than f are as they were, all start where they
-- did, loops lie in their faces and have their lone vertices, faces are of their solids and have their outer loops,
-- vertices stay in use and lie where they lay; and all solids have their marks
pub record SweptRest (sh : Shape) (c : Columns) (p : List ℤ) (f : ℕ) (d : Columns) (q : List ℤ) : Type 0 where
  -- a half-edge that lay in a loop of another face has its start, loop, next and previous one as before
  pub half : (i : ℕ) → HalfUsed sh c i → c Face (c Loop i) ≢ f → SameHalf c d i
  -- each half-edge that was in use starts where it did
  pub start : (i : ℕ) → HalfUsed sh c i → d Start i ≡ c Start i
  -- each loop that was in use lies in its face
  pub face : (l : ℕ) → In sh.loops l → c Face l ≢ 0 → d Face l ≡ c Face l
  -- and has the lone vertex that it had, 0 if it had none
  pub isolated : (l : ℕ) → In sh.loops l → c Face l ≢ 0 → d Isolated l ≡ c Isolated l
  -- each face that was in use is of its solid
  pub solid : (g : ℕ) → In sh.faces g → c Solid g ≢ 0 → d Solid g ≡ c Solid g
  -- and has its outer loop
  pub outer : (g : ℕ) → In sh.faces g → c Solid g ≢ 0 → d Outer g ≡ c Outer g
  -- each solid, in use or not, has its mark
  pub solid_mark : (s : ℕ) → In sh.solids s → d SolidUsed s ≡ c SolidUsed s
  -- each vertex that was in use is in use
  pub used : (w : ℕ) → In sh.vertices w → c VertexUsed w ≢ 0 → d VertexUsed w ≢ 0
  -- and lies where it lay
  pub point : (w : ℕ) → In sh.vertices w → c VertexUsed w ≢ 0 → SamePoint p q w

-- of the first ne edge numbers, and of the first n of each other kind: each is in range, and numbers of different ranks
-- differ
pub record NamesApart (sh : Shape) (N : Names) (ne n : ℕ) : Type 0 where
  -- edges stand between 1 and their capacity
  pub edge_in_range : (j : ℕ) → j < ne → In sh.edges (N.edge j)
  -- and differ
  pub edge_apart : (i j : ℕ) → i < ne → j < ne → N.edge i ≡ N.edge j → i ≡ j
  -- so vertices
  pub vertex_in : (j : ℕ) → j < n → In sh.vertices (N.vertex j)
  -- which differ
  pub vertex_apart : (i j : ℕ) → i < n → j < n → N.vertex i ≡ N.vertex j → i ≡ j
  -- so faces
  pub face_in_lem : (j : ℕ) → j < n → In sh.faces (N.face j)
  -- which differ
  pub face_apart : (i j : ℕ) → i < n → j < n → N.face i ≡ N.face j → i ≡ j
  -- so loops
  pub loop_in : (j : ℕ) → j < n → In sh.loops (N.loop j)
  -- which differ
  pub loop_apart : (i j : ℕ) → i < n → j < n → N.loop i ≡ N.loop j → i ≡ j

-- all of it: y, q is the table x, p with face f swept by v; the numbers that are taken are in range and all different;
-- the ranks of a loop come after those of the loops before it, one for each corner
pub record SweptFace (sh : Shape) (x : List ℕ) (p : List ℤ) (f : ℕ) (v : Vector) (y : List ℕ) (q : List ℤ) :
    Type 0 where
  -- the numbers of all corners of the face
  pub names : NamesApart sh (free_names sh x) (2 * corners_to sh x f sh.loops) (corners_to sh x f sh.loops)
  -- each loop of the face has its ranks, one for each of its corners 0 .. z, after those of the loops before it
  pub ranks : (l : ℕ) → In sh.loops l → own sh x Face l ≡ f
      → corners_to sh x f l ≡ corners_to sh x f (l - 1) + suc (corners_in sh x l - 1)
  -- each loop of the face is swept
  pub loop : (l : ℕ) → In sh.loops l → own sh x Face l ≡ f → SweptLoop sh x p v (free_names sh x) f l
      (corners_in sh x l - 1) (corners_to sh x f (l - 1)) (own sh y) q
  -- the rest is kept
  pub rest : SweptRest sh (own sh x) p f (own sh y) q

-- ---- from what the sweep of a loop leaves

module _ {sh : Shape} {p₁ : List ℤ} {d : Columns} (S : Sound sh p₁ d) {N : Names} {k : ℕ → ℕ} {X Y Z : ℕ → ℤ}
    {l z b : ℕ} {q : List ℤ} (y : Lifted sh N k X Y Z l z b d q) where
  -- the lifted halves are all of the loop
  only_top : (i : ℕ) → HalfUsed sh d i → d Loop i ≡ l → OneTop N z b i
  only_top i u e =
      let o = y.top 0 (omega arith) in
      only_in S.rules.loops (OneTop N z b) go (top_at N z b 0) o.0 (0, omega arith, refl) i u (e ∙ sym o.1)
    where
      go : (i : ℕ) → OneTop N z b i → OneTop N z b (d Next i)
      go i t =
          let e = ap (d Next) t.2 ∙ (y.top t.0 t.1).2 in
          split t.0 z
          (λ h. (0, omega arith, rw (eqb_same h) at e))
          (λ h. (suc t.0, omega (arith, t.1, h), rw (eqb_other h) at e))

  -- a riser starts where its corner starts
  up_is : (j : ℕ) → j ≤ z → d Start (up_at N b j) ≡ d Start (k j)
  up_is j u =
      let o = (y.side j u).down in
      let w = subst (HalfUsed sh d) (mate_mate (up_at N b j)) (S.rules.mate_in (down_at N b j) o.0) in
      sym (S.rules.verts.keeps (up_at N b j) w) ∙ ap (d Start) o.2

  -- a lifted half starts where the riser down starts
  top_is : (j : ℕ) → j ≤ z → d Start (top_at N z b j) ≡ N.vertex (b + j)
  top_is j u =
      sym (S.rules.verts.keeps (top_at N z b j) (y.top j u).0) ∙ ap (d Start) (y.side j u).back.2
      ∙ y.risen.start j (omega arith)

  -- a side's face is of the solid of the loop's face
  solid_is : (j : ℕ) → j ≤ z → d Solid (N.face (b + j)) ≡ d Solid (d Face l)
  solid_is j u =
      let t = top_at N z b j in
      let o = y.top j u in
      let n = y.side j u in
      ap (d Solid) (sym (ap (d Face) n.back.1 ∙ n.face)) ∙ S.solids.edge t o.0
      ∙ ap (λ m. d Solid (d Face m)) o.1

-- ---- the theorem

module _ {sh : Shape} {x : List ℕ} {p : List ℤ} (g : Good sh x p) {start f : ℕ} {v : Vector} (r : Sweepable sh x p start
    f v) where
  -- SWEEP-SIDES: the table that the operators of a sweep leave
  pub sweep_sides : SweptFace sh x p f v (sweep_reach g r).links (sweep_reach g r).points
  sweep_sides =
      let w = sweep_reach g r in
      let m = w.holds in
      let S = w.good.sound in
      let s = supply g r in
      record {
        names = record {
          edge_in_range = s.edge_in_range;
          edge_apart = s.edge_apart;
          vertex_in = s.vertex_in;
          vertex_apart = s.vertex_apart;
          face_in_lem = s.face_in_lem;
          face_apart = s.face_apart;
          loop_in = s.loop_in;
          loop_apart = s.loop_apart;
        };
        ranks = corners_up g r;
        loop = λ l i e.
            let y = m.lifted l i i.1 e in
            let Q = setting g r l i e (corners_to sh x f (l - 1)) refl in
            let lf : own sh w.links Face l ≡ f =
            m.keeps.face l i (λ z. omega (arith, r.face_in_lem.0, sym e ∙ z)) ∙ e in
            let cs : (j : ℕ) → j ≤ corners_in sh x l - 1
            → own sh w.links Start (corner_of sh x l j) ≡ own sh x Start (corner_of sh x l j) =
            λ j u. m.keeps.start (corner_of sh x l j) (Q.lap.used j u) in
            record {
              corner_in = λ j u. (Q.lap.used j u, Q.lap.loop j u);
              corner_apart = Q.lap.apart;
              corners = lap_all g.sound Q.lap;
              face = lf;
              top = y.top;
              only = only_top S y;
              side = λ j u. record { round = y.side j u; only = only_four S (y.side j u) };
              side_new = λ j u. let h = corner_rank Q j u in
                  (Q.fresh.loops _ (omega arith) h, Q.fresh.faces _ (omega arith) h);
              side_solid = λ j u.
                  solid_is S y j u ∙ ap (own sh w.links Solid) lf ∙ m.keeps.solid f r.face_in_lem r.face_used;
              side_outer = λ j u. (y.side j u).outer;
              edge_new = λ j u. (
                Q.fresh.edges _ (omega arith) (riser_rank Q j u),
                Q.fresh.edges _ (omega arith) (side_rank Q j u),
              );
              corner_start = cs;
              up_start = λ j u. up_is S y j u ∙ cs j u;
              down_start = λ j u. y.risen.start j (omega (arith, u));
              top_start = top_is S y;
              vertex_new = λ j u. Q.fresh.vertices _ (omega arith) (corner_rank Q j u);
              vertex_used = λ j u. y.risen.used j (omega (arith, u));
              point_x = λ j u. y.risen.point j (omega (arith, u)) 0 (lit≤ tt);
              point_y = λ j u. y.risen.point j (omega (arith, u)) 1 (lit≤ tt);
              point_z = λ j u. y.risen.point j (omega (arith, u)) 2 (lit≤ tt);
            };
        rest = record {
          half = λ i u e. m.keeps.half i u (inr e);
          start = m.keeps.start;
          face = m.keeps.face;
          isolated = m.keeps.isolated;
          solid = m.keeps.solid;
          outer = m.keeps.outer;
          solid_mark = m.keeps.solid_mark;
          used = m.keeps.used;
          point = m.keeps.point;
        };
      }

-- What mev at a half-edge leaves, column by column: off the new edge and the corner's neighbours nothing changes. And
-- the points: the new vertex gets its own, the others stay.
use Rattle.std.specs.Prelude.{◌≡◌, refl, ◌≢◌, false, List, ℕ, ◌*◌, ◌≤◌, ◌<◌, ℤ}
use Rattle.std.proofs.Common.{sym, ap, ◌∙◌, arith}
use Rattle.laws.specs.Bools.{eqb_other}
use Rattle.laws.specs.Update.{upd_same, upd_off}
use Rattle.layout.specs.declared.shape.Shape.{Shape}
use Rattle.layout.specs.Mate.{mate}
use Rattle.layout.specs.Fields.{Field, SolidUsed, Solid, Outer, Face, Isolated, Start, Loop, Next, Prev, VertexUsed}
use Rattle.layout.specs.Fields.{Columns, cap_of, same_field}
use Rattle.layout.specs.Points.{point_width, coordinate}
use Rattle.euler.specs.Exec.{links_after, points_after}
use Rattle.sound_tables.specs.Mates.{mate_other}
use Rattle.sound_tables.specs.EdgeIn.{prev_in}
use Rattle.sound_tables.specs.Sound.{In, HalfUsed}
use Rattle.sound_tables.specs.Good.{own, Good, marked}
use Rattle.sound_tables.specs.PointLists.{three, put_at, put_off}
use Rattle.sound_spurs.specs.MevSound.{NewEdge, mev_columns}
use Rattle.sound_spurs.specs.MevRules.{beside_edge}
use Rattle.sound_spurs.specs.MevAccepted.{Mev, mev_of, new_half, MevFits, new_edge, mev_links_lem, mev_accepted}
use Rattle.sound_spurs.specs.MevAccepted.{mev_place}
use Rattle.sound_spurs.specs.MevAccepted.{mev_shows, mev_points_lem}
use Rattle.sound_valence.specs.Kept.{links_else, links_used}

-- columns d are c with half-edge k of loop l, and its mate, put in before h, from h's vertex to the new vertex v; loop
-- l has no lone vertex then, the other loops have theirs; the faces of loops, the solids and outer loops of faces and
-- the marks of solids are as they were
pub record Raised (sh : Shape) (c d : Columns) (l h k v : ℕ) : Type 0 where
  pub next_P : d Next (c Prev h) ≡ k
  pub next_k : d Next k ≡ mate k
  pub next_b : d Next (mate k) ≡ h
  pub next_else : (i : ℕ) → i ≤ 2 * sh.edges → i ≢ c Prev h → i ≢ k → i ≢ mate k → d Next i ≡ c Next i
  pub prev_else : (i : ℕ) → i ≤ 2 * sh.edges → i ≢ h → i ≢ k → i ≢ mate k → d Prev i ≡ c Prev i
  pub loop_k : d Loop k ≡ l
  pub loop_b : d Loop (mate k) ≡ l
  pub loop_else : (i : ℕ) → i ≤ 2 * sh.edges → i ≢ k → i ≢ mate k → d Loop i ≡ c Loop i
  pub start_k : d Start k ≡ c Start h
  pub start_b : d Start (mate k) ≡ v
  pub start_else : (i : ℕ) → i ≤ 2 * sh.edges → i ≢ k → i ≢ mate k → d Start i ≡ c Start i
  pub face : (n : ℕ) → n ≤ sh.loops → d Face n ≡ c Face n
  -- loop l has no lone vertex
  pub isolated_l : d Isolated l ≡ 0
  -- another has the one it had, 0 for none
  pub isolated_else : (n : ℕ) → n ≤ sh.loops → n ≢ l → d Isolated n ≡ c Isolated n
  pub solid : (n : ℕ) → n ≤ sh.faces → d Solid n ≡ c Solid n
  -- each face has its outer loop
  pub outer : (n : ℕ) → n ≤ sh.faces → d Outer n ≡ c Outer n
  pub vertex : (w : ℕ) → In sh.vertices w → w ≢ v → c VertexUsed w ≡ 0 → d VertexUsed w ≡ 0
  pub vertex_back : (w : ℕ) → In sh.vertices w → w ≢ v → d VertexUsed w ≡ 0 → c VertexUsed w ≡ 0
  pub vertex_new : d VertexUsed v ≢ 0
  pub solids : (n : ℕ) → n ≤ sh.solids → d SolidUsed n ≡ c SolidUsed n

module _ {sh : Shape} {x : List ℕ} {p : List ℤ} (g : Good sh x p) {m : Mev} (r : MevFits sh (own sh x) m)
    (hu : HalfUsed sh (own sh x) m.half) where
  -- the columns
  abbrev c : Columns
  c = own sh x

  -- afterwards
  abbrev d : Columns
  d = own sh (links_after sh x (mev_of m))

  -- the edge
  abbrev E : NewEdge
  E = beside_edge (own sh x) m.loop (new_half m) m.vertex m.half

  -- it is this one
  edge_is : new_edge (own sh x) m ≡ E
  edge_is = let n : m.half ≢ 0 = λ z. omega (arith, hu.0, z) in rw (eqb_other n)

  -- but for words, as mev leaves it
  read : (F : Field) → same_field VertexUsed F ≡ false → (n : ℕ) → n ≤ cap_of sh F → d F n ≡ mev_columns sh c E F n
  read F t n h =
      links_else (mev_of m) g refl (mev_accepted sh x g.capacities r) F t n h
      ∙ ap (λ y. own sh y F n) (mev_links_lem sh x g.capacities r)
      ∙ (mev_shows (marked g) r).at F n h ∙ ap (λ e. mev_columns sh c e F n) edge_is

  -- COLUMN BY COLUMN
  pub mev_raised : Raised sh (own sh x) (own sh (links_after sh x (mev_of m))) m.loop m.half (new_half m) m.vertex
  mev_raised =
      let o = mev_place (marked g) r in
      let k = new_half m in
      let b = mate (new_half m) in
      let h = m.half in
      let P = c Prev m.half in
      let kb : k ≢ b = mate_other k o.half_in.0 in
      let bk : b ≢ k = λ z. kb (sym z) in
      let pu = prev_in g.sound.rules h hu in
      let kP : k ≢ P = λ z. pu.2 (ap (c Start) (sym z) ∙ o.half_free) in
      let Pk : P ≢ k = λ z. kP (sym z) in
      let bP : b ≢ P = λ z. pu.2 (ap (c Start) (sym z) ∙ o.mate_free) in
      record {
        next_P = read Next refl P pu.1 ∙ upd_off _ _ Pk ∙ upd_same _ P k;
        next_k = read Next refl k o.half_in.1 ∙ upd_same _ k b;
        next_b = read Next refl b o.mate_in.1 ∙ upd_off _ _ bk ∙ upd_off _ _ bP ∙ upd_same _ b h;
        next_else = λ i u e f n. read Next refl i u ∙ upd_off _ _ f ∙ upd_off _ _ e ∙ upd_off _ _ n ∙ upd_off _ _ f;
        prev_else = λ i u e f n. read Prev refl i u ∙ upd_off _ _ e ∙ upd_off _ _ n ∙ upd_off _ _ n ∙ upd_off _ _ f;
        loop_k = read Loop refl k o.half_in.1 ∙ upd_off _ _ kb ∙ upd_same _ k _;
        loop_b = read Loop refl b o.mate_in.1 ∙ upd_same _ b _;
        loop_else = λ i u f n. read Loop refl i u ∙ upd_off _ _ n ∙ upd_off _ _ f;
        start_k = read Start refl k o.half_in.1 ∙ upd_off _ _ kb ∙ upd_same _ k _;
        start_b = read Start refl b o.mate_in.1 ∙ upd_same _ b _;
        start_else = λ i u f n. read Start refl i u ∙ upd_off _ _ n ∙ upd_off _ _ f;
        face = λ n u. read Face refl n u;
        isolated_l = read Isolated refl m.loop r.loop_in.1 ∙ upd_same _ m.loop 0;
        isolated_else = λ n u e. read Isolated refl n u ∙ upd_off _ _ e;
        solid = λ n u. read Solid refl n u;
        outer = λ n u. read Outer refl n u;
        vertex = λ w i e z.
            (links_used (mev_of m) g refl (mev_accepted sh x g.capacities r) w i).1
            (ap (λ y. own sh y VertexUsed w) (mev_links_lem sh x g.capacities r)
            ∙ (mev_shows (marked g) r).at VertexUsed w i.1 ∙ upd_off _ _ e ∙ z);
        vertex_back = λ w i e z.
            sym (ap (λ y. own sh y VertexUsed w) (mev_links_lem sh x g.capacities r)
            ∙ (mev_shows (marked g) r).at VertexUsed w i.1 ∙ upd_off _ _ e)
            ∙ (links_used (mev_of m) g refl (mev_accepted sh x g.capacities r) w i).0 z;
        vertex_new = λ z.
            let v = m.vertex in
            let y = ap (λ y. own sh y VertexUsed v) (mev_links_lem sh x g.capacities r)
            ∙ (mev_shows (marked g) r).at VertexUsed v r.vertex_in.1 ∙ upd_same _ v 1 in
            omega (arith, y, (links_used (mev_of m) g refl (mev_accepted sh x g.capacities r) v r.vertex_in).0 z);
        solids = λ n u. read SolidUsed refl n u;
      }

  -- the new vertex lies at its point
  pub mev_point : (i : ℕ) → i < point_width
      → coordinate (points_after sh x p (mev_of m)) m.vertex i ≡ three m.x m.y m.z i
  mev_point i h = ap (λ q. coordinate q m.vertex i) (mev_points_lem sh x g.capacities r p)
      ∙ put_at p m.vertex m.x m.y m.z r.vertex_in.0 (omega (arith, g.points, r.vertex_in.1)) i h

  -- the others lie where they lay
  pub mev_others : (w : ℕ) → w ≢ m.vertex → (i : ℕ) → i < point_width
      → coordinate (points_after sh x p (mev_of m)) w i ≡ coordinate p w i
  mev_others w n i h = ap (λ q. coordinate q w i) (mev_points_lem sh x g.capacities r p)
      ∙ put_off p m.vertex m.x m.y m.z w n i h

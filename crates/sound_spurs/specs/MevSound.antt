-- mev on the columns: a new edge goes in at a corner of a loop, from its vertex to a new one. What is left to show for
-- each kind of corner are the rules with dummies (`MevRules`).
use Rattle.std.specs.Prelude.{◌≡◌, ◌≢◌, ◌⊎◌, List, [], ◌∷◌, ℕ, ◌+◌, ◌-◌, ◌*◌, eqb, ℤ}
use Rattle.std.proofs.Common.{sym, ap, ◌∙◌, subst, inl, inr, ⊎_elim, arith}
use Rattle.laws.specs.Bools.{split, eqb_other}
use Rattle.laws.specs.Search.{least_ext}
use Rattle.laws.specs.Update.{upd_at, upd_same, upd_off}
use Rattle.laws.specs.Linked.{link, map_linked}
use Rattle.layout.specs.declared.shape.Shape.{Shape}
use Rattle.layout.specs.Mate.{mate}
use Rattle.layout.specs.MateLaws.{mate_mate}
use Rattle.layout.specs.Fields.{Solid, Face, First, Isolated, Start, Loop, Next, Prev, VertexUsed, Columns}
use Rattle.layout.specs.Writes.{Write, write, changes}
use Rattle.euler.specs.Surgery.{edge_writes}
use Rattle.sound_tables.specs.Mates.{mate⁺, mate_other}
use Rattle.sound_tables.specs.EdgeIn.{Rules}
use Rattle.sound_tables.specs.Solids.{Solids}
use Rattle.sound_tables.specs.Sound.{In, HalfUsed, FaceUsed, side, first_of, LoopSound, HalfSound, HalfFree, PointSound}
use Rattle.sound_tables.specs.Sound.{Sound, half_by_lem}
use Rattle.sound_tables.specs.Names.{lone_kept}
use Rattle.sound_tables.specs.WithDummies.{up_to_low, up_to_high, extended, Dummy, Member, Corners, sound_corners}
use Rattle.sound_tables.specs.WithDummies.{corners_rules, corners_loop, corners_vertex}

-- an edge that goes in: `half` in loop `loop`, from vertex `from` to the new vertex `to`; `before` comes before it,
-- `after` behind its mate
pub record NewEdge : Type 0 where
  pub loop : ℕ
  pub half : ℕ
  pub from : ℕ
  pub to : ℕ
  pub before : ℕ
  pub after : ℕ

-- the stores to half-edges
abbrev pub edge_stores : NewEdge → List Write
edge_stores E = edge_writes E.half E.from E.loop (mate E.half) E.before E.to E.loop E.after
    E.half

-- the columns with the edge in
abbrev pub edged : Columns → NewEdge → Columns
edged c E = changes (edge_stores E) c

-- the stores to the loop, whose first is then f, and to the new vertex
abbrev pub end_stores : NewEdge → ℕ → List Write
end_stores E f = write First E.loop f ∷ write Isolated E.loop 0 ∷ write VertexUsed E.to 1 ∷ []

-- the columns afterwards
abbrev pub mev_columns : Shape → Columns → NewEdge → Columns
mev_columns sh c E = changes (end_stores E (first_of sh (edged c E) E.loop)) (edged c E)

-- the corner where it goes in: an isolated vertex, where the edge is the whole loop, or a half-edge `after` of the loop
abbrev pub AtCorner : Shape → Columns → NewEdge → Type 0
AtCorner sh c E =
    ((E.before ≡ mate E.half) × (E.after ≡ E.half) × (c Isolated E.loop ≡ E.from))
    ⊎ (HalfUsed sh c E.before × HalfUsed sh c E.after × (c Next E.before ≡ E.after)
    × (c Prev E.after ≡ E.before)
    × (c Isolated E.loop ≡ 0))

-- the edge and the vertex are free, the loop and the corner's vertex in use
pub record MevPlace (sh : Shape) (c : Columns) (E : NewEdge) : Type 0 where
  pub loop_in : In sh.loops E.loop
  pub loop_used : c Face E.loop ≢ 0
  pub half_in : In (2 * sh.edges) E.half
  pub mate_in : In (2 * sh.edges) (mate E.half)
  pub half_free : c Start E.half ≡ 0
  pub mate_free : c Start (mate E.half) ≡ 0
  pub vertex_in : In sh.vertices E.to
  pub vertex_free : c VertexUsed E.to ≡ 0
  pub corner_in : In sh.vertices E.from
  pub corner_used : c VertexUsed E.from ≢ 0
  pub corner : AtCorner sh c E

-- the rules with dummies, for the columns afterwards
abbrev pub MevRules⁺ : Shape → Columns → NewEdge → Type 0
MevRules⁺ sh c E =
    Rules (2 * sh.edges + sh.loops) (mate⁺ sh.edges) (Member sh (mev_columns sh c E))
    (extended sh (mev_columns sh c E))

module _ {sh : Shape} {c : Columns} {E : NewEdge} (o : MevPlace sh c E) where
  open E use {loop as l, half as k, from as u, to as v, before as P, after as N}

  -- the columns afterwards
  abbrev d : Columns
  d = mev_columns sh c E

  -- the number of half-edges
  abbrev n : ℕ
  n = 2 * sh.edges

  -- the two halves differ
  pub kb : k ≢ mate k
  kb = mate_other k o.half_in.0

  -- a half-edge in use is not k
  pub off_k : (i : ℕ) → HalfUsed sh c i → i ≢ k
  off_k i w e = w.2 (ap (c Start) e ∙ o.half_free)

  -- nor the mate
  pub off_b : (i : ℕ) → HalfUsed sh c i → i ≢ mate k
  off_b i w e = w.2 (ap (c Start) e ∙ o.mate_free)

  -- k starts at the corner
  pub start_k : d Start k ≡ u
  start_k = upd_off _ v kb ∙ upd_same (c Start) k u

  -- its mate at the new vertex
  pub start_b : d Start (mate k) ≡ v
  start_b = upd_same _ (mate k) v

  -- the others where they did
  pub start_old : (i : ℕ) → i ≢ k → i ≢ mate k → d Start i ≡ c Start i
  start_old i e f = upd_off _ v f ∙ upd_off (c Start) u e

  -- k lies in the loop
  pub loop_k : d Loop k ≡ l
  loop_k = upd_off _ l kb ∙ upd_same (c Loop) k l

  -- so does its mate
  loop_b : d Loop (mate k) ≡ l
  loop_b = upd_same _ (mate k) l

  -- the others where they did
  pub loop_old : (i : ℕ) → i ≢ k → i ≢ mate k → d Loop i ≡ c Loop i
  loop_old i e f = upd_off _ l f ∙ upd_off (c Loop) l e

  -- the halves differ
  bk : mate k ≢ k
  bk z = kb (sym z)

  -- behind the mate comes N
  pub next_b : d Next (mate k) ≡ N
  next_b = ⊎_elim
      (λ w. upd_off _ _ bk ∙ rw w.0 (upd_same _ (mate k) k) ∙ sym w.1)
      (λ w. upd_off _ _ bk ∙ upd_off _ k (λ z. off_b P w.0 (sym z)) ∙ upd_same _ (mate k) N) o.corner

  -- before k comes P
  pub prev_k : d Prev k ≡ P
  prev_k = ⊎_elim
      (λ w. rw w.1 (upd_same _ k (mate k)) ∙ sym w.0)
      (λ w. upd_off _ _ (λ z. off_k N w.1 (sym z)) ∙ upd_off _ k kb ∙ upd_off _ k kb
      ∙ upd_same (c Prev) k P) o.corner

  -- k is in use
  pub new_k : HalfUsed sh d k
  new_k = (o.half_in.0, o.half_in.1, λ z. omega (arith, o.corner_in.0, sym start_k ∙ z))

  -- so is its mate
  pub new_b : HalfUsed sh d (mate k)
  new_b = (o.mate_in.0, o.mate_in.1, λ z. omega (arith, o.vertex_in.0, sym start_b ∙ z))

  -- and what was in use
  pub half_stays : (i : ℕ) → HalfUsed sh c i → HalfUsed sh d i
  half_stays i w = (w.0, w.1, λ z. w.2 (sym (start_old i (off_k i w) (off_b i w)) ∙ z))

  -- one in use afterwards is one of the two, or was in use
  pub half_was : {Q : ℕ → Type 0} → Q k → Q (mate k) → ((i : ℕ) → HalfUsed sh c i → Q i) → (i : ℕ) → HalfUsed sh d i
      → Q i
  half_was {Q} qk qb qo i w = split i k (λ e. subst Q (sym e) qk)
      (λ e. split i (mate k) (λ f. subst Q (sym f) qb) (λ f. qo i (w.0, w.1, λ z. w.2 (start_old i e f ∙ z))))

  -- a dummy of another loop stays
  pub dummy_stays : (i : ℕ) → i - n ≢ l → Dummy sh c i → Dummy sh d i
  dummy_stays i e w = (w.0, w.1, λ z. w.2 (sym (upd_off (c Isolated) 0 e) ∙ z))

  module _ {p q : List ℤ} (a : Sound sh p c) (rules⁺ : MevRules⁺ sh c E)
      (points : (w : ℕ) → In sh.vertices w → PointSound q (mev_columns sh c E) w) where
    -- ---- members of loops and vertices

    -- where a loop had a member, it has one
    loop_member : (m : ℕ) → (i : ℕ) → Member sh c i → (extended sh c).loop i ≡ m → (j : ℕ) × Member sh d j
        × ((extended sh d).loop j ≡ m)
    loop_member m i (inl w) e =
        let h = w.1 in
        let f = off_k i w in
        let g = off_b i w in
        (i, inl (half_stays i w), simp (up_to_low, upd_off) (simp up_to_low at e))
    loop_member m i (inr w) e =
        let h = w.0 in
        let f : i - n ≡ m = simp up_to_high at e in
        split (i - n) l
        (λ z. let h = o.half_in.1 in (k, inl new_k, simp up_to_low (loop_k ∙ sym z ∙ f)))
        (λ z. (i, inr (dummy_stays i z w), simp up_to_high f))

    -- and so a vertex
    vertex_member : (w : ℕ) → In sh.vertices w → (i : ℕ) → Member sh c i → (extended sh c).start i ≡ w
        → (j : ℕ) × Member sh d j × ((extended sh d).start j ≡ w)
    vertex_member w y i (inl x) e =
        let h = x.1 in
        let f = off_k i x in
        let g = off_b i x in
        (i, inl (half_stays i x), simp (up_to_low, upd_off) (simp up_to_low at e))
    vertex_member w y i (inr x) e =
        let h = x.0 in
        let f : c Isolated (i - n) ≡ w = simp up_to_high at e in
        split (i - n) l
        (λ z. let h = o.half_in.1 in ⊎_elim
        (λ g. (k, inl new_k, simp up_to_low (start_k ∙ sym g.2 ∙ ap (c Isolated) (sym z) ∙ f)))
        (λ g. absurd (omega (arith, y.0, sym f ∙ ap (c Isolated) z ∙ g.4))) o.corner)
        (λ z. (i, inr (dummy_stays i z x), simp (up_to_high, upd_off) f))

    -- corners as they should be
    mev_corners : Corners sh d
    mev_corners = record {
      rules = rules⁺;
      loop = λ m i h. let r = (sound_corners a).loop m i h in loop_member m r.0 r.1 r.2;
      vertex = λ w i h. split w v
          (λ e. let h = o.mate_in.1 in (mate k, inl new_b, simp up_to_low (start_b ∙ sym e)))
          (λ e. let r = (sound_corners a).vertex w i (λ z. h (upd_off (c VertexUsed) 1 e ∙ z)) in
          vertex_member w i r.0 r.1 r.2);
    }

    -- ---- loops

    -- the halves of the new edge name l alone
    same_name : (m : ℕ) → In sh.loops m → m ≢ l → (i : ℕ) → In n i → eqb (c Loop i) m ≡ eqb (d Loop i) m
    same_name m y e i j = split i k
        (λ z. new z o.half_free (ap (d Loop) z ∙ loop_k))
        (λ z. split i (mate k) (λ z'. new z' o.mate_free (ap (d Loop) z' ∙ loop_b))
        (λ z'. ap (λ w. eqb w m) (sym (loop_old i z z'))))
      where
        -- a half of the new edge named none, and names l
        new : {i' : ℕ} → i ≡ i' → c Start i' ≡ 0 → d Loop i ≡ l → eqb (c Loop i) m ≡ eqb (d Loop i) m
        new z s f =
            let x : c Loop i ≢ m = λ w. omega (arith, y.0, w, (a.half_free i j (ap (c Start) z ∙ s)).loop) in
            let x' : d Loop i ≢ m = λ w. e (sym w ∙ f) in
            eqb_other x ∙ sym (eqb_other x')

    -- a vertex in use stays so
    used : (w : ℕ) → c VertexUsed w ≢ 0 → d VertexUsed w ≢ 0
    used w x z = split w v (λ e. omega (arith, sym (upd_at (c VertexUsed) 1 e) ∙ z))
        (λ e. x (sym (upd_off (c VertexUsed) 1 e) ∙ z))

    -- an isolated vertex is in use
    isolated_used : (m : ℕ) → In sh.loops m → d Isolated m ≢ 0 → In sh.vertices (d Isolated m)
        × (d VertexUsed (d Isolated m) ≢ 0)
    isolated_used m y h = split m l (λ e. absurd (h (ap (d Isolated) e ∙ upd_same (c Isolated) l 0)))
        (λ e. lone_kept a d m y (upd_off (c Isolated) 0 e) used h)

    -- a free half-edge was free
    free_half : (i : ℕ) → In n i → d Start i ≡ 0 → (i ≢ k) × (i ≢ mate k) × (c Start i ≡ 0)
    free_half i j z =
        let e : i ≢ k = λ w. omega (arith, o.corner_in.0, sym start_k ∙ ap (d Start) (sym w) ∙ z) in
        let f : i ≢ mate k = λ w. omega (arith, o.vertex_in.0, sym start_b ∙ ap (d Start) (sym w) ∙ z) in
        (e, f, sym (start_old i e f) ∙ z)

    -- loops are sound
    mev_loop : (m : ℕ) → In sh.loops m → c Face m ≢ 0 → LoopSound sh d m
    mev_loop m y h =
        let r = a.loop m y h in
        let f : d First m ≡ first_of sh d m =
        split m l (λ e. ap (d First) e ∙ upd_same (c First) l _ ∙ ap (first_of sh d) (sym e))
        (λ e. upd_off (c First) _ e ∙ r.first ∙ least_ext n _ _ (λ i x z. same_name m y e i (x, z))) in
        record {
          face_in_lem = r.face_in_lem;
          face_used = r.face_used;
          first = f;
          either = corners_loop mev_corners
              (λ i j z. let w = free_half i j z in loop_old i w.0 w.1 ∙ (a.half_free i j w.2).loop) m y h f
              (isolated_used m y);
        }

    -- ---- half-edges

    -- free half-edges are all zero
    mev_half_free : (i : ℕ) → In n i → d Start i ≡ 0 → HalfFree sh d i
    mev_half_free i j z =
        let w = free_half i j z in
        let r = a.half_free i j w.2 in
        let e1 = w.0 in
        let e2 = w.1 in
        let x : i ≢ P = λ e. ⊎_elim (λ g. w.1 (e ∙ g.0)) (λ g. g.0.2 (ap (c Start) (sym e) ∙ w.2)) o.corner in
        let y : i ≢ N = λ e. ⊎_elim (λ g. w.0 (e ∙ g.1)) (λ g. g.1.2 (ap (c Start) (sym e) ∙ w.2)) o.corner in
        record {
          loop = loop_old i w.0 w.1 ∙ r.loop;
          next = simp upd_off r.next;
          prev = simp upd_off r.prev;
        }

    -- half-edges are sound
    mev_half : (i : ℕ) → HalfUsed sh d i → HalfSound sh d i
    mev_half = half_was
        (half_by_lem u l start_k loop_k o.corner_in (used u o.corner_used) o.loop_in o.loop_used)
        (half_by_lem v l start_b loop_b o.vertex_in (λ z. omega (arith, sym (upd_same (c VertexUsed) v 1) ∙ z))
        o.loop_in o.loop_used)
        (λ i w. let r = a.half i (w.0, w.1) w.2 in
        half_by_lem (c Start i) (c Loop i) (start_old i (off_k i w) (off_b i w)) (loop_old i (off_k i w) (off_b i w))
        r.start_in (used (c Start i) r.start_used) r.loop_in r.loop_used)

    -- ---- faces

    -- the face of a half-edge that was in use
    side_old : (i : ℕ) → HalfUsed sh c i → side d i ≡ side c i
    side_old i w = ap (c Face) (loop_old i (off_k i w) (off_b i w))

    -- and of its mate
    side_mate : (i : ℕ) → HalfUsed sh c i → side d (mate i) ≡ side c (mate i)
    side_mate i w = side_old (mate i) (a.rules.mate_in i w)

    -- of k
    side_k : side d k ≡ c Face l
    side_k = ap (c Face) loop_k

    -- of its mate
    side_b : side d (mate k) ≡ c Face l
    side_b = ap (c Face) loop_b

    -- the face of l is in use
    l_face : FaceUsed sh c (c Face l)
    l_face = let r = a.loop l o.loop_in o.loop_used in (r.face_in_lem.0, r.face_in_lem.1, r.face_used)

    -- rule 6: the new edge has one face on both sides
    mev_solids : Solids (HalfUsed sh d) (FaceUsed sh d) (side d) mate (d Solid)
    mev_solids = record {
      side_in_lem = half_was (subst (FaceUsed sh c) (sym side_k) l_face) (subst (FaceUsed sh c) (sym side_b) l_face)
          (λ i w. subst (FaceUsed sh c) (sym (side_old i w)) (a.solids.side_in_lem i w));
      edge = half_was
          (ap (c Solid) (side_b ∙ sym side_k))
          (ap (c Solid) (ap (side d) (mate_mate k) ∙ side_k ∙ sym side_b))
          (λ i w. ap (c Solid) (side_mate i w) ∙ a.solids.edge i w ∙ ap (c Solid) (sym (side_old i w)));
      one = λ f g x y e. map_linked (λ i. i)
          (λ i j t. let u = t.1 in
          link (t.0, half_stays t.0 u, side_old t.0 u ∙ t.2, side_mate t.0 u ∙ t.3))
          (a.solids.one f g x y e);
    }

    -- the table is sound afterwards
    pub mev_sound : Sound sh q d
    mev_sound = record {
      solid_mark = a.solid_mark;
      solid = a.solid;
      face_free = a.face_free;
      face = λ f i h. let r = a.face f i h in record {
        solid_in = r.solid_in;
        solid_used_lem = r.solid_used_lem;
        outer_in = r.outer_in;
        outer_face = r.outer_face;
      };
      loop_free = λ m i h. let e : m ≢ l = λ z. o.loop_used (ap (c Face) (sym z) ∙ h) in let r = a.loop_free m i h in
          (upd_off (c First) _ e ∙ r.0, upd_off (c Isolated) 0 e ∙ r.1);
      loop = mev_loop;
      half_free = mev_half_free;
      half = λ i j h. mev_half i (j.0, j.1, h);
      vertex = corners_vertex mev_corners;
      point = points;
      rules = corners_rules mev_corners;
      solids = mev_solids;
    }

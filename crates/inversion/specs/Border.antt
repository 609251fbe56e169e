-- A's work on the face of k, which lies across an edge from the root: its rings move to the root, by number.
use Rattle.std.specs.Prelude.{◌≡◌, refl, ◌≢◌, Bool, true, false, not, ◌&&◌, List, [], ◌∷◌, ℕ, zero, suc, ◌+◌, ◌*◌, ◌≤◌}
use Rattle.std.specs.Prelude.{◌<◌, eqb, ℤ, length}
use Rattle.std.proofs.Common.{sym, ap, ◌∙◌, subst, inr, ⊎_elim, arith, eqb→eq, T_not}
use Rattle.std.proofs.lemmas.Bool.{false≢true}
use Rattle.laws.specs.Bools.{split, ask, true_T, eqb_same, eqb_other}
use Rattle.laws.specs.Update.{upd_same, upd_off}
use Rattle.script.specs.declared.Operator.{Operator}
use Rattle.layout.specs.declared.shape.Shape.{Shape}
use Rattle.layout.specs.Mate.{mate}
use Rattle.euler.specs.Exec.{refusal_of, links_after}
use Rattle.layout.specs.Fields.{change, SolidUsed, Solid, Outer, Face, Start, Loop, VertexUsed}
use Rattle.layout.specs.Items.{some, is_ring, face_in}
use Rattle.sound_tables.specs.Sound.{In, HalfUsed, side}
use Rattle.sound_tables.specs.Cells.{Shows}
use Rattle.sound_tables.specs.Good.{Good, own}
use Rattle.sound_rings.specs.Sound.{Ring}
use Rattle.sound_rings.specs.Exact.{rmov_accepted, rmov_points}
use Rattle.takedown.specs.Inversion.{Work, act, is_ring_of, move_rings, rmov}
use Rattle.inversion.specs.Path.{Path, there, first, acted, joins_in, acted_table}
use Rattle.inversion.specs.Counts.{solids, faces, loops, edges, vertices, strays, count_same}
use Rattle.inversion.specs.Same.{words_same, solids_is, faces_is, loops_is, edges_is, vertices_is, face_in_same}
use Rattle.inversion.specs.Same.{stray_same, face_or_none, count_fewer_in}
use Rattle.inversion.specs.OfSolid.{both}
use Rattle.inversion.specs.RmovLaws.{rmov_joins, move_shows, rmov_good}

-- k lies in the outer loop l of face f, its mate in face r, the least of their solid s
pub record Border (sh : Shape) (x : List ℕ) (p : List ℤ) (k l f r s : ℕ) : Type 0 where
  pub good : Good sh x p
  pub used : HalfUsed sh (own sh x) k
  pub loop : own sh x Loop k ≡ l
  pub face : own sh x Face l ≡ f
  pub outer : own sh x Outer f ≡ l
  pub across : side (own sh x) (mate k) ≡ r
  pub other : f ≢ r
  pub solid : own sh x Solid f ≡ s
  pub root : face_in sh x s ≡ r
  pub r_in : In sh.faces r
  pub r_solid : own sh x Solid r ≡ s
  pub there_is : s ≢ 0

-- solids, faces and edges are as they were
pub record Alike (sh : Shape) (x y : List ℕ) : Type 0 where
  pub mark : (n : ℕ) → In sh.solids n → own sh y SolidUsed n ≡ own sh x SolidUsed n
  pub solid : (n : ℕ) → In sh.faces n → own sh y Solid n ≡ own sh x Solid n
  pub start : (i : ℕ) → In (2 * sh.edges) i → own sh y Start i ≡ own sh x Start i
  pub same_solids : solids sh y ≡ solids sh x
  pub same_faces : faces sh y ≡ faces sh x
  pub same_loops : loops sh y ≡ loops sh x
  pub same_edges : edges sh y ≡ edges sh x
  pub same_vertices : vertices sh y ≡ vertices sh x

pub alike_same : (sh : Shape) (x : List ℕ) → Alike sh x x
alike_same sh x = record {
  mark = λ n i. refl;
  solid = λ n i. refl;
  start = λ n i. refl;
  same_solids =
      refl;
  same_faces = refl;
  same_loops = refl;
  same_edges = refl;
  same_vertices = refl;
}

pub alike_then : {sh : Shape} {x y z : List ℕ} → Alike sh x y → Alike sh y z → Alike sh x z
alike_then a b = record {
  mark = λ n i. b.mark n i ∙ a.mark n i;
  solid = λ n i. b.solid n i ∙ a.solid n i;
  start = λ n i. b.start n i ∙ a.start n i;
  same_solids = b.same_solids ∙ a.same_solids;
  same_faces = b.same_faces ∙ a.same_faces;
  same_loops = b.same_loops ∙ a.same_loops;
  same_edges = b.same_edges ∙ a.same_edges;
  same_vertices = b.same_vertices ∙ a.same_vertices;
}

-- ---- one ring moves

module _ {sh : Shape} {x : List ℕ} {p : List ℤ} {k l f r s : ℕ} (B : Border sh x p k l f r s) {i : ℕ}
    (ii : In sh.loops i) (fi : own sh x Face i ≡ f) (ri : own sh x Outer f ≢ i) where
  f_in : In sh.faces f
  f_in = let q = B.good.sound.solids.side_in_lem k B.used in
      subst (In sh.faces) (ap (own sh x Face) B.loop ∙ B.face) (q.0, q.1)

  f_some : f ≢ 0
  f_some z = omega (arith, f_in.0, z)

  -- i is a ring, and r a face in use
  at_ring : Ring sh (own sh x) i r
  at_ring = record {
    loop_in = ii;
    loop_used = λ z. f_some (sym fi ∙ z);
    face_in_lem = B.r_in;
    face_used = λ z. B.there_is (sym B.r_solid ∙ z);
    ring = λ e. ri (ap (own sh x Outer) (sym fi) ∙ e);
  }

  -- which is another than that of i
  r_other : r ≢ own sh x Face i
  r_other e = B.other (sym fi ∙ sym e)

  l_i : l ≢ i
  l_i e = ri (B.outer ∙ e)

  -- k lies in the face of i, outside i, and its mate in r
  pub step_accepted : refusal_of sh x (rmov i r) ≡ 0
  step_accepted = rmov_accepted sh x i r B.good.capacities at_ring (inr (
    r_other,
    k,
    record {
      used = B.used;
      here = ap (own sh x Face) B.loop ∙ B.face ∙ sym fi;
      outside = λ e. l_i (sym B.loop ∙ e);
      there = B.across;
    },
  ))

  v : Shows sh (links_after sh x (rmov i r)) (change (own sh x) Face i r)
  v = move_shows B.good at_ring r_other

  solid_same : (n : ℕ) → In sh.faces n → own sh (links_after sh x (rmov i r)) Solid n ≡ own sh x Solid n
  solid_same n j = v.at Solid n j.1

  face_new : own sh (links_after sh x (rmov i r)) Face i ≡ r
  face_new = v.at Face i ii.1 ∙ upd_same _ i r

  pub face_else : (n : ℕ) → In sh.loops n → n ≢ i → own sh (links_after sh x (rmov i r)) Face n ≡ own sh x Face n
  face_else n j d = v.at Face n j.1 ∙ upd_off _ r d

  -- it is no more of f
  pub moved_off : own sh (links_after sh x (rmov i r)) Face i ≢ f
  moved_off e = B.other (sym e ∙ face_new)

  pub step_border : Border sh (links_after sh x (rmov i r)) p k l f r s
  step_border =
      let S = B.good.sound in
      let ik : In (2 * sh.edges) k = (B.used.0, B.used.1) in
      let um = S.rules.mate_in k B.used in
      let hm = S.half (mate k) (um.0, um.1) um.2 in
      let hk = S.half k ik B.used.2 in
      let ll : In sh.loops l = subst (In sh.loops) B.loop hk.loop_in in
      let lm = v.at Loop (mate k) um.1 in
      record {
        good = rmov_good B.good i r step_accepted;
        used = (B.used.0, B.used.1, λ z. B.used.2 (sym (v.at Start k B.used.1) ∙ z));
        loop = v.at Loop k B.used.1 ∙ B.loop;
        face = face_else l ll l_i ∙ B.face;
        outer = v.at Outer f f_in.1 ∙ B.outer;
        across = ap (own sh (links_after sh x (rmov i r)) Face) lm
            ∙ face_else (own sh x Loop (mate k)) hm.loop_in (λ e. B.other
            (sym (sym B.across ∙ ap (own sh x Face) e ∙ fi))) ∙ B.across;
        other = B.other;
        solid = solid_same f f_in ∙ B.solid;
        root = face_in_same sh x _ solid_same s ∙ B.root;
        r_in = B.r_in;
        r_solid = solid_same r B.r_in ∙ B.r_solid;
        there_is = B.there_is;
      }

  pub step_alike : Alike sh x (links_after sh x (rmov i r))
  step_alike = record {
    mark = λ n j. v.at SolidUsed n j.1;
    solid = solid_same;
    start = λ n j. v.at Start n j.1;
    same_solids = solids_is sh _ ∙ words_same sh.solids _ _ (λ n j. v.at SolidUsed n j.1) ∙ sym (solids_is sh x);
    same_faces = faces_is sh _ ∙ words_same sh.faces _ _ solid_same ∙ sym (faces_is sh x);
    same_loops = loops_kept;
    same_edges = edges_is sh _ ∙ words_same sh.edges _ _ (λ e j. v.at Start (2 * e) (omega (arith, j.1)))
        ∙ sym (edges_is sh x);
    same_vertices = vertices_is sh _ ∙ words_same sh.vertices _ _ (λ n j. v.at VertexUsed n j.1)
        ∙ sym (vertices_is sh x);
  }
    where
      loops_kept : loops sh (links_after sh x (rmov i r)) ≡ loops sh x
      loops_kept = loops_is sh _ ∙ count_same sh.loops _ _ (λ n a b. split n i
          (λ e. rw (e, face_new, fi, eqb_other f_some, eqb_other {m = r} {n = 0} (λ z. omega (arith, B.r_in.0, z))))
          (λ d. ap some (face_else n (a, b) d))) ∙ sym (loops_is sh x)

  -- one stray loop fewer
  pub step_strays : suc (strays sh (links_after sh x (rmov i r))) ≡ strays sh x
  step_strays = count_fewer_in sh.loops _ _ i ii
      (rw (
        face_new,
        solid_same r B.r_in,
        B.r_solid,
        face_in_same sh x _ solid_same s,
        B.root,
        eqb_same {m = r} refl,
      ) (last (eqb r 0)))
      (rw (fi, B.solid, B.root, eqb_other f_some, eqb_other (λ e. B.other (sym e))))
      (λ n j d. stray_same sh x _ solid_same n (own sh x Face n) (face_else n j d) refl (face_or_none B.good n j))
    where
      last : (b : Bool) → (not b && false) ≡ false
      last true = refl
      last false = refl

-- ---- all of them

-- the loop at hand is a ring of f, or not
moves_one : (sh : Shape) (n i f r : ℕ) (w : Work) (x : List ℕ) → w.state.links ≡ x → is_ring_of sh x f i ≡ true
    → move_rings sh (suc n) i f r w ≡ move_rings sh n (i + 1) f r (act sh w (rmov i r))
unfolding move_rings
moves_one sh n i f r w x a =
    subst (λ x. is_ring_of sh x f i ≡ true → move_rings sh (suc n) i f r w
    ≡ move_rings sh n (i + 1) f r (act sh w (rmov i r))) a (λ t. rw t)

pub moves_none : (sh : Shape) (n i f r : ℕ) (w : Work) (x : List ℕ) → w.state.links ≡ x → is_ring_of sh x f i ≡ false
    → move_rings sh (suc n) i f r w ≡ move_rings sh n (i + 1) f r w
unfolding move_rings
moves_none sh n i f r w x a =
    subst (λ x. is_ring_of sh x f i ≡ false → move_rings sh (suc n) i f r w ≡ move_rings sh n (i + 1) f r w) a
    (λ t. rw t)

-- what is left of f when n loops from i on have been looked at: l alone, if below i it was so
pub record Cleared (sh : Shape) (x : List ℕ) (p : List ℤ) (k l f r s n i : ℕ) : Type 0 where
  pub os : List Operator
  pub y : List ℕ
  pub path : Path sh y p os x p
  pub same : (w : Work) → w.state.links ≡ x → w.state.points ≡ p → move_rings sh n i f r w ≡ acted sh w os
  pub border : Border sh y p k l f r s
  pub alike : Alike sh x y
  pub fewer : strays sh y + length os ≡ strays sh x
  pub joins : joins_in sh x p os ≡ 0
  pub only : (m : ℕ) → In sh.loops m → m < i + n → own sh y Face m ≡ f → m ≡ l

pub clear_rings : (sh : Shape) (n i : ℕ) {x : List ℕ} {p : List ℤ} {k l f r s : ℕ} → Border sh x p k l f r s → 1 ≤ i
    → i + n ≤ suc sh.loops
    → ((m : ℕ) → In sh.loops m → m < i → own sh x Face m ≡ f → m ≡ l) → Cleared sh x p k l f r s n i
unfolding move_rings acted act
clear_rings sh zero i {x} B li hi below = record {
  os = [];
  y = x;
  path = there refl refl;
  same = λ w a b. refl;
  border = B;
  alike = alike_same sh x;
  fewer = omega arith;
  joins = refl;
  only = λ m j h e. below m j (omega arith) e;
}
clear_rings sh (suc n) i {x} {p} {k} {l} {f} {r} {s} B li hi below =
    ⊎_elim
    (λ t.
    let q = both (eqb (own sh x Face i) f) (is_ring sh x i) t in
    let fi : own sh x Face i ≡ f = eqb→eq _ _ (true_T q.0) in
    let ri : own sh x Outer f ≢ i =
    λ e. T_not (eqb (own sh x Outer (own sh x Face i)) i) (true_T q.1)
    (true_T (eqb_same (ap (own sh x Outer) fi ∙ e))) in
    let acc = step_accepted B ii fi ri in
    let c = clear_rings sh n (i + 1) (step_border B ii fi ri) (omega arith) (omega (arith, hi)) (λ m j h e. split m i
    (λ z. absurd (moved_off B ii fi ri (ap (own sh (links_after sh x (rmov i r)) Face) (sym z) ∙ e)))
    (λ d. below m j (omega arith) (sym (face_else B ii fi ri m j d) ∙ e))) in
    more t acc c (step_alike B ii fi ri) (step_strays B ii fi ri))
    (λ t.
    let c = clear_rings sh n (i + 1) B (omega arith) (omega (arith, hi))
    (λ m j h e. split m i (λ z. at_i t m z e) (λ d. below m j (omega arith) e)) in
    less t c)
    (ask (is_ring_of sh x f i))
  where
    ii : In sh.loops i
    ii = (li, omega (arith, hi))

    -- a loop of f that is no ring is the outer one
    at_i : is_ring_of sh x f i ≡ false → (m : ℕ) → m ≡ i → own sh x Face m ≡ f → m ≡ l
    at_i t m z e =
        split (own sh x Outer f) m (λ q. sym q ∙ B.outer)
        (λ d. absurd (false≢true (sym t ∙ ring_is (ap (own sh x Face) (sym z) ∙ e) (λ q. d (q ∙ sym z)))))
      where
        ring_is : own sh x Face i ≡ f → own sh x Outer f ≢ i → is_ring_of sh x f i ≡ true
        ring_is a d = rw (a, eqb_same {m = f} refl, eqb_other d)

    less : is_ring_of sh x f i ≡ false → Cleared sh x p k l f r s n (i + 1) → Cleared sh x p k l f r s (suc n) i
    less t c = record {
      os = c.os;
      y = c.y;
      path = c.path;
      same = λ w a b. moves_none sh n i f r w x a t ∙ c.same w a b;
      border = c.border;
      alike = c.alike;
      fewer = c.fewer;
      joins = c.joins;
      only = λ m j h e. c.only m j (omega arith) e;
    }

    more : is_ring_of sh x f i ≡ true → refusal_of sh x (rmov i r) ≡ 0
        → Cleared sh (links_after sh x (rmov i r)) p k l f r s n (i + 1) → Alike sh x (links_after sh x (rmov i r))
        → suc (strays sh (links_after sh x (rmov i r))) ≡ strays sh x → Cleared sh x p k l f r s (suc n) i
    more t acc c al st = record {
      os = rmov i r ∷ c.os;
      y = c.y;
      path = first {os = c.os} {p = p} (rmov i r) refl acc (rw (rmov_points sh x i r p) c.path);
      same = λ w a b.
          let one : Path sh (links_after sh x (rmov i r)) p (rmov i r ∷ []) w.state.links w.state.points =
          rw (a, b) (first {os = []} {p = p} (rmov i r) refl acc (there refl (rmov_points sh x i r p))) in
          let u = acted_table sh w one in
          moves_one sh n i f r w x a t ∙ c.same (act sh w (rmov i r)) u.0 u.1;
      border = c.border;
      alike = alike_then al c.alike;
      fewer = omega (arith, c.fewer, st);
      joins = rw (rmov_points sh x i r p) (omega (arith, rmov_joins sh x p i r, c.joins));
      only = λ m j h e. c.only m j (omega arith) e;
    }

-- The turn by kemr, whole.
use Rattle.std.specs.Prelude.{◌≡◌, ◌≢◌, true, List, [], ◌∷◌, ℕ, ◌*◌, eqb, ℤ}
use Rattle.std.proofs.Math.Path.{refl}
use Rattle.std.proofs.Common.{sym, ◌∙◌, subst, arith, eqb→eq}
use Rattle.std.proofs.Math.Logic.{inr}
use Rattle.laws.specs.Bools.{true_T}
use Rattle.layout.specs.declared.shape.Shape.{Shape}
use Rattle.euler.specs.Queries.{faces_in}
use Rattle.euler.specs.Exec.{links_after, inverse}
use Rattle.layout.specs.Fields.{Solid, Face, Loop}
use Rattle.layout.specs.Items.{face_in}
use Rattle.sound_tables.specs.Sound.{In, side}
use Rattle.sound_tables.specs.Labels.{label_only, one_many}
use Rattle.sound_tables.specs.Good.{Good, own}
use Rattle.sound_bridges.specs.KemrColumns.{Span}
use Rattle.sound_bridges.specs.KemrAccepted.{kemr_accepted, kemr_points}
use Rattle.takedown.specs.Inversion.{solid_at, free_loop, edges_left, is_crossed, crossed_half, crossed, of_solid}
use Rattle.takedown.specs.Inversion.{ring_half}
use Rattle.takedown.specs.Inversion.{spur_half, kemr}
use Rattle.inversion.specs.Path.{there, first, acted, joins_in}
use Rattle.inversion.specs.Same.{faces_in_same, free_face_same, solid_at_same, free_edge_kept}
use Rattle.takedown.specs.Crossed.{crossed_at}
use Rattle.inversion.specs.OfSolid.{least_some, both, Of, of_solid_lem, one_loop, crossed_there}
use Rattle.inversion.specs.Turn.{RingAt, TurnMade}
use Rattle.inversion.specs.TurnShape.{turned_cross}
use Rattle.inversion.specs.KemrTurn.{kemr_solids, kemr_faces, kemr_loops, kemr_edges, kemr_vertices, kemr_strays}
use Rattle.inversion.specs.KemrTurn.{kemr_ring, solid_same, mark_same, start_kept}

-- kemr is undone by mekr, which joins no faces
no_join : (sh : Shape) (x : List ℕ) (p : List ℤ) (k l : ℕ) → joins_in sh x p (kemr k l ∷ []) ≡ 0
unfolding inverse
no_join sh x p k l = refl

-- the only face of a solid is its least
pub only_root : {sh : Shape} {x : List ℕ} {p : List ℤ} (g : Good sh x p) {s : ℕ} (sn : s ≢ 0) → faces_in sh x s ≡ 1
    → (k : ℕ) → Of g sn k → face_in sh x s ≡ side (own sh x) k
only_root {sh} {x} g {s} sn one k u =
    let i = g.sound.solids.side_in_lem k u.0 in
    label_only sh.faces (own sh x Solid) s (side (own sh x) k) (i.0, i.1) u.1
    (λ f j e. one_many sh.faces (own sh x Solid) s one (side (own sh x) k) f (i.0, i.1) u.1 j e)

module _ {sh : Shape} {x : List ℕ} {p : List ℤ} (g : Good sh x p) (free : free_loop sh x ≢ 0) (sn : solid_at sh x ≢ 0)
    (one : faces_in sh x (solid_at sh x) ≡ 1)
    (left : edges_left sh x (solid_at sh x) ≡ true) (none : ring_half sh x (solid_at sh x) ≡ 0)
    (no-spur : spur_half sh x (solid_at sh x) ≡ 0) where
  -- the half-edge
  abbrev k : ℕ
  k = crossed_half sh x (solid_at sh x)

  -- what the search says
  pub found : Of g sn (crossed_half sh x (solid_at sh x)) × (crossed sh x (crossed_half sh x (solid_at sh x)) ≡ true)
  found =
      let f = least_some (2 * sh.edges) (is_crossed sh x (solid_at sh x)) (crossed_there g sn one none no-spur left) in
      let t = both (of_solid sh x (solid_at sh x) (crossed_half sh x (solid_at sh x)))
      (crossed sh x (crossed_half sh x (solid_at sh x))) f.1 in
      (of_solid_lem g sn (crossed_half sh x (solid_at sh x)) f.0 t.0, t.1)

  -- a loop is free
  pub loop_free : In sh.loops (free_loop sh x) × (own sh x Face (free_loop sh x) ≡ 0)
  loop_free =
      let f = least_some sh.loops (λ l. eqb (own sh x Face l) 0) free in
      (f.0, eqb→eq _ _ (true_T f.1))

  pub span : Span sh (own sh x) (crossed_half sh x (solid_at sh x)) (free_loop sh x)
  span = record {
    half = found.0.0;
    one = one_loop g sn one none (crossed_half sh x (solid_at sh x)) found.0;
    ring_in = loop_free.0;
    free = loop_free.1;
  }

  pub root : face_in sh x (solid_at sh x) ≡ own sh x Face (own sh x Loop (crossed_half sh x (solid_at sh x)))
  root = only_root g sn one (crossed_half sh x (solid_at sh x)) found.0

  -- then a ring has a half-edge with its mate in another loop
  pub ring : RingAt sh (links_after sh x (kemr (crossed_half sh x (solid_at sh x)) (free_loop sh x)))
  ring =
      let e = solid_at_same sh x _ (mark_same g span) in
      subst (λ s. (s ≢ 0)
      × (faces_in sh (links_after sh x (kemr (crossed_half sh x (solid_at sh x)) (free_loop sh x))) s ≡ 1)
      × (ring_half sh (links_after sh x (kemr (crossed_half sh x (solid_at sh x)) (free_loop sh x))) s ≢ 0)) (sym e) (
        sn,
        faces_in_same sh x _ (solid_same g span) (solid_at sh x) ∙ one,
        kemr_ring g span (solid_at sh x) found.0.1 root sn (crossed_at sh x _ found.1),
      )

  pub turn_cross : TurnMade sh x p
  unfolding acted
  turn_cross =
      let cs = kemr_solids g span in
      let cf = kemr_faces g span in
      let cl = kemr_loops g span in
      let ce = kemr_edges g span in
      let cv = kemr_vertices g span in
      let ct = kemr_strays g span (solid_at sh x) found.0.1 root in
      let nj = no_join sh x p (crossed_half sh x (solid_at sh x)) (free_loop sh x) in
      record {
        os = kemr (crossed_half sh x (solid_at sh x)) (free_loop sh x) ∷ [];
        y = links_after sh x (kemr (crossed_half sh x (solid_at sh x)) (free_loop sh x));
        q = p;
        path = first (kemr (crossed_half sh x (solid_at sh x)) (free_loop sh x)) refl
            (kemr_accepted sh x g.capacities span)
            (there refl (kemr_points sh x g.capacities span p));
        same = λ w a b. turned_cross sh (solid_at sh x) (face_in sh x (solid_at sh x)) w x a one left none no-spur;
        change = record {
          euler = omega (arith, cs, cf, cl, ce, cv, nj);
          paid = inr (ring, omega (arith, cs, cl, cv, ct, nj));
          back = λ r. absurd (r.2 none);
        };
        less = omega (arith, ce, cv);
        ready = λ ready. record {
          face = λ z. ready.face (sym (free_face_same sh x _ (solid_same g span)) ∙ z);
          edge = free_edge_kept sh x _ (start_kept g span) ready.edge;
          loop = inr ring;
        };
      }

-- The turn by kev, whole.
use Rattle.std.specs.Prelude.{◌≡◌, ◌≢◌, true, List, [], ◌∷◌, ℕ, ◌*◌, ℤ}
use Rattle.std.proofs.Math.Path.{refl}
use Rattle.std.proofs.Common.{sym, ◌∙◌, arith, eqb→eq}
use Rattle.std.proofs.Math.Logic.{inl, ⊎_elim}
use Rattle.laws.specs.Bools.{true_T}
use Rattle.layout.specs.declared.shape.Shape.{Shape}
use Rattle.layout.specs.Mate.{mate}
use Rattle.euler.specs.Queries.{faces_in}
use Rattle.layout.specs.Fields.{Next}
use Rattle.layout.specs.Items.{face_in}
use Rattle.sound_tables.specs.Good.{Good, own, marked}
use Rattle.sound_spurs.specs.KevAccepted.{kev_points, kev_points_lem, kev_accepted}
use Rattle.euler.specs.Exec.{links_after}
use Rattle.takedown.specs.Inversion.{solid_at, edges_left, of_solid, is_spur, ring_half, spur_half, kev}
use Rattle.inversion.specs.Path.{there, first, acted}
use Rattle.inversion.specs.Same.{free_face_same, free_loop_same, free_edge_kept}
use Rattle.inversion.specs.OfSolid.{least_some, both, Of, of_solid_lem}
use Rattle.inversion.specs.Turn.{TurnMade}
use Rattle.inversion.specs.TurnShape.{turned_spur}
use Rattle.inversion.specs.KevLaws.{kev_joins, kev_law}

module _ {sh : Shape} {x : List ℕ} {p : List ℤ} (g : Good sh x p) (sn : solid_at sh x ≢ 0)
    (one : faces_in sh x (solid_at sh x) ≡ 1)
    (left : edges_left sh x (solid_at sh x) ≡ true) (none : ring_half sh x (solid_at sh x) ≡ 0)
    (spur : spur_half sh x (solid_at sh x) ≢ 0) where
  -- what the search says
  pub found : Of g sn (spur_half sh x (solid_at sh x))
      × (own sh x Next (spur_half sh x (solid_at sh x)) ≡ mate (spur_half sh x (solid_at sh x)))
  found =
      let f = least_some (2 * sh.edges) (is_spur sh x (solid_at sh x)) spur in
      let t = both (of_solid sh x (solid_at sh x) (spur_half sh x (solid_at sh x))) _ f.1 in
      (of_solid_lem g sn (spur_half sh x (solid_at sh x)) f.0 t.0, eqb→eq _ _ (true_T t.1))

  pub turn_spur : TurnMade sh x p
  unfolding acted
  turn_spur =
      let k = spur_half sh x (solid_at sh x) in
      let c = kev_law g found.0.0 found.1 in
      let nj = kev_joins sh x p k in
      record {
        os = kev k ∷ [];
        y = links_after sh x (kev k);
        q = kev_points sh x p k;
        path = first (kev k) refl (kev_accepted (marked g) found.0.0 found.1)
            (there refl (kev_points_lem (marked g) found.0.0 found.1));
        same = λ w a b. turned_spur sh (solid_at sh x) (face_in sh x (solid_at sh x)) w x a one left none spur;
        change = record {
          euler = omega (arith, c.same_solids, c.same_faces, c.same_loops, c.fewer_edges, c.fewer_vertices, nj);
          paid = inl (omega (arith, c.same_solids, c.same_loops, c.fewer_vertices, c.same_strays, nj));
          back = λ r. absurd (r.2 none);
        };
        less = omega (arith, c.fewer_edges, c.fewer_vertices);
        ready = λ ready. record {
          face = λ z. ready.face (sym (free_face_same sh x _ c.solid) ∙ z);
          edge = free_edge_kept sh x _ c.start_kept ready.edge;
          loop = ⊎_elim (λ d. inl (λ z. d (sym (free_loop_same sh x _ c.face) ∙ z))) (λ r. absurd (r.2 none))
              ready.loop;
        };
      }

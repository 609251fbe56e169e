-- The theory of edges and dummies at a table: from nothing, an isolated loop (dummy 5). Then an edge 1, 2 at its
-- corner. So no assumption of that theory rules everything out.
use Rattle.std.specs.Prelude.{◌≡◌, refl}
use Rattle.std.proofs.Common.{inl, ⊎_elim, arith}
use Rattle.laws.specs.Update.{upd}
use Rattle.laws.specs.Moves.{Or, But}
use Rattle.layout.specs.Mate.{mate}
use Rattle.sound_tables.specs.Mates.{mate⁺, mate⁺_mate⁺, mate⁺_high}
use Rattle.sound_tables.specs.EdgeIn.{Halves, Rules}
use Rattle.sound_tables.specs.Dummies.{born, birth_rules, spurred, spur_rules, dropped, drop_rules}

-- no half-edge
nothing : Halves
nothing = record { start = λ i. 0; loop = λ i. 0; next = λ i. 0; prev = λ i. 0 }

-- its rules
none_rules : Rules 6 (mate⁺ 2) (λ i. ⊥) nothing
none_rules = record {
  mate_in = λ i u. absurd u;
  loops =
      record {
        perm = record {
          low = λ i u. absurd u;
          high = λ i u. absurd u;
          f_in = λ i u. absurd u;
          inv =
              λ i. 0;
          undo = λ i u. absurd u;
        };
        keeps = λ i u. absurd u;
        one = λ i j u v e. absurd u;
      };
  verts =
      record {
        perm = record {
          low = λ i u. absurd u;
          high = λ i u. absurd u;
          f_in = λ i u. absurd u;
          inv =
              λ i. 0;
          undo = λ i u. absurd u;
        };
        keeps = λ i u. absurd u;
        one = λ i j u v e. absurd u;
      };
  undone = λ i u. absurd u;
}

-- an isolated loop 1 at vertex 1
isolated_rules : Rules 6 (mate⁺ 2) (Or 5 (λ i. ⊥)) (born nothing 5 1 1)
isolated_rules = birth_rules none_rules (mate⁺_mate⁺ 2) 5 1 1 (mate⁺_high 2 5 (omega arith)) (λ u. u) (omega arith)
    (omega arith) (λ i u. absurd u) (λ i u. absurd u)

-- mev 1 0 1 2: k = 1, a = 2, the corner is the dummy's, the new vertex 2; 6 is the dummy of the new vertex on the way
edge_rules : Rules 6 (mate⁺ 2) (Or 2 (Or 1 (Or 5 (λ i. ⊥)))) (spurred (born nothing 5 1 1) 1 2 5 2)
unfolding mate⁺ mate nothing upd
edge_rules = spur_rules isolated_rules (mate⁺_mate⁺ 2) 1 2 5 6 2 2 refl (mate⁺_high 2 6 (omega arith)) (omega arith)
    (⊎_elim (omega arith) (λ u. u)) (⊎_elim (omega arith) (λ u. u)) (⊎_elim (omega arith) (λ u. u))
    (omega arith) (omega arith) (omega arith) (omega arith) (omega arith) (omega arith) (omega arith) (omega arith)
    (inl refl)
    (λ i. ⊎_elim (λ e. rw e (omega arith)) (λ u. absurd u)) (λ i. ⊎_elim (λ e. rw e (omega arith)) (λ u. absurd u))

-- and the dummy 5 goes: loop 1 has 1, 2
two_rules : Rules 6 (mate⁺ 2) (But 5 (Or 2 (Or 1 (Or 5 (λ i. ⊥))))) (dropped (spurred (born nothing 5 1 1) 1 2 5 2) 5 2)
unfolding nothing upd
two_rules = drop_rules edge_rules (mate⁺_mate⁺ 2) 5 2 (mate⁺_high 2 5 (omega arith)) (inl refl) refl (omega arith)

-- the columns are those of example c: 1 1 2 2 and 2 1 1 1
row_c : (let h = dropped (spurred (born nothing 5 1 1) 1 2 5 2) 5 2 in
    (h.start 1 ≡ 1) × (h.loop 1 ≡ 1) × (h.next 1 ≡ 2) × (h.prev 1 ≡ 2) × (h.start 2 ≡ 2) × (h.loop 2 ≡ 1)
    × (h.next 2 ≡ 1) × (h.prev 2 ≡ 1))
unfolding nothing upd
row_c = (refl, refl, refl, refl, refl, refl, refl, refl)

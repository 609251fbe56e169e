-- The six kinds of turn as equations, and the joins of their operators.
use Rattle.std.specs.Prelude.{◌≡◌, ◌≢◌, List, ℕ, ◌-◌, ◌*◌}
use Rattle.std.proofs.Math.Path.{subst}
use Rattle.std.proofs.Math.Bool.{true, false}
use Rattle.laws.specs.Bools.{eqb_same, eqb_other}
use Rattle.layout.specs.declared.shape.Shape.{Shape}
use Rattle.layout.specs.Layout.{loop_of, face_outer, side}
use Rattle.euler.specs.Queries.{faces_in}
use Rattle.takedown.specs.Inversion.{Work, act, free_face, free_loop, free_edge, border_half, edges_left, ring_half}
use Rattle.takedown.specs.Inversion.{spur_half}
use Rattle.takedown.specs.Inversion.{crossed_half, ring_of, kvsf, kev, kef, kemr, mekr, mfkrh, turn_a, turn_b, turned}

module _ (sh : Shape) (s r : ℕ) (w : Work) where
  pub turned_a : (x : List ℕ) → w.state.links ≡ x → faces_in sh x s ≢ 1
      → turned sh s r w
      ≡ turn_a sh r (border_half sh x r) (loop_of sh x (border_half sh x r)) (side sh x (border_half sh x r)) w
  unfolding turned
  turned_a x a =
      subst (λ x. faces_in sh x s ≢ 1
      → turned sh s r w
      ≡ turn_a sh r (border_half sh x r) (loop_of sh x (border_half sh x r)) (side sh x (border_half sh x r)) w) a
      (λ many. rw (eqb_other many))

  pub turned_ring : (x : List ℕ) → w.state.links ≡ x → faces_in sh x s ≡ 1 → edges_left sh x s ≡ true
      → ring_half sh x s ≢ 0
      → turned sh s r w
      ≡ act sh (act sh w (mfkrh (loop_of sh x (ring_half sh x s)) (free_face sh x))) (kef (ring_half sh x s))
  unfolding turned turn_b
  turned_ring x a = subst (λ x. faces_in sh x s ≡ 1 → edges_left sh x s ≡ true → ring_half sh x s ≢ 0
      → turned sh s r w
      ≡ act sh (act sh w (mfkrh (loop_of sh x (ring_half sh x s)) (free_face sh x))) (kef (ring_half sh x s))) a
      (λ one left d. rw (eqb_same one, left, eqb_other d))

  pub turned_spur : (x : List ℕ) → w.state.links ≡ x → faces_in sh x s ≡ 1 → edges_left sh x s ≡ true
      → ring_half sh x s ≡ 0 → spur_half sh x s ≢ 0
      → turned sh s r w ≡ act sh w (kev (spur_half sh x s))
  unfolding turned turn_b
  turned_spur x a = subst
      (λ x. faces_in sh x s ≡ 1 → edges_left sh x s ≡ true → ring_half sh x s ≡ 0 → spur_half sh x s ≢ 0
      → turned sh s r w ≡ act sh w (kev (spur_half sh x s))) a
      (λ one left none d. rw (eqb_same one, left, eqb_same none, eqb_other d))

  pub turned_cross : (x : List ℕ) → w.state.links ≡ x → faces_in sh x s ≡ 1 → edges_left sh x s ≡ true
      → ring_half sh x s ≡ 0 → spur_half sh x s ≡ 0
      → turned sh s r w ≡ act sh w (kemr (crossed_half sh x s) (free_loop sh x))
  unfolding turned turn_b
  turned_cross x a = subst (λ x. faces_in sh x s ≡ 1 → edges_left sh x s ≡ true → ring_half sh x s ≡ 0
      → spur_half sh x s ≡ 0 → turned sh s r w ≡ act sh w (kemr (crossed_half sh x s) (free_loop sh x))) a
      (λ one left none no-spur. rw (eqb_same one, left, eqb_same none, eqb_same no-spur))

  pub turned_c : (x : List ℕ) → w.state.links ≡ x → faces_in sh x s ≡ 1 → edges_left sh x s ≡ false → ring_of sh x r ≢ 0
      → turned sh s r w
      ≡ act sh (act sh w (mekr (face_outer sh x r) (ring_of sh x r) (free_edge sh x))) (kev (2 * free_edge sh x - 1))
  unfolding turned
  turned_c x a = subst (λ x. faces_in sh x s ≡ 1 → edges_left sh x s ≡ false → ring_of sh x r ≢ 0
      → turned sh s r w
      ≡ act sh (act sh w (mekr (face_outer sh x r) (ring_of sh x r) (free_edge sh x))) (kev (2 * free_edge sh x - 1))) a
      (λ one left d. rw (eqb_same one, left, eqb_other d))

  pub turned_last : (x : List ℕ) → w.state.links ≡ x → faces_in sh x s ≡ 1 → edges_left sh x s ≡ false
      → ring_of sh x r ≡ 0
      → turned sh s r w ≡ act sh w (kvsf s)
  unfolding turned
  turned_last x a = subst (λ x. faces_in sh x s ≡ 1 → edges_left sh x s ≡ false → ring_of sh x r ≡ 0
      → turned sh s r w ≡ act sh w (kvsf s)) a
      (λ one left none. rw (eqb_same one, left, eqb_same none))

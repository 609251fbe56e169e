-- The ways through B, one law each, over plain variables: a ring's half-edge, a spur, a crossed edge.
use Rattle.std.specs.Prelude.{◌≡◌, ◌≢◌, Bool, false, List, ℕ, ◌*◌, eqb, Option, None, Some}
use Rattle.std.proofs.Common.{eq-eqb, ne_eqb, sym, refl, ◌∙◌}
use Rattle.layout.specs.declared.shape.Shape.{Shape}
use Rattle.layout.specs.Layout.{loop_of}
use Rattle.takedown.specs.declared.ends.Ends.{Ends}
use Rattle.takedown.specs.Inversion.{kev, kemr, free_face, free_loop, in_ring, is_crossed}
use Rattle.takedown.specs.Inversion.{Work, act, turn_ring}
use Rattle.takedown.specs.Swift.{Swift, seek, with_half, ring_ends, spur_ends, cross_ends, spur_from}
use Rattle.takedown.specs.Swift.{ring_turn}
use Rattle.takedown.specs.Swift.{ring_lacks}
use Rattle.takedown_plans.specs.declared.plans.Plan.{Plan}
use Rattle.takedown_plans.specs.Plans.{swift_is, PlanFor}

-- a plan for what lacks and comes to the same
plan_for : (sh : Shape) (p : Option Plan) {a b : Bool} {f g : Work → Swift} → PlanFor sh p a f → a ≡ b
    → ((w : Work) → f w ≡ g w) → PlanFor sh p b g
plan_for sh None h e q = sym e ∙ h
plan_for sh (Some r) h e q = (sym e ∙ h.0, λ w. h.1 w ∙ q w, h.2)

module _ (sh : Shape) (x : List ℕ) (e on : Ends) (h k : ℕ) (eon : on ≡ with_half e h)
    (ek : k ≡ seek (2 * sh.edges) e.ring (in_ring sh x e.solid)) (p : Option Plan) where
  -- whether the turn lacks a number
  abbrev pub lacks : Bool
  lacks = ring_lacks sh e x (seek (2 * sh.edges) e.ring (in_ring sh x e.solid))

  -- the turn
  abbrev pub turn : Work → Swift
  turn = ring_turn sh e x h (seek (2 * sh.edges) e.ring (in_ring sh x e.solid))

  pub edges_ring : k ≢ 0
      → PlanFor sh p (eqb (free_face sh x) 0)
      (λ w. swift_is (turn_ring sh k (loop_of sh x k) (free_face sh x) w) (ring_ends sh x on k))
      → PlanFor sh p lacks turn
  edges_ring z h = plan_for sh p h (rw (← ek, ne_eqb k 0 z) refl) (λ w. rw (← ek, ne_eqb k 0 z, eon) refl)

  module _ (z : k ≡ 0) (j : ℕ) (ej : j ≡ spur_from sh x e) where
    pub edges_spur : j ≢ 0
        → PlanFor sh p false (λ w. swift_is (act sh w (kev j)) (spur_ends sh x on j))
        → PlanFor sh p lacks turn
    edges_spur y h =
        plan_for sh p h (rw (← ek, eq-eqb k 0 z, ← ej, ne_eqb j 0 y) refl)
        (λ w. rw (← ek, eq-eqb k 0 z, ← ej, ne_eqb j 0 y, eon) refl)

    pub edges_crossed : j ≡ 0 → (m : ℕ) → m ≡ seek (2 * sh.edges) e.cross (is_crossed sh x e.solid)
        → PlanFor sh p (eqb (free_loop sh x) 0)
        (λ w. swift_is (act sh w (kemr m (free_loop sh x))) (cross_ends sh x on m))
        → PlanFor sh p lacks turn
    edges_crossed y m em h =
        plan_for sh p h (rw (← ek, eq-eqb k 0 z, ← ej, eq-eqb j 0 y) refl)
        (λ w. rw (← ek, eq-eqb k 0 z, ← ej, eq-eqb j 0 y, ← em, eon) refl)

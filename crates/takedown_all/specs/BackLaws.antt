-- Back operator by operator: the way out of the loop and round it, over plain variables.
use Rattle.std.specs.Prelude.{◌≡◌, List, ℤ}
use Rattle.std.proofs.Math.Path.{ap}
use Prim.Native.Nat.{ℕ, suc, ◌≤◌}
use native.Mathlib.Omega.{arith}
use Rattle.codec.specs.declared.Limits.{Limits}
use Rattle.script.specs.declared.ReadAnswer.{ReadAnswer}
use Rattle.script.specs.Operator.{read_operator}
use Rattle.layout.specs.declared.shape.Shape.{Shape}
use Rattle.euler.specs.Exec.{limits, links_after, points_after}
use Rattle.runs.specs.Run.{State, state}
use Rattle.takedown.specs.Swift.{undone}

module _ (sh : Shape) (left : ℕ) (t whole : State) (rest : undone left sh t ≡ whole) where
  -- no operator is left
  pub back_out : left ≤ 0 → (t.links ≡ whole.links) × (t.points ≡ whole.points)
  unfolding undone
  back_out h =
      let n : left ≡ 0 = omega arith in
      let same : t ≡ whole = rw n at rest in (ap (λ s. s.links) same, ap (λ s. s.points) same)

  -- one more is carried out, and the next stands behind it
  pub back_on : (n : ℕ) → left ≡ suc n → (m : Limits) → m ≡ limits sh → (r : ReadAnswer)
      → r ≡ read_operator m t.log t.start
      → (y : List ℕ) (q : List ℤ) → y ≡ links_after sh t.links r.op
      → q ≡ points_after sh t.links t.points r.op
      → undone n sh (state y q t.log r.next) ≡ whole
  unfolding undone
  back_on n en m em r er y q ey eq = rw (ey, eq, er, em) (rw en at rest)

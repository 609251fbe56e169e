-- The ways through an operator and the rings that move, one law each, over plain variables.
use Rattle.std.specs.Prelude.{◌≡◌, Bool, true, false, List, ℤ, length}
use Prim.Native.Nat.{ℕ, suc, ◌+◌, ◌-◌, ◌≤◌, ◌<◌}
use native.Mathlib.Omega.{arith}
use Rattle.script.specs.declared.Operator.{Operator}
use Rattle.script.specs.Operator.{operator_bytes, put_bytes}
use Rattle.layout.specs.declared.shape.Shape.{Shape}
use Rattle.layout.specs.Items.{is_ring}
use Rattle.euler.specs.Exec.{links_after, points_after, inverse}
use Rattle.runs.specs.Run.{state, inverse_bytes, stepped}
use Rattle.takedown.specs.Inversion.{rmov, is_ring_of, Work, work, links_in, act, make_outer, moved_ring, move_rings}

-- ---- one operator

pub act_is : (sh : Shape) (x : List ℕ) (p : List ℤ) (log : List ℕ) (done start : ℕ) (o v : Operator) (n from d : ℕ)
    (y : List ℕ) (q : List ℤ) (m : List ℕ) → d ≡ done + 1
    → v ≡ inverse sh x p o → n ≡ length (operator_bytes v) → from ≡ start - n
    → y ≡ links_after sh x o → q ≡ points_after sh x p o → m ≡ put_bytes log from (operator_bytes v)
    → work d (state y q m from) ≡ act sh (work done (state x p log start)) o
unfolding act stepped inverse_bytes
act_is sh x p log done start o v n from d y q m ed ev en ef ey eq em = rw (ed, em, ef, en, ev, ey, eq)

-- ---- A

-- l is a ring and is made outer, or stays
module _ (sh : Shape) (l f : ℕ) (w : Work) (b : Bool) (e : b ≡ is_ring sh (links_in w) l) where
  pub outer_made : b ≡ true → (o : Operator) → o ≡ rmov l f → (v : Work) → v ≡ act sh w o → v ≡ make_outer sh l f w
  unfolding make_outer
  outer_made t o eo v ev = rw (← e, t, ← eo) ev

  pub outer_kept : b ≡ false → w ≡ make_outer sh l f w
  unfolding make_outer
  outer_kept t = rw (← e, t)

-- loop i is a ring of g and moves, or stays
module _ (sh : Shape) (i g r : ℕ) (w : Work) (b : Bool) (e : b ≡ is_ring_of sh (links_in w) g i) where
  pub ring_moved : b ≡ true → (o : Operator) → o ≡ rmov i r → (v : Work) → v ≡ act sh w o → v ≡ moved_ring sh i g r w
  ring_moved t o eo v ev = rw (← e, t, ← eo) ev

  pub ring_kept : b ≡ false → w ≡ moved_ring sh i g r w
  ring_kept t = rw (← e, t)

-- ring after ring
module _ (sh : Shape) (left i g r : ℕ) (w whole : Work) (rest : move_rings sh left i g r w ≡ whole) where
  pub rings_turn : 0 < left → (v : Work) → v ≡ moved_ring sh i g r w → (m : ℕ) → m ≡ left - 1
      → move_rings sh m (i + 1) g r v ≡ whole
  unfolding move_rings
  rings_turn h v ev m em = let n : left ≡ suc (left - 1) = omega arith in rw (em, ev) (rw n at rest)

  pub rings_out : left ≤ 0 → w ≡ whole
  unfolding move_rings
  rings_out h = let n : left ≡ 0 = omega arith in rw n at rest

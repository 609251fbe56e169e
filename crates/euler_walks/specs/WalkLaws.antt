-- The ways out of the loop that looks for a loop's first, one law each: what is left of the search is the whole of it.
-- (Those of a run given another loop are in `Passed` of crate euler.)
use Rattle.std.specs.Prelude.{◌≡◌, List, eqb, ltb}
use Rattle.std.proofs.Math.Logic.{⊎_elim}
use Prim.Native.Nat.{ℕ, suc, min, ◌+◌, ◌-◌, ◌<◌, ◌≤◌}
use native.Mathlib.Omega.{arith}
use borrow.Author.Tests.{eq-eqb, ne_eqb, lt-ltb, le-ltb}
use Rattle.laws.specs.Bools.{pick, le?}
use Rattle.layout.specs.declared.shape.Shape.{Shape}
use Rattle.layout.specs.Layout.{loop_of, next_of, set_loop_first, set_loop_isolated}
use Rattle.euler.specs.Surgery.{seek, first_from, renew}

-- the lesser of two
pub lesser : (m n : ℕ) → min m n ≡ pick (ltb n m) n m
lesser m n = ⊎_elim (λ (h : m ≤ n). rw (le-ltb n m h) (omega arith)) (λ (h : n < m). rw (lt-ltb n m h) (omega arith))
    (le? m n)

-- the search for a loop's first begins at `low`, and with what follows k
pub seek_from : (sh : Shape) (x : List ℕ) (l low k at j : ℕ) → at ≡ next_of sh x k → j ≡ low
    → seek sh (k - j) x l j at k k ≡ first_from sh x l low k
seek_from sh x l low k at j e f = rw (e, f)

module _ (sh : Shape) (x : List ℕ) (l top j k stop best whole : ℕ) (rest : seek sh (top - j) x l j k stop best
    ≡ whole) where
  pub seek_here : j < top → (owner : ℕ) → owner ≡ loop_of sh x j → owner ≡ l → j ≡ whole
  unfolding seek
  seek_here h owner e q = let n : top - j ≡ suc (top - j - 1) = omega arith in rw (n, ← e, eq-eqb owner l q) at rest

  pub seek_stop : j < top → (owner : ℕ) → owner ≡ loop_of sh x j → (owner ≡ l → ⊥) → k ≡ stop → best ≡ whole
  unfolding seek
  seek_stop h owner e q f = let n : top - j ≡ suc (top - j - 1) = omega arith in
      rw (n, ← e, ne_eqb owner l q, eq-eqb k stop f) at rest

  pub seek_turn : j < top → (owner : ℕ) → owner ≡ loop_of sh x j → (owner ≡ l → ⊥) → (k ≡ stop → ⊥) → (b m : ℕ)
      → b ≡ pick (ltb k best) k best → m ≡ next_of sh x k
      → seek sh (top - (j + 1)) x l (j + 1) m stop b ≡ whole
  unfolding seek
  seek_turn h owner e q f b m p r =
      let n : top - j ≡ suc (top - (j + 1)) = omega arith in
      rw (r, p) (rw (n, ← e, ne_eqb owner l q, ne_eqb k stop f) at rest)

  pub seek_out : top ≤ j → best ≡ whole
  unfolding seek
  seek_out h = let n : top - j ≡ 0 = omega arith in rw n at rest

-- a loop's first anew: the least goes in, then the isolated vertex
pub renew_is : (sh : Shape) (x y z : List ℕ) (l low k u f v : ℕ) → f ≡ first_from sh x l low k → v ≡ pick (eqb k 0) u 0
    → y ≡ set_loop_first sh x l f → z ≡ set_loop_isolated sh y l v → z ≡ renew sh x l low k u
unfolding renew
renew_is sh x y z l low k u f v a b p q = rw (q, p, b, a)

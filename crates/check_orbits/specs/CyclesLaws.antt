-- The turns of the loops that mark half-edges.
use Rattle.std.specs.Prelude.{◌≡◌, ◌≢◌, List, get_or, set}
use Rattle.std.proofs.Common.{sym, ap, ◌∙◌}
use Prim.Native.Nat.{ℕ, zero, suc, ◌+◌, ◌-◌, ◌≤◌, ◌<◌}
use Rattle.std.proofs.Math.Numerals.{add-one}
use native.Mathlib.Omega.{arith}
use Rattle.laws.specs.Bools.{eqb_same, eqb_other}
use Rattle.laws.specs.Marks.{mark_from, mark_rep, mark_to, mark_stop, mark_on}

-- ---- one walk

module _ (f : ℕ → ℕ) (left k : ℕ) (a whole : List ℕ) (rest : mark_from f left k a ≡ whole) where
  -- a marked half-edge ends it
  pub walk_stop : (m : ℕ) → m ≡ get_or a k 0 → m ≢ 0 → a ≡ whole
  walk_stop m e h = sym (mark_stop f left k a (λ z. h (e ∙ z))) ∙ rest

  -- so does the end of the fuel
  pub walk_out : left ≤ 0 → a ≡ whole
  unfolding mark_from
  walk_out h = let z : left ≡ 0 = omega arith in rw z at rest

-- another half-edge is marked
pub walk_turn : (f : ℕ → ℕ) (left k : ℕ) (a whole : List ℕ) → mark_from f left k a ≡ whole → 0 < left
    → (m : ℕ) → m ≡ get_or a k 0 → m ≡ 0 → (b : List ℕ) → b ≡ set a k 1 → (j : ℕ) → j ≡ f k
    → mark_from f (left - 1) j b ≡ whole
walk_turn f zero k a whole rest h m e z b d j q = absurd (omega arith)
walk_turn f (suc n) k a whole rest h m e z b d j q =
    let s : suc n - 1 ≡ n = omega arith in
    rw (s, d, q) (sym (mark_on f n k a (sym e ∙ z)) ∙ rest)

-- ---- the walks of all labels

-- no representative
pub rep_none : (f : ℕ → ℕ) (n r : ℕ) (a : List ℕ) → r ≡ 0 → a ≡ mark_rep f n r a
unfolding mark_rep
rep_none f n r a e = rw (eqb_same e)

-- a representative
pub rep_some : (f : ℕ → ℕ) (n r : ℕ) (a b : List ℕ) → r ≢ 0 → b ≡ mark_from f n r a → b ≡ mark_rep f n r a
unfolding mark_rep
rep_some f n r a b h e = rw (eqb_other h) e

module _ (f : ℕ → ℕ) (n : ℕ) (rep : ℕ → ℕ) (l : ℕ) (a₀ a : List ℕ) (so_far : a ≡ mark_to f n rep l a₀) where
  -- one label more
  pub reps_turn : (r : ℕ) (b : List ℕ) → r ≡ rep (l + 1) → b ≡ mark_rep f n r a → b ≡ mark_to f n rep (l + 1) a₀
  unfolding mark_to
  reps_turn r b e d = rw (d, e, so_far, add-one l)

  -- the last label
  pub reps_out : (m : ℕ) → l ≤ m → m ≤ l → a ≡ mark_to f n rep m a₀
  reps_out m lo hi = so_far ∙ ap (λ i. mark_to f n rep i a₀) (omega arith)

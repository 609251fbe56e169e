-- Amid kef: the walk that joins the two loops, at each half-edge that it passes (document 02, job 3).
--
-- k's loop is killed, that of its mate is kept. The run is the rest of k's loop: from next of k up to before k. kef's
-- first step gives it the kept loop, half-edge by half-edge where it sits: `passed n` are the links when n of them have
-- been passed, and these are the states of the code's loop (`Walked`, the invariant of `relabel_steps`).
use Rattle.std.specs.Prelude.{◌≡◌, ◌≢◌, ◌⊎◌, false, List, ℕ, ◌*◌, ◌≤◌, ◌<◌, ℤ}
use Rattle.std.specs.Prelude.{length, drop}
use Rattle.laws.specs.Permutations.{iter}
use Rattle.layout.specs.declared.shape.Shape.{Shape}
use Rattle.layout.specs.Layout.{loop_of, next_of}
use Rattle.layout.specs.Mate.{mate}
use Rattle.layout.specs.Fields.{Field, Loop, cap_of, column, same_field}
use Rattle.euler.specs.Surgery.{passed}
use Rattle.euler.specs.Steps.{after}
use Rattle.euler.specs.EdgeOperators.{kef_steps}
use Rattle.euler.specs.Exec.{marks_after, points_after}
use Rattle.sound_tables.specs.Sound.{In}
use Rattle.sound_tables.specs.Walking.{Steps}
use Rattle.sound_cuts.specs.MefOperands.{kef_of}

-- the half-edges of the run, in the order of next: the first is next of k, number 0
abbrev pub rest_at : Shape → List ℕ → ℕ → ℕ → ℕ
rest_at sh x k t = iter (next_of sh x) t (next_of sh x k)

-- the links when n of the run have been passed
abbrev pub amid_kef : Shape → List ℕ → ℕ → ℕ → List ℕ
amid_kef sh x k n = passed sh n x (next_of sh x k) (loop_of sh x (mate k))

-- x are the links before kef k, y those when n of the d half-edges of the run have been passed
pub record KefAmid (sh : Shape) (x : List ℕ) (k d n : ℕ) (y : List ℕ) : Type 0 where
  -- "those behind name the kept loop"
  pub behind : (t : ℕ) → t < n → loop_of sh y (rest_at sh x k t) ≡ loop_of sh x (mate k)
  -- "those ahead the killed one"
  pub ahead : (t : ℕ) → n ≤ t → t < d → loop_of sh y (rest_at sh x k t) ≡ loop_of sh x k
  -- "and besides only the killed edge's loop words differ": ours do not differ yet (its halves are outside the run)
  pub edge : (loop_of sh y k ≡ loop_of sh x k) × (loop_of sh y (mate k) ≡ loop_of sh x (mate k))
  -- nor does the loop of any half-edge outside the run
  pub outside : (i : ℕ) → In (2 * sh.edges) i → ((t : ℕ) → t < d → rest_at sh x k t ≢ i)
      → loop_of sh y i ≡ loop_of sh x i
  -- nor any other word of the links: the other fields, the capacities among them, are all there are
  pub others : (F : Field) → same_field Loop F ≡ false → (i : ℕ) → In (cap_of sh F) i
      → column sh F y i ≡ column sh F x i
  pub long : length y ≡ length x

-- kef k relabels the run where it sits
pub record KefInPlace (sh : Shape) (x : List ℕ) (k : ℕ) : Type 0 where
  -- the two loops are two
  pub differ : loop_of sh x (mate k) ≢ loop_of sh x k
  -- the run has d half-edges: so many steps from next of k on k is met, and not before
  pub d : ℕ
  pub run : Steps (next_of sh x) (next_of sh x k) k d
  -- with k it is all of the killed loop
  pub rest : (i : ℕ) → In (2 * sh.edges) i → loop_of sh x i ≡ loop_of sh x k
      → (i ≡ k) ⊎ ((t : ℕ) × (t < d) × (rest_at sh x k t ≡ i))
  -- "at each half-edge passed", from before the first to behind the last
  pub amid : (n : ℕ) → n ≤ d → KefAmid sh x k d n (amid_kef sh x k n)
  -- where no other links are like that: the sentence settles every word
  pub settled : (n : ℕ) (y z : List ℕ) → KefAmid sh x k d n y → KefAmid sh x k d n z → y ≡ z
  -- and with all of them passed kef goes on, by its other steps
  pub goes_on : marks_after sh x (kef_of k) ≡ after sh (drop 1 (kef_steps sh x k)) (amid_kef sh x k d)
  -- no point moves, amid kef or by it: the walk's code is not lent them
  pub points : (p : List ℤ) → points_after sh x p (kef_of k) ≡ p

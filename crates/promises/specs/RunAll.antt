-- Scripts run one after the other, each on what the one before left.
use Rattle.std.specs.Prelude.{ℕ, ◌+◌, List, [], ◌∷◌}
use Rattle.runs.specs.Run.{State, state, Ran, run_of}

-- the state that a run leaves
abbrev pub left_by : Ran → State
left_by r = state r.links r.points r.log r.answer.start

-- what a list of runs comes to: the sum of the done counts, and the state that the last one left
pub record Runs : Type 0 where
  pub done : ℕ
  pub last : State

-- each script of a list run on what the last left
unfoldable pub run_all : State → List (List ℕ) → Runs
run_all t [] = record { done = 0; last = t }
run_all t (s ∷ ss) = record {
  done = (run_of t s).answer.done + (run_all (left_by (run_of t s)) ss).done;
  last = (run_all (left_by (run_of t s)) ss).last;
}
